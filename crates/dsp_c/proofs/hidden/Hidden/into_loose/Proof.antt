-- `into_loose` takes a handle that holds a box apart.
use Rattle.std.proofs.Common.{◌≡◌, ℕ, List, [], ◌∷◌, ◌++◌, refl, sym, ap, ◌∙◌, subst, true}
use Rattle.std.specs.Prelude.{Option, Some, None, is_some}
use Rattle.dsp_c.specs.declared.held.Held.{Held}
use Rattle.dsp_c.specs.Holding.{if_some}
use lib.Dec.{T}
use seplogic.Ra.Ura.{Ura}
use mir.Val.{Val, of_list, vptr, vbool, vstruct, vcons, vnil, has_ty, WT}
use base.Logic.{SProp, ent, emp, id⊢, never, fst∗}
use mir.Raw.{raw as bare}
use mir.Syntax.{impl, tnil, dnil}
use types.Logic.{sem}
use base.Fml.{ftrue, fsep}
use prog.Wp.{WpFn}
use types.Kit.{Item, ‵, raw, ◌⊛◌, ◌$◌, ◌∵◌, !, qed, by, move, keep, drop, split, join, fsplit, fjoin, fpack, fpick}
use types.Kit.{feq_l, rewrite, suffices, use0, use1, done, feq_i}
use types.Run.{stop, fld, of_opd, true_lit, no_more, and_then, returns, enter}
use types.ByLocal.{alloc_all, pass_all, free_all, look_at, get, get_in, sets}
use types.Part.{agg, sub, whole}
use contract.Monad.{fact, fact_i}
use contract.Running.{tables}
use denote.Exit.{yes}
use denote.RattleType.{RattleType, Valss, owns}
use denote.Builtin.{RawPtr, bool}
use denote.Param.{layout}
use denote.Struct.Struct.{within}
use denote.Struct.Owning.{shape}
use Rattle.std_alloc.proofs.ResultValues.{and_tt}
use Rattle.dsp_c.specs.contracts.hidden.Hidden as handle
use denote.Signature.{types_at, plain}
use denote.RawPtr.{Ptr, block_ptr, null_ptr, ptr_val, in_a_block}
use denote.Memory.{lone}
use denote.Steps.{nothing, heard}
use denote.Triple.Walked.{Stays, stay_dropped, walk_of}
use Rattle.core.proofs.alloc.Calls.{Al, Goes-blank, handle_tells}
use Rattle.std_alloc.specs.Box.Ownership.{box_owns}
use Rattle.std.proofs.raw_atomic.Walks.{proved_at, leaves}
use Rattle.std.specs.contracts.alloc.Global as heap
use Rattle.std.specs.contracts.impls.GlobalAllocator.TheImpl.{ghosts}
use Rattle.std.proofs.alloc.Global.TheLaws as heap_laws
use Rattle.dsp_c.proofs.LooseSteps.{both, loose_good, loose_in}
use Rattle.dsp_c.specs.contracts.held.Held as held
use Rattle.dsp_c.specs.contracts.hidden.Hidden.into_loose.{ended, clauses}
use Rattle.dsp_c.specs.contracts.hidden.Hidden.into_loose.Key.{name as #self}
use Rattle.dsp_c.proofs.hidden.Hidden.into_loose.Statement.{statement}
use Rattle.dsp_c.proofs.hidden.Hidden.into_loose.Code as code

some_of : (o : Option Held) → is_some o ≡ true → (x : Held) × (o ≡ Some x)
some_of (Some x) told = (x, refl)
some_of None told = absurd (cc told)

pub into_loose_spec : {M : Type 1} → statement M
into_loose_spec 𝓤 𝓛 𝓜 𝓡 wired =
    let H = 𝓛.H in let 𝓣 = tables 𝓤 H 𝓜 𝓡 𝓡.env in let R : RattleType = held.the_row in let Z : RattleType =
    heap.the_row in let LZ = heap_laws.the_row_laws in let c = clauses 𝓛 𝓜.mem 𝓡.returns in let fn =
    code.function in
    let al : Al = record { row = Z; laws = LZ; g = ghosts; d = impl [] tnil dnil; drops = impl [] tnil dnil } in
    let hs : Stays ended.signature.params ended.kept = (stay_dropped (plain (λ _. handle.the_row)) yes, tt) in
    proved_at 𝓛 ended hs c 𝓜 𝓡 (Goes-blank 𝓛 0 (plain (λ _. handle.the_row)) yes (λ κs x f. tt), tt) #self fn
    (code.unfolded 𝓤 H 𝓜 𝓡 wired) (λ z are.
    let v = z.0.3.0 in let Post : Val → SProp 𝓤 = (walk_of 𝓛 ended hs c).post z in let Run : List Val → SProp 𝓤 =
    λ ws. WpFn 𝓤 H 𝓣.C 𝓣.Λ fn ws Post in
    qed 𝓛 ((‵ ftrue ⊛ ‵ (fsep (handle.the_row.own_val v z.0.4.0) ftrue)) ∷ raw (fact 𝓤 (is_some v.held ≡ true)) ∷ [])
    ∵ move ! (1 ∷ []) $ heard ! (is_some v.held ≡ true)
    (λ full. let (x, is) = some_of v.held full in split ! $ move ! (1 ∷ []) $ fsplit ! $ fsplit ! $
    rewrite ! 1 (λ (y : Option Held). ‵ (if_some (λ (t : Held). box_owns (ghosts.dealloc_token v.alloc) R v.at t) y))
    is refl $
    fpick ! (λ vss. fsplit ! $ feq_l ! (λ ev. fsplit ! $
    feq_l ! (λ ep. fsplit ! $ handle_tells al ! v.alloc vss.1.0
    (λ h eh fits. move ! (1 ∷ []) $ drop ! $ move ! (1 ∷ []) $
    in_a_block ! v.at (λ p. box_owns (ghosts.dealloc_token v.alloc) R p x)
    (fst∗ 𝓤 (never 𝓤) (sem 𝓛 (ghosts.dealloc_token v.alloc (bare (lone R.mir)) null_ptr))) (λ b o e.
    let w : Val = both (vptr b o) h in
    let ws : z.0.4.0 ≡ w ∷ [] = ev ∙ (λ j. vstruct (of_list
    ((ep ∙ ap (λ (p : Ptr). ptr_val p ∷ []) e) j ++ (eh j ++ []))) ∷ []) in
    suffices ! (Run (w ∷ [])) (subst (λ (us : List Val). ent 𝓤 (Run (w ∷ [])) (Run us)) (sym (λ i. ws i ++ []))
    (id⊢ 𝓤 (Run (w ∷ [])))) $
    enter ! 𝓣.C 𝓣.Λ fn (w ∷ []) Post $ alloc_all ! (λ l. pass_all ! refl ((loose_good R Z LZ ghosts b o h fits), tt) $
    sets ! (of_opd ! (get_in ! (fld ! refl (stop !)) (sub ! 0 refl (whole !)))) refl (tt, tt) $
    sets ! (of_opd ! (get_in ! (fld ! refl (stop !)) (sub ! 1 refl (whole !)))) refl fits $
    sets ! (of_opd ! (get ! refl)) refl (tt, tt) $ sets !
    (agg ! (and_then ! (get ! refl) (and_then ! (get ! refl) (no_more !)))) refl
    (loose_good R Z LZ ghosts b o h fits) $
    loose_in R Z LZ ghosts ! b o h v.alloc x $
    use0 𝓛 (raw (fact 𝓤 (v.held ≡ Some x))) (fact_i 𝓤 (v.held ≡ Some x) (emp 𝓤) is) $ nothing ! $ nothing ! $ fjoin ! $
    returns ! (look_at ! 0 refl) $ free_all ! refl $ keep ! (3 ∷ 0 ∷ 2 ∷ 1 ∷ []) $
    by ! (leaves 𝓛 ended hs c z (both (vptr b o) h) (record { at = block_ptr b o; alloc = v.alloc; value = x })
    (tt, tt) (tt, tt))))))))))
