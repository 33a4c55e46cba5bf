-- Blocks: what is read is written so and fits, and what is written so and fits is read.
use Rattle.std.proofs.Common.{◌≡◌, ◌≢◌, ℕ, zero, suc, ℤ, pos, negsuc, ◌+◌, ◌<◌, ◌≤◌, ◌^◌, Bool, true, false, cond, ◌&&◌}
use Rattle.std.proofs.Common.{◌||◌, List, [], ◌∷◌, ◌++◌, length, map, Option, Some, None, Ok, refl, sym, ap, subst}
use Rattle.std.proofs.Common.{◌∙◌, append_assoc, arith, eqb, eq-eqb}
use Rattle.std.specs.Prelude.{⊤, IfSome, codes}
use Rattle.std.specs.Str.{bytes_eq}
use Rattle.std.specs.List.{flat_map}
use Rattle.std.specs.Option.{option_map}
use Rattle.std.proofs.lemmas.Bool.{eqb-true}
use Rattle.std.proofs.lemmas.Bool.Decides.{nat_tests}
use Rattle.std.proofs.lemmas.List.Concat.{flat_map-cons}
use Rattle.std.proofs.lemmas.Slice.Eq.{bytes_eq-Decides}
use Rattle.dsp_defs.specs.declared.format.Fmt.{Fmt}
use Rattle.dsp_defs.specs.declared.script.Block.{Block}
use Rattle.dsp_defs.specs.declared.script.Block.TheVariants as block
use Rattle.dsp_defs.specs.declared.word.Word.{Word}
use Rattle.dsp_defs.specs.declared.word.Word.TheVariants as words
use Rattle.dsp_defs.specs.declared.flow.Flow.{Flow}
use Rattle.dsp_defs.specs.declared.list_rule.ListRule.{ListRule}
use Rattle.dsp_defs.specs.Token.{Run, Item, Rest}
use Rattle.dsp_defs.specs.Table.{row_of, by_name, every_word, name_of, has_form, is_correlate, flow_after}
use Rattle.dsp_defs.specs.Parameters.{Form, Done, Integer, Natural, Numbers, Conversion, IsBetween, IsWithin}
use Rattle.dsp_defs.specs.Parameters.{Argument, Number, Listed, Format, Fits, routes}
use Rattle.dsp_defs.specs.Block.{channels_after}
use Rattle.dsp_script.specs.Answers.{parameters}
use Rattle.dsp_defs.specs.Grammar.{Symbol, Name, word_of, arguments, argument_symbol, block_symbols, IsChain}
use Rattle.dsp_defs.specs.Grammar.{correlates}
use Rattle.dsp_defs.specs.Places.{◌>>=◌, next_at, choice, number, natural_at, Environment, list_at, conversion}
use Rattle.dsp_defs.specs.Tables.{Named}
use Rattle.dsp_defs.specs.Reading.{block_at, place_of, fed, may_come, next_block, blocks_at}
use Rattle.dsp_script.proofs.Steps.{bind_ok, read_to, passed, refused, chosen, written_name, one_taken, ok_is, pair}
use Rattle.dsp_script.proofs.Steps.{pair_is, Strips, Strips-split, Takes, Takes-then, Takes-none, next_takes, one_again}
use Rattle.dsp_script.proofs.Steps.{choice_run, by_name_is, number_takes, natural_takes, conversion_takes}
use Rattle.dsp_script.proofs.Steps.{number_read, natural_read, conversion_read}
use Rattle.dsp_script.proofs.Names.{place_again, place_again_output}
use Rattle.dsp_script.proofs.ListLaws.{tables_in, list_takes, list_read}

-- ---- what a form's arguments are

fits_done : (made : Block) (args : List Argument) (b : Block) → Fits (Done made) args b → (args ≡ []) × (made ≡ b)
fits_done made [] b h = (refl, h)
fits_done made (a ∷ args) b h = absurd h

fits_integer : (low high : ℤ) (next : ℤ → Form) (args : List Argument) (b : Block) →
    Fits (Integer low high next) args b → (n : ℤ) × (more : List Argument) × (args ≡ Number n ∷ more) ×
    IsBetween low high n × Fits (next n) more b
fits_integer low high next [] b h = absurd h
fits_integer low high next (Number n ∷ args) b h = (n, args, refl, h.0, h.1)
fits_integer low high next (Listed ns ∷ args) b h = absurd h
fits_integer low high next (Format f ∷ args) b h = absurd h

fits_natural : (low high : ℕ) (next : ℕ → Form) (args : List Argument) (b : Block) →
    Fits (Natural low high next) args b → (n : ℕ) × (more : List Argument) × (args ≡ Number (pos n) ∷ more) ×
    (low ≤ n) × (n ≤ high) × Fits (next n) more b
fits_natural low high next [] b h = absurd h
fits_natural low high next (Number (pos n) ∷ args) b h = (n, args, refl, h.0, h.1, h.2)
fits_natural low high next (Number (negsuc n) ∷ args) b h = absurd h
fits_natural low high next (Listed ns ∷ args) b h = absurd h
fits_natural low high next (Format f ∷ args) b h = absurd h

fits_numbers : (rule : ListRule) (next : List ℤ → Form) (args : List Argument) (b : Block) →
    Fits (Numbers rule next) args b → (ns : List ℤ) × (more : List Argument) × (args ≡ Listed ns ∷ more) ×
    IsWithin rule ns × Fits (next ns) more b
fits_numbers rule next [] b h = absurd h
fits_numbers rule next (Number n ∷ args) b h = absurd h
fits_numbers rule next (Listed ns ∷ args) b h = (ns, args, refl, h.0, h.1)
fits_numbers rule next (Format f ∷ args) b h = absurd h

fits_conversion : (from : Fmt) (next : Fmt → Form) (args : List Argument) (b : Block) →
    Fits (Conversion from next) args b → (f : Fmt) × (more : List Argument) × (args ≡ Format f ∷ more) × (f ≢ from) ×
    Fits (next f) more b
fits_conversion from next [] b h = absurd h
fits_conversion from next (Number n ∷ args) b h = absurd h
fits_conversion from next (Listed ns ∷ args) b h = absurd h
fits_conversion from next (Format f ∷ args) b h = (f, args, refl, h.0, h.1)

-- ---- forms

form_takes : (environment : Environment) (form : Form) (rest after : Rest) (b : Block) →
    block_at environment form rest ≡ Ok (b, after) → (args : List Argument) ×
    Takes (tables_in environment) rest after (map argument_symbol args) × Fits form args b
unfolding block_at
form_takes environment (Done made) rest after b e = let p = pair_is made b rest after e in
    ([], Takes-none (tables_in environment) rest after p.1, p.0)
form_takes environment (Integer low high next) rest after b e =
    let a = bind_ok (next_at (number low high) rest) _ (b, after) e in
    let t = number_takes (tables_in environment) low high rest a.0.1 a.0.0 a.1 in
    let more = form_takes environment (next a.0.0) a.0.1 after b a.2 in
    (Number a.0.0 ∷ more.0, Takes-then t.0 more.1, (t.1, more.2))
form_takes environment (Natural low high next) rest after b e =
    let a = bind_ok (natural_at low high rest) _ (b, after) e in
    let t = natural_takes (tables_in environment) low high rest a.0.1 a.0.0 a.1 in
    let more = form_takes environment (next a.0.0) a.0.1 after b a.2 in
    (Number (pos a.0.0) ∷ more.0, Takes-then t.0 more.1, (t.1, t.2, more.2))
form_takes environment (Numbers rule next) rest after b e =
    let a = bind_ok (list_at environment rule rest) _ (b, after) e in
    let t = list_takes environment rule rest a.0.1 a.0.0 a.1 in
    let more = form_takes environment (next a.0.0) a.0.1 after b a.2 in
    (Listed a.0.0 ∷ more.0, Takes-then t.0 more.1, (t.1, more.2))
form_takes environment (Conversion from next) rest after b e =
    let a = bind_ok (next_at (conversion from) rest) _ (b, after) e in
    let t = conversion_takes (tables_in environment) from rest a.0.1 a.0.0 a.1 in
    let more = form_takes environment (next a.0.0) a.0.1 after b a.2 in
    (Format a.0.0 ∷ more.0, Takes-then t.0 more.1, (t.1, more.2))

parts : (environment : Environment) (args more : List Argument) (a : Argument) (items left : List Item) →
    args ≡ a ∷ more → Strips (tables_in environment) items (map argument_symbol args) left → (between : List Item) ×
    Strips (tables_in environment) items (argument_symbol a ∷ []) between ×
    Strips (tables_in environment) between (map argument_symbol more) left
parts environment args more a items left e h = Strips-split (tables_in environment) items (argument_symbol a ∷ [])
    (map argument_symbol more) left (rw e at h)

form_read : (environment : Environment) (form : Form) (args : List Argument) (b : Block) (items left : List Item)
    (end : ℕ) → Fits form args b → Strips (tables_in environment) items (map argument_symbol args) left →
    block_at environment form (record { items = items; end = end }) ≡ Ok (b, record { items = left; end = end })
unfolding block_at
form_read environment (Done made) args b items left end fits h =
    let d = fits_done made args b fits in
    let same : items ≡ left = rw d.0 at h in
    rw (d.1, same) refl
form_read environment (Integer low high next) args b items left end fits h =
    let f = fits_integer low high next args b fits in
    let s = parts environment args f.1 (Number f.0) items left f.2 h in
    rw (number_read (tables_in environment) low high f.0 items s.0 end f.3 s.1)
    (form_read environment (next f.0) f.1 b s.0 left end f.4 s.2)
form_read environment (Natural low high next) args b items left end fits h =
    let f = fits_natural low high next args b fits in
    let s = parts environment args f.1 (Number (pos f.0)) items left f.2 h in
    rw (natural_read (tables_in environment) low high f.0 items s.0 end f.3 f.4 s.1)
    (form_read environment (next f.0) f.1 b s.0 left end f.5 s.2)
form_read environment (Numbers rule next) args b items left end fits h =
    let f = fits_numbers rule next args b fits in
    let s = parts environment args f.1 (Listed f.0) items left f.2 h in
    rw (list_read environment rule f.0 items s.0 end f.3 s.1)
    (form_read environment (next f.0) f.1 b s.0 left end f.4 s.2)
form_read environment (Conversion from next) args b items left end fits h =
    let f = fits_conversion from next args b fits in
    let s = parts environment args f.1 (Format f.0) items left f.2 h in
    rw (conversion_read (tables_in environment) from f.0 items s.0 end f.3 s.1)
    (form_read environment (next f.0) f.1 b s.0 left end f.4 s.2)

-- ---- the rows: a block's arguments are those that made it

-- whatever its numbers are, the form makes a block of this word with these arguments, after those so far
abbrev Makes : Word → (List Argument → List Argument) → Form → Type 0
Makes w so_far (Done made) = (word_of made ≡ w) × (arguments made ≡ so_far [])
Makes w so_far (Integer low high next) = (n : ℤ) → Makes w (λ more. so_far (Number n ∷ more)) (next n)
Makes w so_far (Natural low high next) = (n : ℕ) → Makes w (λ more. so_far (Number (pos n) ∷ more)) (next n)
Makes w so_far (Numbers rule next) = (ns : List ℤ) → Makes w (λ more. so_far (Listed ns ∷ more)) (next ns)
Makes w so_far (Conversion from next) = (f : Fmt) → Makes w (λ more. so_far (Format f ∷ more)) (next f)

row : (w : Word) (flow : Flow) → Makes w (λ args. args) (parameters w flow)
row words.Offset flow = λ value. (refl, refl)
row words.Negate flow = (refl, refl)
row words.Abs flow = (refl, refl)
row words.Scale flow = λ fract shift. (refl, refl)
row words.Shift flow = λ shift. (refl, refl)
row words.Clip flow = λ low high. (refl, refl)
row words.To flow = λ format. (refl, refl)
row words.Add flow = (refl, refl)
row words.Sub flow = (refl, refl)
row words.Mult flow = (refl, refl)
row words.Conj flow = (refl, refl)
row words.CmplxMult flow = (refl, refl)
row words.CmplxMultReal flow = (refl, refl)
row words.MagSquared flow = (refl, refl)
row words.Fir flow = λ taps. (refl, refl)
row words.Sparse flow = λ taps delays. (refl, refl)
row words.Decimate flow = λ factor taps. (refl, refl)
row words.Interpolate flow = λ factor taps. (refl, refl)
row words.LatticeFir flow = λ k. (refl, refl)
row words.LatticeIir flow = λ k v. (refl, refl)
row words.Biquad flow = λ post_shift coefficients. (refl, refl)
row words.Biquad64 flow = λ post_shift coefficients. (refl, refl)
row words.Conv flow = λ taps. (refl, refl)
row words.ConvPartial flow = λ first count taps. (refl, refl)
row words.Correlate flow = λ taps. (refl, refl)
row words.Lms flow = λ post_shift mu taps. (refl, refl)
row words.Pid flow = λ kp ki kd. (refl, refl)
row words.MatAdd flow = λ rows columns matrix. (refl, refl)
row words.MatSub flow = λ rows columns matrix. (refl, refl)
row words.MatScale flow = λ rows columns fract shift. (refl, refl)
row words.MatTrans flow = λ rows columns. (refl, refl)
row words.MatMult flow = λ rows columns given matrix. (refl, refl)
row words.Power flow = (refl, refl)
row words.Dot flow = (refl, refl)
row words.CmplxDot flow = (refl, refl)
row words.Max flow = (refl, refl)
row words.Min flow = (refl, refl)
row words.Route flow = λ channels. (refl, refl)

made_of : (w : Word) (so_far : List Argument → List Argument) (form : Form) (args : List Argument) (b : Block) →
    Makes w so_far form → Fits form args b → (word_of b ≡ w) × (arguments b ≡ so_far args)
made_of w so_far (Done made) args b m fits = let d = fits_done made args b fits in rw (d.0, ← d.1) m
made_of w so_far (Integer low high next) args b m fits =
    let f = fits_integer low high next args b fits in
    rw f.2 (made_of w (λ more. so_far (Number f.0 ∷ more)) (next f.0) f.1 b (m f.0) f.4)
made_of w so_far (Natural low high next) args b m fits =
    let f = fits_natural low high next args b fits in
    rw f.2 (made_of w (λ more. so_far (Number (pos f.0) ∷ more)) (next f.0) f.1 b (m f.0) f.5)
made_of w so_far (Numbers rule next) args b m fits =
    let f = fits_numbers rule next args b fits in
    rw f.2 (made_of w (λ more. so_far (Listed f.0 ∷ more)) (next f.0) f.1 b (m f.0) f.4)
made_of w so_far (Conversion from next) args b m fits =
    let f = fits_conversion from next args b fits in
    rw f.2 (made_of w (λ more. so_far (Format f.0 ∷ more)) (next f.0) f.1 b (m f.0) f.4)

pub made : (w : Word) (flow : Flow) (args : List Argument) (b : Block) → Fits (parameters w flow) args b →
    (word_of b ≡ w) × (arguments b ≡ args)
made w flow args b fits = made_of w (λ args. args) (parameters w flow) args b (row w flow) fits

few : (w : Word) (flow : Flow) (args : List Argument) (b : Block) → word_of b ≡ w → Fits (parameters w flow) args b →
    flow.channels < 2 ^ 8 → channels_after flow.channels b < 2 ^ 8
few w flow args (block.Route channels) is fits few_here =
    let f = fits_numbers (routes flow) (λ channels. Done (block.Route channels)) args (block.Route channels)
    (rw (← is) at fits) in
    let d = fits_done (block.Route f.0) f.1 (block.Route channels) f.4 in
    let same : f.0 ≡ channels = cc in
    rw (← same) (omega (arith, f.3.limit))
few w flow args b is fits few_here = omega (arith, few_here)

-- a block that was read gives few channels of few
pub few_channels : (environment : Environment) (w : Word) (flow : Flow) (rest after : Rest) (b : Block) →
    block_at environment (parameters w flow) rest ≡ Ok (b, after) → flow.channels < 2 ^ 8 →
    channels_after flow.channels b < 2 ^ 8
few_channels environment w flow rest after b e few_here =
    let f = form_takes environment (parameters w flow) rest after b e in
    few w flow f.0 b (made w flow f.0 b f.2).0 f.2 few_here

-- ---- a block's word

-- the block may begin where so many more may come
pub record IsAllowed (left : ℕ) (correlated : Bool) (flow : Flow) (w : Word) : Type 0 where
  pub some : 0 < left
  pub once : (is_correlate w && correlated) ≡ false
  pub form : has_form w flow.format ≡ true
  pub channels : IfSome (row_of w).channels (λ wanted. flow.channels ≡ wanted)

fed_is : (offset got : ℕ) (wanted : Option ℕ) (x : ⊤) → fed offset got wanted ≡ Ok x → IfSome wanted (λ n. got ≡ n)
fed_is offset got None x e = tt
fed_is offset got (Some n) x e = eqb-true got n (passed (eqb got n) _ tt x e).0

fed_again : (offset got : ℕ) (wanted : Option ℕ) → IfSome wanted (λ n. got ≡ n) → fed offset got wanted ≡ Ok tt
fed_again offset got None h = refl
fed_again offset got (Some n) h = rw (eq-eqb got n h) refl

may_come_is : (left : ℕ) (correlated : Bool) (flow : Flow) (offset : ℕ) (w : Word) (x : ⊤) →
    may_come left correlated flow offset (Some w) ≡ Ok x → IsAllowed left correlated flow w
may_come_is left correlated flow offset w x e =
    let first = refused (eqb left 0) _ _ x e in
    let second = refused (is_correlate w && correlated) _ _ x first.1 in
    let third = chosen (has_form w flow.format) _ _ x second.1 in
    record {
      some = grind (arith, nat_tests);
      once = second.0;
      form = third.0;
      channels =
          fed_is offset flow.channels (row_of w).channels x third.1;
    }

may_come_again : (left : ℕ) (correlated : Bool) (flow : Flow) (offset : ℕ) (w : Word) →
    IsAllowed left correlated flow w → may_come left correlated flow offset (Some w) ≡ Ok tt
may_come_again left correlated flow offset w a =
    let some : eqb left 0 ≡ false = grind (arith, nat_tests, a.some) in
    rw (some, a.once, a.form) (fed_again offset flow.channels (row_of w).channels a.channels)

place_output : (run : List ℕ) → place_of run ≡ Some None → run ≡ codes "output"
unfolding place_of
place_output run e = tested (bytes_eq run (codes "output")) (by_name name_of every_word run) refl e
  where
    tested : (b : Bool) (o : Option Word) → bytes_eq run (codes "output") ≡ b →
        cond b (Some None) (option_map (λ w. Some w) o) ≡ Some None → run ≡ codes "output"
    tested true o h e = (bytes_eq-Decides run (codes "output")).0 h
    tested false None h e = absurd cc
    tested false (Some w) h e = absurd cc

place_word : (run : List ℕ) (w : Word) → place_of run ≡ Some (Some w) → run ≡ name_of w
unfolding place_of
place_word run w e = tested (bytes_eq run (codes "output")) (by_name name_of every_word run) refl e
  where
    tested : (b : Bool) (o : Option Word) → by_name name_of every_word run ≡ o →
        cond b (Some None) (option_map (λ w. Some w) o) ≡ Some (Some w) → run ≡ name_of w
    tested true o h e = absurd cc
    tested false None h e = absurd cc
    tested false (Some v) h e = let same : v ≡ w = cc in by_name_is name_of every_word run w (h ∙ ap Some same)

-- the next block's word, or the output's, was taken
pub data NextIs (tables : List Named) (left : ℕ) (correlated : Bool) (flow : Flow) (rest after : Rest) : Option Word →
    Type 0 where
  AtOutput : Takes tables rest after (Name (codes "output") ∷ []) → NextIs tables left correlated flow rest after None
  AtBlock : (w : Word) → Takes tables rest after (Name (name_of w) ∷ []) → IsAllowed left correlated flow w →
      NextIs tables left correlated flow rest after (Some w)

pub next_block_takes : (tables : List Named) (left : ℕ) (correlated : Bool) (flow : Flow) (rest after : Rest)
    (next : Option Word) → next_at (next_block left correlated flow) rest ≡ Ok (next, after) →
    NextIs tables left correlated flow rest after next
next_block_takes tables left correlated flow rest after next e =
    let n = next_takes (next_block left correlated flow) rest after next e in
    let b = bind_ok (choice place_of n.0.offset n.0.token) _ next n.3 in
    let run = choice_run place_of n.0.offset n.0.token b.0 b.1 in
    let m = bind_ok (may_come left correlated flow n.0.offset b.0) _ next b.2 in
    rw (← ok_is b.0 next m.2) (placed b.0 n.0 n.1 n.2 run.0 run.1 run.2 m.0 m.1)
  where
    placed : (place : Option Word) (item : Item) → rest.items ≡ item ∷ after.items → rest.end ≡ after.end →
        (run : List ℕ) → item.token ≡ Run run → place_of run ≡ Some place → (x : ⊤) →
        may_come left correlated flow item.offset place ≡ Ok x → NextIs tables left correlated flow rest after place
    placed None item e end run is p x h = AtOutput (one_taken tables rest after item (Name (codes "output")) tt e end
        (rw is (place_output run p)))
    placed (Some w) item e end run is p x h = AtBlock w
        (one_taken tables rest after item (Name (name_of w)) tt e end (rw is (place_word run w p)))
        (may_come_is left correlated flow item.offset w x h)

output_read : (tables : List Named) (left : ℕ) (correlated : Bool) (flow : Flow) (items after : List Item) (end : ℕ) →
    Strips tables items (Name (codes "output") ∷ []) after →
    next_at (next_block left correlated flow) (record { items = items; end = end }) ≡ Ok
    (None, record { items = after; end = end })
output_read tables left correlated flow items after end h =
    one_again tables (next_block left correlated flow) None (Name (codes "output")) items after end tt h
    (λ item w. let e = written_name tables item.token (codes "output") w in (rw e tt, rw (e, place_again_output) refl))

word_of_block_read : (tables : List Named) (left : ℕ) (correlated : Bool) (flow : Flow) (w : Word)
    (items after : List Item) (end : ℕ) → IsAllowed left correlated flow w →
    Strips tables items (Name (name_of w) ∷ []) after → next_at (next_block left correlated flow)
    (record { items = items; end = end }) ≡ Ok (Some w, record { items = after; end = end })
word_of_block_read tables left correlated flow w items after end a h =
    one_again tables (next_block left correlated flow) (Some w) (Name (name_of w)) items after end tt h
    (λ item is. let e = written_name tables item.token (name_of w) is in
    (rw e tt, rw (e, place_again w, may_come_again left correlated flow item.offset w a) refl))

-- ---- blocks

abbrev one_if : Bool → ℕ
one_if b = cond b 1 0

-- the blocks that were read, up to the output
pub record IsBlocks (environment : Environment) (left : ℕ) (correlated : Bool) (flow : Flow) (rest after : Rest)
    (blocks : List Block) : Type 0 where
  pub takes : Takes (tables_in environment) rest after (flat_map block_symbols blocks ++ Name (codes "output") ∷ [])
  pub few : length blocks ≤ left
  pub once : correlates blocks + one_if correlated ≤ 1
  pub chain : IsChain flow blocks

once_more : (n : ℕ) (before this : Bool) → (this && before) ≡ false → n + one_if (before || this) ≤ 1 →
    cond this (n + 1) n + one_if before ≤ 1
once_more n true true a h = absurd cc
once_more n true false a h = h
once_more n false true a h = omega arith
once_more n false false a h = h

once_less : (n : ℕ) (before this : Bool) → cond this (n + 1) n + one_if before ≤ 1 → ((this && before) ≡ false) ×
    (n + one_if (before || this) ≤ 1)
once_less n true true h = absurd (omega arith)
once_less n true false h = (refl, h)
once_less n false true h = (refl, omega arith)
once_less n false false h = (refl, h)

once_at_end : (b : Bool) → 0 + one_if b ≤ 1
once_at_end true = omega arith
once_at_end false = omega arith

blocks_end : (environment : Environment) (left : ℕ) (correlated : Bool) (flow : Flow) (rest after : Rest) →
    Takes (tables_in environment) rest after (Name (codes "output") ∷ []) →
    IsBlocks environment left correlated flow rest after []
blocks_end environment left correlated flow rest after t =
    record { takes = t; few = omega arith; once = once_at_end correlated; chain = tt }

blocks_more : (environment : Environment) (left : ℕ) (correlated : Bool) (flow : Flow) (rest r1 r2 after : Rest)
    (w : Word) (args : List Argument) (b : Block) (blocks : List Block) →
    Takes (tables_in environment) rest r1 (Name (name_of w) ∷ []) → IsAllowed (suc left) correlated flow w
    → Takes (tables_in environment) r1 r2 (map argument_symbol args) → Fits (parameters w flow) args b →
    IsBlocks environment left (correlated || is_correlate w) (flow_after b flow) r2 after blocks →
    IsBlocks environment (suc left) correlated flow rest after (b ∷ blocks)
blocks_more environment left correlated flow rest r1 r2 after w args b blocks first a then fits more =
    let m = made w flow args b fits in
    let block-is : block_symbols b ≡ Name (name_of w) ∷ map argument_symbol args = rw (m.0, m.1) refl in
    let both = Takes-then (Takes-then first then) more.takes in
    let regrouped : flat_map block_symbols (b ∷ blocks) ++ Name (codes "output") ∷ [] ≡
    (Name (name_of w) ∷ map argument_symbol args) ++ (flat_map block_symbols blocks ++ Name (codes "output") ∷ []) =
    ap (λ (x : List Symbol). x ++ Name (codes "output") ∷ [])
    (flat_map-cons block_symbols b blocks ∙ ap (λ (x : List Symbol). x ++ flat_map block_symbols blocks) block-is) ∙
    append_assoc (Name (name_of w) ∷ map argument_symbol args) (flat_map block_symbols blocks)
    (Name (codes "output") ∷ []) in
    record {
      takes = subst (Takes (tables_in environment) rest after) (sym regrouped) both;
      few = omega (arith, more.few);
      once = rw m.0 (once_more (correlates blocks) correlated (is_correlate w) a.once more.once);
      chain = (
        record { form = rw m.0 a.form; channels = rw m.0 a.channels; parameters = rw (m.0, m.1) fits },
        more.chain,
      );
    }

pub blocks_take : (environment : Environment) (left : ℕ) (correlated : Bool) (flow : Flow) (rest after : Rest)
    (blocks : List Block) → blocks_at environment left correlated flow rest ≡ Ok (blocks, after) →
    IsBlocks environment left correlated flow rest after blocks
unfolding blocks_at
blocks_take environment zero correlated flow rest after blocks e =
    let n = bind_ok (next_at (next_block 0 correlated flow) rest) _ (blocks, after) e in
    let p = pair_is [] blocks n.0.1 after n.2 in
    rw (← p.0, ← p.1) (last n.0.0 n.0.1 (next_block_takes (tables_in environment) 0 correlated flow rest n.0.1 n.0.0
    n.1))
  where
    last : (next : Option Word) (r : Rest) → NextIs (tables_in environment) 0 correlated flow rest r next →
        IsBlocks environment 0 correlated flow rest r []
    last None r (AtOutput t) = blocks_end environment 0 correlated flow rest r t
    last (Some v) r (AtBlock w t a) = absurd (omega (arith, a.some))
blocks_take environment (suc left) correlated flow rest after blocks e =
    let n = bind_ok (next_at (next_block (suc left) correlated flow) rest) _ (blocks, after) e in
    cases n.0.0 n.0.1 (next_block_takes (tables_in environment) (suc left) correlated flow rest n.0.1 n.0.0 n.1) n.2
    (blocks_take environment left)
  where
    cases : (next : Option Word) (r : Rest) → NextIs (tables_in environment) (suc left) correlated flow rest r next
        → elim next [
          | None ↦ Ok ([], r)
          | Some w ↦ (block_at environment (parameters w flow) r >>= λ b. blocks_at
              environment left (correlated || is_correlate w) (flow_after b.0 flow) b.1 >>= λ more. Ok
              (b.0 ∷ more.0, more.1))
        ] ≡ pair blocks after
        → ((c : Bool) (f : Flow) (from to : Rest) (bs : List Block) →
        blocks_at environment left c f from ≡ Ok (bs, to) → IsBlocks environment left c f from to bs) →
        IsBlocks environment (suc left) correlated flow rest after blocks
    cases None r (AtOutput t) h later = let p = pair_is [] blocks r after h in
        rw (← p.0, ← p.1) (blocks_end environment (suc left) correlated flow rest r t)
    cases (Some v) r (AtBlock w t a) h later =
        let b = bind_ok (block_at environment (parameters w flow) r) _ (blocks, after) h in
        let m = bind_ok (blocks_at environment left (correlated || is_correlate w) (flow_after b.0.0 flow) b.0.1) _
        (blocks, after) b.2 in
        let p = pair_is (b.0.0 ∷ m.0.0) blocks m.0.1 after m.2 in
        let f = form_takes environment (parameters w flow) r b.0.1 b.0.0 b.1 in
        let read : blocks_at environment left (correlated || is_correlate w) (flow_after b.0.0 flow) b.0.1 ≡ pair
        m.0.0 after = read_to (blocks_at environment left (correlated || is_correlate w) (flow_after b.0.0 flow)
        b.0.1) m.0 after m.1 p.1 in
        let more = later (correlated || is_correlate w) (flow_after b.0.0 flow) b.0.1 after m.0.0 read in
        rw (← p.0) (blocks_more environment left correlated flow rest r b.0.1 after w f.0 b.0.0 m.0.0 t a f.1 f.2 more)

pub blocks_read : (environment : Environment) (left : ℕ) (correlated : Bool) (flow : Flow) (blocks : List Block)
    (items after : List Item) (end : ℕ) → Strips (tables_in environment) items
    (flat_map block_symbols blocks ++ Name (codes "output") ∷ []) after
    → length blocks ≤ left → correlates blocks + one_if correlated ≤ 1 → IsChain flow blocks →
    blocks_at environment left correlated flow (record { items = items; end = end }) ≡ Ok
    (blocks, record { items = after; end = end })
unfolding blocks_at
blocks_read environment zero correlated flow [] items after end h few once chain =
    rw (output_read (tables_in environment) 0 correlated flow items after end h) refl
blocks_read environment (suc left) correlated flow [] items after end h few once chain =
    rw (output_read (tables_in environment) (suc left) correlated flow items after end h) refl
blocks_read environment zero correlated flow (b ∷ blocks) items after end h few once chain = absurd (omega arith)
blocks_read environment (suc left) correlated flow (b ∷ blocks) items after end h few once chain =
    let o = once_less (correlates blocks) correlated (is_correlate (word_of b)) once in
    let regrouped : flat_map block_symbols (b ∷ blocks) ++ Name (codes "output") ∷ [] ≡
    (Name (name_of (word_of b)) ∷ []) ++ (map argument_symbol (arguments b) ++
    (flat_map block_symbols blocks ++ Name (codes "output") ∷ [])) =
    ap (λ (x : List Symbol). x ++ Name (codes "output") ∷ []) (flat_map-cons block_symbols b blocks) ∙
    append_assoc (block_symbols b) (flat_map block_symbols blocks) (Name (codes "output") ∷ []) in
    let first = Strips-split (tables_in environment) items (Name (name_of (word_of b)) ∷ [])
    (map argument_symbol (arguments b) ++ (flat_map block_symbols blocks ++ Name (codes "output") ∷ [])) after
    (subst (λ (x : List Symbol). Strips (tables_in environment) items x after) regrouped h) in
    let then = Strips-split (tables_in environment) first.0 (map argument_symbol (arguments b))
    (flat_map block_symbols blocks ++ Name (codes "output") ∷ []) after first.2 in
    let allowed : IsAllowed (suc left) correlated flow (word_of b) =
    record { some = omega arith; once = o.0; form = chain.0.form; channels = chain.0.channels } in
    rw (
      word_of_block_read (tables_in environment) (suc left) correlated flow (word_of b) items first.0 end allowed
          first.1,
      form_read environment (parameters (word_of b) flow) (arguments b) b first.0 then.0 end chain.0.parameters then.1,
      blocks_read environment left (correlated || is_correlate (word_of b)) (flow_after b flow) blocks then.0 after
          end then.2 (omega arith) o.1 chain.1,
    ) refl
