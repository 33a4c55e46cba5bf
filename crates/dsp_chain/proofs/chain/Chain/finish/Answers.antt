use Rattle.std.proofs.Common.{◌≡◌, ◌∙◌, ap, refl, sym, subst, take, length, arith, true, false, Option, Some, None}
use Rattle.std.proofs.Common.{length-take}
use Rattle.std.specs.Prelude.{is_some}
use Rattle.dsp_unit.specs.Line.{Place, InLine, AllTook, AllTaken, blocks_of, place_behind, place_room}
use Rattle.dsp_chain.specs.Line.{MayFinish}
use Rattle.dsp_chain.proofs.Room.{written-line}
use Rattle.dsp_chain.proofs.ChainCalls.{whole-again, chain-finished, chain-refused}
use Rattle.dsp_chain.proofs.chain.Chain.finish.Goals as goal

is-none : {A : Type 0} (o : Option A) → is_some o ≡ false → o ≡ None
is-none None e = refl
is-none (Some a) e = cc

true-false : true ≡ false → ⊥
true-false e = cc

pub returns-then-is_some-clause-finished : goal.returns-then-is_some-clause-finished
returns-then-is_some-clause-finished g c =
    let is = c.self.invariant.is in
    rw (← c.self.view_is) (chain-refused _ _ c.args.steps.now refl refl refl refl refl
    (sym c.is_some.ensures ∙ c.if-is_some.true) is.line is.took)

pub returns-clause-finished : goal.returns-clause-finished
returns-clause-finished g c =
    let is = c.self.invariant.is in
    let p : Place = record {
      format = c.self.inside.format;
      channels = c.self.inside.channels;
      capacity =
          c.self.inside.capacity;
    } in
    let line : InLine p c.as_mut_slice.result.now = subst (InLine p) (sym c.as_mut_slice.ensures.value) is.line in
    let whole = written-line c.self.inside.links.len c.finish_line.new.links c.self.inside.links.items
    (omega (arith, c.finish_line.auto.links, c.as_mut_slice.ensures.len)) in
    rw (← c.self.view_is)
    (chain-finished _ _ c.as_mut_slice.result.now c.finish_line.new.links
    (take c.finish_line.result c.finish_line.new.out) c.args.steps.now c.finish_line.new.steps
    c.as_mut_slice.ensures.value whole refl refl refl (is-none c.self.inside.failed
    (sym c.is_some.ensures ∙ c.if-is_some.false)) refl is.line is.took
    (c.finish_line.ensures.finished p line)
    (λ none. c.finish_line.ensures.spent (omega (
      arith,
      ap length none,
      length-take c.finish_line.result c.finish_line.new.out,
      c.finish_line.ensures.within,
      c.finish_line.auto.out,
    ))))

pub invariant_of-self-2 : goal.invariant_of-self-2
invariant_of-self-2 g c =
    let is = c.self.invariant.is in
    let p : Place = record {
      format = c.self.inside.format;
      channels = c.self.inside.channels;
      capacity =
          c.self.inside.capacity;
    } in
    let links = c.self.inside.links.items in
    let news = c.finish_line.new.links in
    let n = c.self.inside.frames in
    let line : InLine p c.as_mut_slice.result.now = subst (InLine p) (sym c.as_mut_slice.ensures.value) is.line in
    let finished = (c.finish_line.ensures.finished p line).finishes in
    let whole = written-line c.self.inside.links.len news links
    (omega (arith, c.finish_line.auto.links, c.as_mut_slice.ensures.len)) in
    let blocks : blocks_of news ≡ blocks_of links = finished.blocks ∙ ap blocks_of c.as_mut_slice.ensures.value in
    let took : AllTook news n = finished.took n (subst (λ us. AllTook us n) (sym c.as_mut_slice.ensures.value)
    is.took) in
    rw whole (record {
      is = whole-again _ _ is refl blocks finished.in_line took (λ running. absurd (true-false running))
          (subst (λ bs. AllTaken bs n) (sym blocks) is.taken);
      room_is = c.self.invariant.room_is ∙ ap (λ bs. place_room (place_behind p bs)) (sym blocks);
    })

pub finish_line-requires : goal.finish_line-requires
finish_line-requires g c =
    let is = c.self.invariant.is in
    let may : MayFinish c.self.inside.links.items (length c.args.out.now) = record {
      place = record {
        format = c.self.inside.format;
        channels = c.self.inside.channels;
        capacity =
            c.self.inside.capacity;
      };
      line = is.line;
      room = (rw (← c.self.view_is) at c.requires).room;
      frames = c.self.inside.frames;
      took = is.took;
      taken = is.taken;
    } in
    rw c.as_mut_slice.ensures.value may
