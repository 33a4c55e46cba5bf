use Rattle.std.proofs.Common.{◌≡◌, ◌∙◌, ap, subst, true, false, arith}
use Rattle.std.proofs.lemmas.List.{drop_all}
use Rattle.dsp_defs.specs.Shape.{Pace, pace_after}
use Rattle.dsp_shape.specs.Lengths.{is_small}
use Rattle.dsp_shape.proofs.FrameRules.{is-rule}
use Rattle.dsp_shape.proofs.Placed.{from_here}
use Rattle.dsp_shape.proofs.Paces.{IsPacing, block_is, pacing_begins, pacing_goes_on, pacing_ends}
use Rattle.dsp_shape.proofs.lengths.whole_unit.Goals as goal

pub loop-block-init : goal.loop-block-init
loop-block-init c = rw (c.as_slice-block-items.ensures, c.new-pace.ensures)
    (pacing_begins c.args.script.now c.requires)

pub after-pace-requires-clause-rule : goal.after-pace-requires-clause-rule
after-pace-requires-clause-rule c =
    let s = c.args.script.now in
    let p = from_here (IsPacing s.input.channels s.blocks c.loop-block.pace) _ _ _ c.loop-block-test.true
    c.block-item.is c.loop-block.invariant in
    let here = block_is c.block-item.result p in
    is-rule here.0 c.block-item.result here.1

pub returns-then-not-is_small-clause-none : goal.returns-then-not-is_small-clause-none
returns-then-not-is_small-clause-none c =
    let s = c.args.script.now in
    let p = from_here (IsPacing s.input.channels s.blocks c.loop-block.pace) _ _ _ c.loop-block-test.true
    c.block-item.is c.loop-block.invariant in
    let small : is_small (pace_after c.loop-block.pace c.block-item.result) ≡ false = cc in
    pacing_ends c.block-item.result p small

pub loop-block-preserved : goal.loop-block-preserved
loop-block-preserved c =
    let s = c.args.script.now in
    let p = from_here (IsPacing s.input.channels s.blocks c.loop-block.pace) _ _ _ c.loop-block-test.true
    c.block-item.is c.loop-block.invariant in
    let small : is_small (pace_after c.loop-block.pace c.block-item.result) ≡ true = cc in
    rw c.after-pace.ensures (pacing_goes_on c.block-item.result p small)

pub returns-clause-found : goal.returns-clause-found
returns-clause-found c =
    let s = c.args.script.now in
    let none = drop_all c.loop-block.block-index c.as_slice-block-items.result.now (omega arith) in
    let p = subst (IsPacing s.input.channels s.blocks c.loop-block.pace) none c.loop-block.invariant in
    ap (λ (pace : Pace). pace.unit) c.pace-2.view_is ∙ p.whole
