use Rattle.std.proofs.Common.{◌≡◌, ◌∙◌, ap, refl, map, length, arith}
use Rattle.std.proofs.lemmas.List.{length-map}
use Rattle.dsp_defs.specs.declared.limits.TheConstants.{MAX_TAPS}
use Rattle.dsp_filter.specs.Making.{block_fault, multiple_fault}
use Rattle.dsp_filter.proofs.Faults.{passed, block-within}
use Rattle.dsp_window.specs.Rolling.{Rolling}
use Rattle.dsp_rate.specs.InterpolateState.{new_interpolate}
use Rattle.dsp_rate.proofs.InterpolateLemmas.{new-made, new-phased, new-stands}
use Rattle.dsp_rate.proofs.RateMaking.{taps-whole, phase-some, phase-few, no-interpolate_fault}
use Rattle.dsp_rate.proofs.interpolate.Interpolate.new.Goals as goal

pub overflow_sub-taps : goal.overflow_sub-taps
overflow_sub-taps g c =
    let n = length c.args.taps.now in
    phase-some c.from-factor.result c.max.result n (omega arith)
    (passed (multiple_fault MAX_TAPS c.max.result n) _ _ c.in_ok-check_multiple.ensures)

pub new-requires-clause-past : goal.new-requires-clause-past
new-requires-clause-past g c =
    let n = length c.args.taps.now in
    let few = phase-few c.from-factor.result c.max.result n (omega arith)
    (passed (multiple_fault MAX_TAPS c.max.result n) _ _ c.in_ok-check_multiple.ensures) in
    omega (arith, few)

pub new-requires-clause-block : goal.new-requires-clause-block
new-requires-clause-block g c = block-within c.args.block
    (passed (block_fault c.args.block) _ _ c.in_ok-check_block.ensures)

pub sort_by_phase-requires-clause-whole : goal.sort_by_phase-requires-clause-whole
sort_by_phase-requires-clause-whole g c =
    let n = length c.args.taps.now in
    (taps-whole c.from-factor.result c.max.result n (omega arith)
    (passed (multiple_fault MAX_TAPS c.max.result n) _ _ c.in_ok-check_multiple.ensures)).2

pub returns-in_default-clause-fault : goal.returns-in_default-clause-fault
returns-in_default-clause-fault g c =
    no-interpolate_fault c.args.factor c.max.result (length c.args.taps.now) (omega arith)
    (passed _ _ _ c.in_ok-check_multiple.ensures) _ _ c.args.block (omega arith)
    (passed _ _ _ c.in_ok-check_block.ensures) refl

pub returns-in_default-sort_by_phase-clause-fault : goal.returns-in_default-sort_by_phase-clause-fault
returns-in_default-sort_by_phase-clause-fault g c =
    no-interpolate_fault c.args.factor c.max.result (length c.args.taps.now) (omega arith)
    (passed _ _ _ c.in_ok-check_multiple.ensures) _ _ c.args.block (omega arith)
    (passed _ _ _ c.in_ok-check_block.ensures) refl

pub returns-in_default-vec-clause-fault : goal.returns-in_default-vec-clause-fault
returns-in_default-vec-clause-fault g c =
    no-interpolate_fault c.args.factor c.max.result (length c.args.taps.now) (omega arith)
    (passed _ _ _ c.in_ok-check_multiple.ensures) _ _ c.args.block (omega arith)
    (passed _ _ _ c.in_ok-check_block.ensures) refl

pub returns-clause-fault : goal.returns-clause-fault
returns-clause-fault g c =
    no-interpolate_fault c.args.factor c.max.result (length c.args.taps.now) (omega arith)
    (passed _ _ _ c.in_ok-check_multiple.ensures) _ _ c.args.block (omega arith)
    (passed _ _ _ c.in_ok-check_block.ensures) tt

pub invariant_of-result : goal.invariant_of-result
invariant_of-result g c =
    let number = g.T.Sample.number in
    let taps = c.args.taps.now in
    let within = taps-whole c.from-factor.result c.max.result (length taps) (omega arith)
    (passed (multiple_fault MAX_TAPS c.max.result (length taps)) _ _ c.in_ok-check_multiple.ensures) in
    let fits = block-within c.args.block (passed (block_fault c.args.block) _ _ c.in_ok-check_block.ensures) in
    let room : c.in-Ok.window.room ≡ c.args.block = ap (λ (w : Rolling). w.room) c.in-Ok.ensures.made in (
      omega (arith, c.in-Ok-vec.ensures.len, room),
      new-phased c.from-factor.result (length taps) c.args.block (map number taps)
          (map number c.in-Ok-sort_by_phase.phases.items) c.in-Ok.window (omega arith) (length-map taps number)
          within.2 c.in-Ok-sort_by_phase.ensures c.in-Ok.ensures.made (omega arith) within.0 within.1 fits,
    )

pub returns-clause-made : goal.returns-clause-made
returns-clause-made g c =
    let number = g.T.Sample.number in
    let taps = c.args.taps.now in
    let within = taps-whole c.from-factor.result c.max.result (length taps) (omega arith)
    (passed (multiple_fault MAX_TAPS c.max.result (length taps)) _ _ c.in_ok-check_multiple.ensures) in
    new-made c.from-factor.result (length taps) c.args.block (map number taps)
    (map number c.in-Ok-sort_by_phase.phases.items) c.in-Ok.window (omega arith) (length-map taps number) within.2
    c.in-Ok-sort_by_phase.ensures c.in-Ok.ensures.made
    ∙ ap (λ f. new_interpolate f (map number taps) c.args.block) c.from-factor.ensures

pub returns-clause-stands : goal.returns-clause-stands
returns-clause-stands g c =
    let number = g.T.Sample.number in
    let taps = c.args.taps.now in
    let within = taps-whole c.from-factor.result c.max.result (length taps) (omega arith)
    (passed (multiple_fault MAX_TAPS c.max.result (length taps)) _ _ c.in_ok-check_multiple.ensures) in
    new-stands c.from-factor.result (length taps) c.args.block (map number taps)
    (map number c.in-Ok-sort_by_phase.phases.items) c.in-Ok.window (omega arith) (length-map taps number) within.2
    c.in-Ok-sort_by_phase.ensures c.in-Ok.ensures.made
