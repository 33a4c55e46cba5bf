use Rattle.std.proofs.Common.{◌≡◌, ◌∙◌, ap, ap₂, sym, subst, refl, ◌+◌, ◌-◌, pos, [], length, map, arith, rules}
use Rattle.std.proofs.Common.{false, vec_len}
use Rattle.std.proofs.lemmas.List.{length-map, length-replicate}
use Rattle.dsp_filter.specs.Making.{block_fault, taps_fault}
use Rattle.dsp_filter.proofs.Faults.{passed, taps-within, block-within}
use Rattle.dsp_window.specs.Rolling.{Rolling}
use Rattle.dsp_window.proofs.Pushed.{new-past}
use Rattle.dsp_rate.specs.DecimateState.{DecimateState, StandsFor}
use Rattle.dsp_rate.proofs.RateMaking.{new-stands, no-decimate_fault}
use Rattle.dsp_rate.proofs.decimate.Decimate.new.Goals as goal

pub overflow_sub-taps : goal.overflow_sub-taps
overflow_sub-taps g c =
    let n = length c.args.taps.now in
    let within = taps-within n (passed (taps_fault n) _ _ c.in_ok-check_taps.ensures) in
    omega (arith, within.0)

pub new-requires-clause-past : goal.new-requires-clause-past
new-requires-clause-past g c =
    let n = length c.args.taps.now in
    let within = taps-within n (passed (taps_fault n) _ _ c.in_ok-check_taps.ensures) in
    omega (arith, within.1)

pub new-requires-clause-block : goal.new-requires-clause-block
new-requires-clause-block g c = block-within c.args.block
    (passed (block_fault c.args.block) _ _ c.in_ok-check_block.ensures)

pub returns-in_default-clause-fault : goal.returns-in_default-clause-fault
returns-in_default-clause-fault g c =
    no-decimate_fault _ _ c.args.factor (length c.args.taps.now) c.args.block (omega arith)
    (passed _ _ _ c.in_ok-check_taps.ensures) (passed _ _ _ c.in_ok-check_block.ensures) refl

pub returns-in_default-from_slice-clause-fault : goal.returns-in_default-from_slice-clause-fault
returns-in_default-from_slice-clause-fault g c =
    no-decimate_fault _ _ c.args.factor (length c.args.taps.now) c.args.block (omega arith)
    (passed _ _ _ c.in_ok-check_taps.ensures) (passed _ _ _ c.in_ok-check_block.ensures) refl

pub returns-clause-fault : goal.returns-clause-fault
returns-clause-fault g c =
    no-decimate_fault _ _ c.args.factor (length c.args.taps.now) c.args.block (omega arith)
    (passed _ _ _ c.in_ok-check_taps.ensures) (passed _ _ _ c.in_ok-check_block.ensures) tt

pub invariant_of-result : goal.invariant_of-result
invariant_of-result g c =
    let n = length c.args.taps.now in
    let made = c.in-Ok.ensures.made in
    let within = taps-within n (passed (taps_fault n) _ _ c.in_ok-check_taps.ensures) in
    let fits = block-within c.args.block (passed (block_fault c.args.block) _ _ c.in_ok-check_block.ensures) in
    let counted : vec_len c.in-Ok-from_slice.taps ≡ length c.in-Ok-from_slice.taps.items = search rules in
    let long = counted ∙ ap length c.in-Ok-from_slice.ensures.items in
    let past = ap (λ (w : Rolling). w.past) made in
    let room = ap (λ (w : Rolling). w.room) made in
    let samples = ap (λ (w : Rolling). length w.samples) made ∙
    length-replicate (n + c.from-factor.result - 2) (pos 0) in (
      omega (arith, past, long, within.0),
      omega (arith, long, within.0),
      omega (arith, long, within.1),
      omega arith,
      omega arith,
      omega (arith, room, fits),
      omega (arith, past, samples),
    )

pub returns-clause-made : goal.returns-clause-made
returns-clause-made g c =
    let number = g.T.Sample.number in
    let taps = c.args.taps.now in
    let f = c.from-factor.ensures in
    let t = ap (map number) c.in-Ok-from_slice.ensures.items in
    let past = new-past c.in-Ok.window (length taps + c.from-factor.result - 2)
    (length (map number taps) + c.args.factor - 2) _ c.in-Ok.ensures.made
    (ap₂ (λ a b. a + b - 2) (sym (length-map taps number)) f) in
    let room = ap (λ (w : Rolling). w.room) c.in-Ok.ensures.made in
    (λ i. record { factor = f i; taps = t i; past = past i; phase = 0; block = room i; ended = false })

pub returns-clause-stands : goal.returns-clause-stands
returns-clause-stands g c =
    subst (λ (d : DecimateState). StandsFor d []) (sym (returns-clause-made g c))
    (new-stands c.args.factor (map g.T.Sample.number c.args.taps.now) c.args.block)
