use Rattle.std.proofs.Common.{◌≡◌, ◌∙◌, ap, sym, subst, refl, ◌-◌, pos, [], length, map, arith, rules, vec_len}
use Rattle.std.proofs.lemmas.List.{length-map, length-replicate}
use Rattle.dsp_filter.specs.Making.{block_fault, taps_fault}
use Rattle.dsp_window.specs.Rolling.{Rolling}
use Rattle.dsp_window.proofs.Pushed.{new-past}
use Rattle.dsp_adapt.specs.LmsState.{LmsState, StandsFor, shift_fault}
use Rattle.dsp_filter.proofs.Faults.{passed, taps-within, block-within, no-fault}
use Rattle.dsp_adapt.proofs.LmsMaking.{new-stands}
use Rattle.dsp_adapt.proofs.lms.Lms.new.Goals as goal

pub new-requires-clause-past : goal.new-requires-clause-past
new-requires-clause-past g c =
    let n = length c.args.taps.now in
    let few = (taps-within n (passed (taps_fault n) _ _ c.in_ok-check_taps.ensures)).1 in
    omega (arith, few)

pub new-requires-clause-block : goal.new-requires-clause-block
new-requires-clause-block g c = block-within c.args.block
    (passed (block_fault c.args.block) _ _ c.in_ok-check_block.ensures)

pub invariant_of-result : goal.invariant_of-result
invariant_of-result g c =
    let taps = c.args.taps.now in
    let window = c.in-Ok.window in
    let made = c.in-Ok.ensures.made in
    let within = taps-within (length taps) (passed (taps_fault (length taps)) _ _ c.in_ok-check_taps.ensures) in
    let fits = block-within c.args.block (passed (block_fault c.args.block) _ _ c.in_ok-check_block.ensures) in
    let first : vec_len c.in-Ok-from_slice.weights ≡ length c.in-Ok-from_slice.weights.items = search rules in
    let second : vec_len c.in-Ok-from_slice-2.taps ≡ length c.in-Ok-from_slice-2.taps.items = search rules in
    let weights_long = first ∙ ap length c.in-Ok-from_slice.ensures.items in
    let taps_long = second ∙ ap length c.in-Ok-from_slice-2.ensures.items in
    let past = ap (λ (w : Rolling). w.past) made in
    let room = ap (λ (w : Rolling). w.room) made in
    let samples = ap (λ (w : Rolling). length w.samples) made ∙ length-replicate (length taps - 1) (pos 0) in (
      omega (arith, past, taps_long, within),
      weights_long ∙ sym taps_long,
      omega (arith, taps_long, within),
      omega (arith, room, fits),
      omega (arith, past, samples),
    )

pub returns-clause-made : goal.returns-clause-made
returns-clause-made g c =
    let number = g.T.Sample.number in
    let taps = c.args.taps.now in
    let t = ap (map number) c.in-Ok-from_slice-2.ensures.items in
    let w = ap (map number) c.in-Ok-from_slice.ensures.items in
    let past = new-past c.in-Ok.window (length taps - 1) (length (map number taps) - 1) _ c.in-Ok.ensures.made
    (ap (λ n. n - 1) (sym (length-map taps number))) in
    let room = ap (λ (r : Rolling). r.room) c.in-Ok.ensures.made in
    (λ i. record {
      post_shift = c.args.post_shift;
      mu = number c.args.mu;
      taps = t i;
      weights = w i;
      past =
          past i;
      block = room i;
    })

pub returns-clause-stands : goal.returns-clause-stands
returns-clause-stands g c =
    let T = g.T.Sample in
    subst (λ (s : LmsState). StandsFor T.format s []) (sym (returns-clause-made g c))
    (new-stands T.format c.args.post_shift (T.number c.args.mu) (map T.number c.args.taps.now) c.args.block)

pub returns-in_default-clause-fault : goal.returns-in_default-clause-fault
returns-in_default-clause-fault g c =
    no-fault _ _ _ _ _ (passed _ _ _ c.in_ok-check_taps.ensures)
    (ap (λ m. shift_fault m c.args.post_shift) (sym c.GREATEST_SHIFT.ensures) ∙
    passed _ _ _ c.in_ok-check_shift.ensures) (passed _ _ _ c.in_ok-check_block.ensures) refl

pub returns-clause-fault : goal.returns-clause-fault
returns-clause-fault g c =
    no-fault _ _ _ _ _ (passed _ _ _ c.in_ok-check_taps.ensures)
    (ap (λ m. shift_fault m c.args.post_shift) (sym c.GREATEST_SHIFT.ensures) ∙
    passed _ _ _ c.in_ok-check_shift.ensures) (passed _ _ _ c.in_ok-check_block.ensures) tt
