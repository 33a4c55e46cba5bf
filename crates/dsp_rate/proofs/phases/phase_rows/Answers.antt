use Rattle.std.proofs.Common.{◌≡◌, ◌∙◌, ap, refl, sym, subst, ℕ, ◌+◌, ◌*◌, ◌/◌, ◌%◌, ◌<◌, ◌≤◌, ℤ, length, map}
use Rattle.std.proofs.Common.{slice_range, arith, ⊎_elim, length-take-le}
use Rattle.std.specs.Prelude.{◌*ℤ◌}
use Rattle.std.proofs.lemmas.Bool.{cases_lt}
use Rattle.std.proofs.lemmas.List.{length-map}
use Rattle.std.proofs.lemmas.Nat.{div_below, mod_below}
use Rattle.dsp_defs.specs.Formats.{close}
use Rattle.dsp_defs.specs.Signal.{sample, sum_below}
use Rattle.dsp_defs.proofs.BlockLaws.{length-values}
use Rattle.dsp_defs.proofs.SumLemmas.{same_numbers}
use Rattle.dsp_unit.proofs.ChannelFrames.{sample-values}
use Rattle.dsp_lanes.specs.Turns.{RisesWithin, lane_turns}
use Rattle.dsp_rate.proofs.DecimateLemmas.{value-counted}
use Rattle.dsp_rate.proofs.InterpolateLemmas.{phase-some, phase-value, piece-long, place-is, place-row, whole-taps}
use Rattle.dsp_rate.proofs.phases.phase_rows.Goals as goal

pub loop-phase-preserved : goal.loop-phase-preserved
loop-phase-preserved g c =
    let number = g.T.Sample.number in
    let factor = c.args.factor in
    let phases = c.args.phases.now in
    let count = length phases / factor in
    let phase = c.loop-phase.phase in
    let row = c.rows.new.out in
    let n = c.args.n in
    let kept : length c.loop-phase.row ≡ n = c.loop-phase.auto.row ∙ length-take-le n c.args.row.now c.requires.row in
    let small : phase < factor = c.loop-phase-test.true in
    let all : length phases ≡ count * factor = whole-taps factor (length phases) c.requires.whole in
    let before = place-row factor count phase small in
    let size : length (slice_range phases (phase * count) (phase * count + count)) ≡ count =
    piece-long phases (phase * count) count (omega (arith, before, all)) in
    let value : ℕ → ℕ → ℤ = λ p i. close g.T.Sample.format
    (sum_below count (λ j. sample (map number phases) (p * count + j) *ℤ sample (map number c.args.window.now)
    (i + j))) in
    let row_long : length row ≡ n = c.rows.auto.out ∙ kept in
    record {
      written = λ k h under.
          ⊎_elim
          (λ (earlier : k % factor < phase). c.write_phase.ensures.others k (omega (arith, earlier)) ∙
          c.loop-phase.invariant.written k (omega (arith, h, c.write_phase.auto.out)) earlier)
          (λ (late : phase ≤ k % factor). let same : k % factor ≡ phase = omega (arith, late, under) in
          let below : k / factor < n = div_below k factor n c.requires.factor
          (omega (arith, h, c.write_phase.auto.out, c.loop-phase.auto.out, c.requires.room)) in
          let place : k ≡ k / factor * factor + phase = place-is factor k ∙ ap (λ p. k / factor * factor + p) same in
          ap (sample (map number c.write_phase.new.out)) place
          ∙ c.write_phase.ensures.written (k / factor) (omega (arith, below, row_long))
          ∙ phase-value number g.T.Sample.format phases c.args.window.now row factor count phase
          (length c.loop-phase.row) (k / factor) c.rows.ensures.out size (omega (arith, below, kept))
          ∙ ap (λ p. value p (k / factor)) (sym same))
          (cases_lt (k % factor) phase);
      counted = value-counted _ _ _ phase _ _ _ refl c.loop-phase.invariant.counted
          (subst (λ (p : ℕ × ℕ). RisesWithin c.loop-phase.steps c.rows.new.steps (p.0 * p.1)
          (p.0 * lane_turns g.row.L p.1)) (λ i. (size i, kept i)) c.rows.ensures.steps);
    }

pub returns-clause-out : goal.returns-clause-out
returns-clause-out g c =
    let number = g.T.Sample.number in
    let factor = c.args.factor in
    let phases = map number c.args.phases.now in
    let window = map number c.args.window.now in
    let count = length c.args.phases.now / factor in
    let n = length c.args.out.now in
    let value : ℕ → ℕ → ℤ = λ m i. close g.T.Sample.format
    (sum_below m (λ j. sample phases (i % factor * m + j) *ℤ sample window (i / factor + j))) in
    let long : length (map number c.loop-phase.out) ≡ n = length-map c.loop-phase.out number ∙ c.loop-phase.auto.out in
    let taps : length phases / factor ≡ count = ap (λ m. m / factor) (length-map c.args.phases.now number) in
    same_numbers (map number c.loop-phase.out) _ (long ∙ sym (length-values n (value (length phases / factor))))
    (λ i h. let here : i < n = omega (arith, h, long) in
    c.loop-phase.invariant.written i (omega (arith, here, c.loop-phase.auto.out))
    (let small = mod_below i factor c.requires.factor in omega (arith, small, c.loop-phase-test.false))
    ∙ ap (λ m. value m i) (sym taps)
    ∙ sym (sample-values n (value (length phases / factor)) i here))

pub returns-clause-steps : goal.returns-clause-steps
returns-clause-steps g c =
    let n = c.args.n in
    let taps = length c.args.phases.now in
    let count = taps / c.args.factor in
    let turns = lane_turns g.row.L n in
    let all : taps ≡ count * c.args.factor = whole-taps c.args.factor taps c.requires.whole in
    let here : c.loop-phase.phase ≡ c.args.factor = omega
    (arith, c.loop-phase-test.false, c.loop-phase.auto.phase-end) in
    let products : n * taps ≡ c.loop-phase.phase * (count * n) = ap (λ m. n * m) all ∙
    (omega arith ∙ ap (λ p. p * (count * n)) (sym here)) in
    let rounds : taps * turns ≡ c.loop-phase.phase * (count * turns) = ap (λ m. m * turns) all ∙
    (omega arith ∙ ap (λ p. p * (count * turns)) (sym here)) in
    record {
      multiplies_rise = omega (arith, products, c.loop-phase.invariant.counted.multiplies_rise);
      turns_within = omega (arith, rounds, c.loop-phase.invariant.counted.turns_within);
    }

pub slice_bounds-taps-end : goal.slice_bounds-taps-end
slice_bounds-taps-end g c =
    let count = length c.args.phases.now / c.args.factor in
    let all = whole-taps c.args.factor (length c.args.phases.now) c.requires.whole in
    let before = place-row c.args.factor count c.loop-phase.phase c.loop-phase-test.true in
    omega (arith, before, all)

pub overflow_mul-taps : goal.overflow_mul-taps
overflow_mul-taps g c =
    let count = length c.args.phases.now / c.args.factor in
    let all = whole-taps c.args.factor (length c.args.phases.now) c.requires.whole in
    let before = place-row c.args.factor count c.loop-phase.phase c.loop-phase-test.true in
    omega (arith, before, all)

pub overflow_mul-taps-in-loop-phase : goal.overflow_mul-taps-in-loop-phase
overflow_mul-taps-in-loop-phase g c =
    let count = length c.args.phases.now / c.args.factor in
    let all = whole-taps c.args.factor (length c.args.phases.now) c.requires.whole in
    let before = place-row c.args.factor count c.loop-phase.phase c.loop-phase-test.true in
    omega (arith, before, all)

pub overflow_add-taps : goal.overflow_add-taps
overflow_add-taps g c =
    let count = length c.args.phases.now / c.args.factor in
    let all = whole-taps c.args.factor (length c.args.phases.now) c.requires.whole in
    let before = place-row c.args.factor count c.loop-phase.phase c.loop-phase-test.true in
    omega (arith, before, all)

pub rows-requires-clause-taps : goal.rows-requires-clause-taps
rows-requires-clause-taps g c =
    let phases = c.args.phases.now in
    let count = length phases / c.args.factor in
    let start = c.loop-phase.phase * count in
    let all = whole-taps c.args.factor (length phases) c.requires.whole in
    let before = place-row c.args.factor count c.loop-phase.phase c.loop-phase-test.true in
    let size : length (slice_range phases start (start + count)) ≡ count =
    piece-long phases start count (omega (arith, before, all)) in
    let some : 1 ≤ count = phase-some c.args.factor (length phases) c.requires.whole
    (omega (arith, c.requires.factor, c.requires.taps)) in
    omega (arith, size, some)

pub rows-requires-clause-window : goal.rows-requires-clause-window
rows-requires-clause-window g c =
    let phases = c.args.phases.now in
    let count = length phases / c.args.factor in
    let start = c.loop-phase.phase * count in
    let all = whole-taps c.args.factor (length phases) c.requires.whole in
    let before = place-row c.args.factor count c.loop-phase.phase c.loop-phase-test.true in
    let size : length (slice_range phases start (start + count)) ≡ count =
    piece-long phases start count (omega (arith, before, all)) in
    let kept : length c.loop-phase.row ≡ c.args.n = c.loop-phase.auto.row ∙
    length-take-le c.args.n c.args.row.now c.requires.row in
    omega (arith, c.requires.window, size, kept)

pub write_phase-requires-clause-room : goal.write_phase-requires-clause-room
write_phase-requires-clause-room g c =
    let kept : length c.loop-phase.row ≡ c.args.n = c.loop-phase.auto.row ∙
    length-take-le c.args.n c.args.row.now c.requires.row in
    c.loop-phase.auto.out ∙ c.requires.room ∙ ap (λ m. m * c.args.factor) (sym (c.rows.auto.out ∙ kept))
