use Rattle.std.proofs.Common.{◌≡◌, ◌∙◌, ap, sym, subst, ℕ, ◌+◌, ◌-◌, ◌*◌, ◌≤◌, ℤ, List, [], map, length, set, take}
use Rattle.std.proofs.Common.{take_all, length-set, arith}
use Rattle.dsp_filter.specs.Waves.{Four, Flows, Wave}
use Rattle.dsp_filter.proofs.Waves.{Turned, turned-more}
use Rattle.dsp_filter.proofs.turning.run_turns.Goals as goal

-- the products of a turn more
rise : (at price a b c : ℕ) → 3 ≤ at → b ≡ a + (at - 3) * price → c ≡ b + price → c ≡ a + (at + 1 - 3) * price
rise at price a b c three e e' =
    let next : at + 1 - 3 ≡ at - 3 + 1 = omega (arith, three) in
    let more : (at - 3 + 1) * price ≡ (at - 3) * price + price = omega arith in
    omega (arith, e, e', more) ∙ ap (λ n. a + n) (sym more ∙ ap (λ k. k * price) (sym next))

pub pairs-preserved : goal.pairs-preserved
pairs-preserved g c =
    let number = g.T.Sample.number in
    let wave = g.W.Turning.wave in
    let inputs = c.args.samples.now in
    let samples = c.pairs.samples in
    let at = c.pairs.at in
    let z = c.turn.result in
    let so_far = c.pairs.invariant in
    let behind = set samples (at - 3) z in
    let long = length-set samples (at - 3) z in
    let long' = length-set behind (at + 1 - 3) c.turn-in-pairs.result in
    let two : at + 2 ≤ length samples = omega (arith, c.pairs-test.true, so_far.inside) in
    let three : 3 ≤ at + 1 = omega (arith, so_far.three) in
    let first = turned-more number inputs samples at (wave c.args.machines.now) (wave c.pairs.machines)
    (wave c.turn.new.self) c.index-samples-at.result z so_far.three (omega (arith, two)) so_far.turned
    c.index-samples-at.is c.turn.ensures.turns in
    let price = 4 * g.W.Turning.price in
    record {
      whole = c.turn-in-pairs.ensures.whole;
      three = omega (arith, so_far.three);
      inside = omega (arith, two, long, long');
      turned = turned-more number inputs behind (at + 1) (wave c.args.machines.now) (wave c.turn.new.self)
          (wave c.turn-in-pairs.new.self) c.index-samples-at-in-pairs.result c.turn-in-pairs.result three
          (omega (arith, two, long)) first c.index-samples-at-in-pairs.is c.turn-in-pairs.ensures.turns;
      steps = record {
        multiplies_rise = rise (at + 1) price _ _ _ three
            (rise at price _ _ _ so_far.three so_far.steps.multiplies_rise c.turn.ensures.steps.multiplies_rise)
            c.turn-in-pairs.ensures.steps.multiplies_rise;
        turns_rise = rise (at + 1) price _ _ _ three
            (rise at price _ _ _ so_far.three so_far.steps.turns_rise c.turn.ensures.steps.turns_rise)
            c.turn-in-pairs.ensures.steps.turns_rise;
      };
    }

-- all samples were taken
whole : {X : Type 0} (number : X → ℤ) (inputs samples : List X) (at : ℕ) (start now : Wave) → at ≡ length inputs →
    Turned number inputs samples at start now → (from : Four) → Flows from start (map number (take 3 inputs)) [] →
    Flows from now (map number inputs) (map number (take (length inputs - 3) samples))
whole number inputs samples at start now end turned from begun =
    subst (λ (n : ℕ). Flows from now (map number inputs) (map number (take (n - 3) samples))) end
    (subst (λ l. Flows from now (map number l) (map number (take (at - 3) samples)))
    (take_all at inputs (omega (arith, end))) (turned.flows from begun))

pub returns-then-at-samples-clause-flows : goal.returns-then-at-samples-clause-flows
returns-then-at-samples-clause-flows g c =
    let wave = g.W.Turning.wave in
    let inputs = c.args.samples.now in
    let samples = c.pairs.samples in
    let at = c.pairs.at in
    let so_far = c.pairs.invariant in
    let end : at + 1 ≡ length inputs = omega (arith, c.pairs-test.false, c.if-at-samples.true, so_far.turned.size) in
    let last = turned-more g.T.Sample.number inputs samples at (wave c.args.machines.now) (wave c.pairs.machines)
    (wave c.turn-then-at-samples.new.self) c.index-samples-at-then-at-samples.result c.turn-then-at-samples.result
    so_far.three c.if-at-samples.true so_far.turned c.index-samples-at-then-at-samples.is
    c.turn-then-at-samples.ensures.turns in
    whole g.T.Sample.number inputs (set samples (at - 3) c.turn-then-at-samples.result) (at + 1)
    (wave c.args.machines.now) (wave c.turn-then-at-samples.new.self) end last

pub returns-else-at-samples-clause-flows : goal.returns-else-at-samples-clause-flows
returns-else-at-samples-clause-flows g c =
    let wave = g.W.Turning.wave in
    let so_far = c.pairs.invariant in
    let end : c.pairs.at ≡ length c.args.samples.now = omega (
      arith,
      c.if-at-samples.false,
      so_far.inside,
      so_far.turned.size,
    ) in
    whole g.T.Sample.number c.args.samples.now c.pairs.samples c.pairs.at (wave c.args.machines.now)
    (wave c.pairs.machines) end so_far.turned
