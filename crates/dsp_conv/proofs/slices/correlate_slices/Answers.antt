use Rattle.std.proofs.Common.{◌≡◌, ◌∙◌, ap, sym, ℕ, ◌+◌, ◌-◌, ◌*◌, ◌≤◌, max, length, map, arith}
use Rattle.std.proofs.lemmas.List.{length-map}
use Rattle.dsp_defs.specs.Formats.{close}
use Rattle.dsp_defs.specs.Signal.{values}
use Rattle.dsp_defs.specs.Cost.{correlation_products}
use Rattle.dsp_conv.specs.Sums.{correlation_at}
use Rattle.dsp_conv.proofs.Correlations.{correlate-values, all-products, from-first}
use Rattle.dsp_conv.proofs.slices.correlate_slices.Goals as goal

pub returns-clause-out : goal.returns-clause-out
returns-clause-out g c =
    let T = g.T.Sample in
    let a = map T.number c.args.a.now in
    let b = map T.number c.args.b.now in
    let la : length a ≡ length c.args.a.now = length-map c.args.a.now T.number in
    let lb : length b ≡ length c.args.b.now = length-map c.args.b.now T.number in
    let value = λ (n : ℕ). close T.format (correlation_at b a n) in
    let same : length c.args.out.now ≡ 2 * max (length a) (length b) - 1 = omega (arith, la, lb, c.requires.out) in
    c.correlation_values.ensures.values ∙ from-first (length c.args.out.now) value ∙ ap (λ k. values k value) same ∙
    sym (correlate-values T.format b a (omega (arith, la, c.requires.a)))

pub returns-clause-steps : goal.returns-clause-steps
returns-clause-steps g c =
    let n = length c.args.a.now in
    let t = length c.args.b.now in
    let all : 0 + length c.args.out.now ≡ 2 * max n t - 1 = omega (arith, c.requires.out) in
    let products = ap (correlation_products n t) all ∙ all-products n t c.requires.a in
    let rise = c.correlation_values.ensures.steps in
    let multiplies : c.correlation_values.new.steps.multiplies ≡ n * t + c.args.steps.now.multiplies =
    omega (arith, rise.multiplies, products) in
    let turns : c.correlation_values.new.steps.turns ≤ n * t + c.args.steps.now.turns =
    omega (arith, rise.turns, products) in
    record {
      multiplies_rise = omega (arith, multiplies);
      multiplies_most = omega (arith, multiplies);
      turns_most = omega (arith, turns);
    }
