use Rattle.std.proofs.Common.{◌≡◌, ◌∙◌, ◌≤◌, length, map, refl, rules, arith}
use Rattle.std.proofs.lemmas.List.{length-map, nil_from_length}
use Rattle.dsp_defs.specs.Formats.{lanes}
use Rattle.dsp_conv.proofs.Stretches.{middle-stretch, middle-products, turns-within}
use Rattle.dsp_conv.proofs.sums.correlation_middle.Goals as goal

pub returns-clause-values : goal.returns-clause-values
returns-clause-values g c =
    let T = g.T.Sample in
    let a = c.args.a.now in
    let b = c.args.b.now in
    let long : length (map T.number b) ≡ length b = length-map b T.number in
    let some : 1 ≤ length c.args.out.now = search rules in
    let from = c.requires.from some in
    let whole = c.requires.whole some in
    c.rows.ensures.out
    ∙ middle-stretch T.format T.number a (map T.number b) c.args.first (length c.args.out.now) _ _
    (omega (arith, long, c.requires.taps)) some from (omega (arith, long, whole)) refl (omega (arith, long))

pub returns-clause-steps : goal.returns-clause-steps
returns-clause-steps g c =
    let T = g.T.Sample in
    let n = length c.args.a.now in
    let t = length c.args.b.now in
    let count = length c.args.out.now in
    let some : 1 ≤ count = search rules in
    let products = middle-products n t c.args.first count c.requires.some c.requires.taps (c.requires.from some)
    (c.requires.whole some) in
    let turns = turns-within (lanes T.format) t count in
    let rise = c.rows.ensures.steps in
    record {
      multiplies = omega (arith, rise, products);
      turns = omega (arith, rise, products, turns);
    }

pub returns-then-is_empty-clause-values : goal.returns-then-is_empty-clause-values
returns-then-is_empty-clause-values g c =
    let none : length c.args.out.now ≡ 0 = search rules in
    rw (nil_from_length c.args.out.now none) refl
