use Rattle.std.proofs.Common.{◌≡◌, ◌∙◌, ap, ◌+◌, ◌-◌, ◌*◌, ◌≤◌, ℕ, length, map, reverse, slice_range, refl, rules}
use Rattle.std.proofs.Common.{arith}
use Rattle.std.proofs.lemmas.List.{length-map, length-reverse, nil_from_length}
use Rattle.dsp_defs.specs.Formats.{lanes}
use Rattle.dsp_defs.specs.Streaming.{rows}
use Rattle.dsp_lanes.specs.Turns.{lane_turns}
use Rattle.dsp_conv.proofs.Stretches.{convolution-middle, turns-within}
use Rattle.dsp_conv.proofs.sums.convolution_middle.Goals as goal
use Rattle.dsp_defs.proofs.Causal.{map-reverse}

pub returns-clause-values : goal.returns-clause-values
returns-clause-values g c =
    let T = g.T.Sample in
    let a = c.args.a.now in
    let b = c.args.b.now in
    let first = c.args.first in
    let count = length c.args.out.now in
    let start = first - (length b - 1) in
    let end = first + count in
    let long : length (map T.number b) ≡ length b = length-map b T.number in
    let some : 1 ≤ count = search rules in
    let from = c.requires.from some in
    let taps : map T.number c.reverse.new.self ≡ reverse (map T.number b) =
    ap (map T.number) (c.reverse.ensures.after ∙ ap reverse c.copy_from_slice.ensures.after) ∙
    map-reverse T.number b in
    c.rows.ensures.out
    ∙ ap (λ l. rows T.format l (map T.number (slice_range a start end)) count) taps
    ∙ convolution-middle T.format T.number a (map T.number b) first count start end
    (omega (arith, long, c.requires.taps)) (omega (arith, long, from)) (omega (arith, long)) refl

pub returns-clause-steps : goal.returns-clause-steps
returns-clause-steps g c =
    let b = c.args.b.now in
    let count = length c.args.out.now in
    let format = g.T.Sample.format in
    let long : length c.reverse.new.self ≡ length b = ap length
    (c.reverse.ensures.after ∙ ap reverse c.copy_from_slice.ensures.after) ∙ length-reverse b in
    let products = ap (λ (t : ℕ). t * count) long in
    let rounds = ap (λ (t : ℕ). t * lane_turns (lanes format) count) long in
    let turns = turns-within (lanes format) (length b) count in
    let rise = c.rows.ensures.steps in
    record {
      multiplies_rise = omega (arith, rise);
      multiplies_most = omega (arith, rise, products);
      turns_most = omega (arith, rise, rounds, turns);
    }

pub returns-then-is_empty-clause-values : goal.returns-then-is_empty-clause-values
returns-then-is_empty-clause-values g c =
    let none : length c.args.out.now ≡ 0 = search rules in
    rw (nil_from_length c.args.out.now none) refl
