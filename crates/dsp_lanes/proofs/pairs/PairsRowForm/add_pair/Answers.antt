use Rattle.std.proofs.Common.{◌+◌, ◌≤◌, ◌∙◌, ◌+ℤ◌, arith, length, map, refl, w32}
use Rattle.std.proofs.lemmas.List.{length-map}
use Rattle.dsp_lanes.specs.Pairs.{in_turn, four, pair_sum}
use Rattle.dsp_lanes.proofs.HalfSums.{half_fits}
use Rattle.dsp_lanes.proofs.PairSums.{half_is, pair_added}
use Rattle.dsp_lanes.proofs.pairs.PairsRowForm.add_pair.Goals as goal

pub returns-clause-sums : goal.returns-clause-sums
returns-clause-sums g c =
    let number = g.T.Sample.number in
    let taps = map number c.args.taps.now in
    let window = map number c.args.window.now in
    let j = c.args.j in
    let at = c.args.at in
    let even = c.args.sums.even in
    let odd = c.args.sums.odd in
    let fit = c.requires.fit in
    let long_w = length-map c.args.window.now number in
    let room : at + 1 + 8 ≤ length window = omega (arith, long_w) in
    (λ i. in_turn (half_is taps window even c.pair_sums.result j at fit.0 c.pair_sums.ensures i)
    (half_is taps window odd c.pair_sums-2.result j (at + 1) fit.1 c.pair_sums-2.ensures i))
    ∙ pair_added taps window even odd j at fit.2 fit.3 room

pub returns-clause-fit : goal.returns-clause-fit
returns-clause-fit g c =
    let number = g.T.Sample.number in
    let taps = map number c.args.taps.now in
    let window = map number c.args.window.now in
    let j = c.args.j in
    let at = c.args.at in
    let even = c.args.sums.even in
    let odd = c.args.sums.odd in
    let fit = c.requires.fit in
    let e = half_fits w32 4 (λ s p. s +ℤ p) _ even (four (pair_sum taps window j) at)
    (half_is taps window even c.pair_sums.result j at fit.0 c.pair_sums.ensures) fit.2 refl in
    let o = half_fits w32 4 (λ s p. s +ℤ p) _ odd (four (pair_sum taps window j) (at + 1))
    (half_is taps window odd c.pair_sums-2.result j (at + 1) fit.1 c.pair_sums-2.ensures) fit.3 refl in
    (e.0, o.0, e.1, o.1)
