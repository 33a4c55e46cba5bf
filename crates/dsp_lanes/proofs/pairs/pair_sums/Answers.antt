use Rattle.std.proofs.Common.{◌+◌, ◌≤◌, arith, length, map}
use Rattle.std.proofs.lemmas.List.{length-map}
use Rattle.dsp_lanes.proofs.PairSums.{pairs_are}
use Rattle.dsp_lanes.proofs.pairs.pair_sums.Goals as goal

pub returns : goal.returns
returns g c =
    let number = g.T.Sample.number in
    let long = length-map c.args.window.now number in
    let room : c.args.at + 8 ≤ length (map number c.args.window.now) = omega (arith, long) in
    pairs_are (map number c.args.taps.now) (map number c.args.window.now) c.eight.result c.pair.result c.args.j
    c.args.at room c.eight.ensures.values c.pair.ensures.values c.eight.ensures.fit c.pair.ensures.fit
