use Rattle.std.proofs.Common.{◌+◌, ◌∙◌, arith, map}
use Rattle.std.proofs.lemmas.List.{length-map}
use lib.Lanes.{chunk, put_chunk, zip2}
use Rattle.dsp_defs.specs.Adaptive.{weight_after}
use Rattle.dsp_lanes.proofs.Groups.{zip2-double}
use Rattle.dsp_lanes.proofs.weights.WeightSample.weight_double.Goals as goal

pub returns : goal.returns
returns g c =
    let S = g.Self.Sample.number in
    let f = weight_after g.Self.Sample.format (S c.args.alpha) in
    let n = g.Self.WeightSample.group in
    let weights = map S c.args.weights.now in
    let window = map g.Self.Sample.number c.args.window.now in
    let mid = map S c.weight_group.new.weights in
    let long_weights = length-map c.args.weights.now S in
    let long_window = length-map c.args.window.now g.Self.Sample.number in
    zip2-double f c.args.at n weights mid _ window (omega (arith, c.requires.room, long_weights))
    (omega (arith, c.requires.window, long_window)) c.weight_group.ensures
    (c.weight_group-2.ensures ∙ (λ i. put_chunk (c.args.at + c.group.ensures i) mid
    (zip2 f (chunk (c.args.at + c.group.ensures i) n mid) (chunk (c.args.at + c.group.ensures i) n window))))
