use Rattle.std.proofs.Common.{◌≡◌, ◌∙◌, ◌≤◌, ap, min, length, map, take, drop, arith, length-take-le}
use Rattle.std.proofs.lemmas.List.{length-map, take-append-le}
use Rattle.dsp_conv.specs.ConvState.{ConvState}
use Rattle.dsp_conv.proofs.Inside.{inside}
use Rattle.dsp_conv.proofs.ChannelLemmas.{channel-finished, room-is}
use Rattle.dsp_conv.proofs.convolution.ConvolutionFilter.finish.Goals as goal

pub returns-clause-finished : goal.returns-clause-finished
returns-clause-finished g c =
    let number = g.T.Sample.number in
    let d = c.args.self.now in
    let here = c.self.inside in
    let is = (inside number here.reversed here.zeros c.self.invariant c.self.view_is).is in
    let e = c.finish.ensures in
    let output = c.args.output.now in
    let piece = c.finish.new.output in
    let block : here.block ≡ d.block = ap (λ (s : ConvState). s.block) c.self.view_is in
    let room = room-is g.T.Sample.format d (length output) c.requires.room in
    let lent : length (take here.block output) ≡ d.block =
    length-take-le here.block output (omega (arith, block, room)) ∙ block in
    let count : c.finish.result ≡ min (length d.tail) d.block = e.given ∙ ap (λ n. min (length d.tail) n) lent in
    let within : c.finish.result ≤ length piece = omega (arith, count, lent, c.finish.auto.output) in
    let long : length (map number (take c.finish.result piece)) ≡ c.finish.result =
    length-map (take c.finish.result piece) number ∙ length-take-le c.finish.result piece within in
    rw (take-append-le c.finish.result piece (drop here.block output) within)
    (channel-finished g.T.Sample.format d c.finish.new.self is (ap (λ (s : ConvState). s.extent) e.same)
    (ap (λ (s : ConvState). s.taps) e.same) (ap (λ (s : ConvState). s.block) e.same) e.kept
    g.row.L (map number (take c.finish.result piece)) c.finish.result c.args.steps.now c.finish.new.steps
    (ap (λ (s : ConvState). s.place) e.same) (ap (λ (s : ConvState). s.ended) e.same) long count e.tail e.multiplies
    e.turns)
