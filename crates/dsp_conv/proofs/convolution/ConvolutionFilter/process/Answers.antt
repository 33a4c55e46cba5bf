use Rattle.std.proofs.Common.{◌≡◌, ◌∙◌, ap, length, map, take, arith, length-take-le}
use Rattle.std.proofs.lemmas.List.{length-map}
use Rattle.dsp_conv.specs.ConvState.{ConvState}
use Rattle.dsp_conv.proofs.Inside.{inside}
use Rattle.dsp_conv.proofs.ChannelLemmas.{channel-fed, room-is}
use Rattle.dsp_conv.proofs.convolution.ConvolutionFilter.process.Goals as goal

pub returns-clause-fed : goal.returns-clause-fed
returns-clause-fed g c =
    let number = g.T.Sample.number in
    let d = c.args.self.now in
    let here = c.self.inside in
    let is = (inside number here.reversed here.zeros c.self.invariant c.self.view_is).is in
    let e = c.process.ensures in
    let given = take c.process.result c.process.new.output in
    let room = room-is g.T.Sample.format d (length c.args.output.now) c.requires.room in
    let long : length (map number given) ≡ c.process.result = length-map given number ∙
    length-take-le c.process.result c.process.new.output
    (omega (arith, c.requires.block, room, e.within, c.process.auto.output)) in
    channel-fed g.T.Sample.format d c.process.new.self is (ap (λ (s : ConvState). s.extent) e.same)
    (ap (λ (s : ConvState). s.taps) e.same) (ap (λ (s : ConvState). s.block) e.same) e.kept
    g.row.L (map number c.args.input.now) (map number given) (length c.args.input.now) c.process.result
    c.args.steps.now c.process.new.steps
    g.met.T.FormatLanes.own (length-map c.args.input.now number) long e.within e.count e.values e.stands e.counts
    e.multiplies e.turns
