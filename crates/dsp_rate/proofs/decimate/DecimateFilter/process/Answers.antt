use Rattle.std.proofs.Common.{◌≡◌, ◌∙◌, subst, length, map, take, vec_len, rules, arith, length-take-le}
use Rattle.std.proofs.lemmas.List.{length-map}
use Rattle.dsp_rate.proofs.ChannelLemmas.{IsDecimator, is-decimator, room-enough, channel-fed}
use Rattle.dsp_rate.proofs.decimate.DecimateFilter.process.Goals as goal

pub returns-clause-fed : goal.returns-clause-fed
returns-clause-fed g c =
    let number = g.T.Sample.number in
    let d = c.args.self.now in
    let here = c.self.inside in
    let counted : vec_len here.taps ≡ length here.taps.items = search rules in
    let is = subst IsDecimator c.self.view_is (is-decimator g.T.Sample.number here.taps.items _ _ _ here.window _
    counted c.self.invariant.0 c.self.invariant.3 c.self.invariant.4 c.self.invariant.6) in
    let e = c.process.ensures in
    let input = c.args.input.now in
    let given = take c.process.result c.process.new.output in
    let enough = room-enough (length input) d.block d.factor (length c.args.output.now) c.requires.block
    c.requires.room in
    let long : length (map number given) ≡ c.process.result = length-map given number ∙
    length-take-le c.process.result c.process.new.output (omega (arith, enough, e.within, c.process.auto.output)) in
    channel-fed g.T.Sample.format g.row.L d c.process.new.self (map number input) (map number given) (length input)
    c.process.result c.args.steps.now c.process.new.steps
    g.met.T.FormatLanes.own c.requires.running is.long e.same e.kept (length-map input number) long e.within e.values
    e.stands e.count e.counts e.multiplies e.turns
