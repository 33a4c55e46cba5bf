use Rattle.std.proofs.Common.{◌≡◌, ◌∙◌, ◌*◌, subst, length, map, take, arith, length-take-le}
use Rattle.std.proofs.lemmas.List.{length-map}
use Rattle.dsp_rate.proofs.InterpolateFilters.{KeepsEnough, phased-keeps, room-enough, interpolate-fed}
use Rattle.dsp_rate.proofs.interpolate.InterpolateFilter.process.Goals as goal

pub returns-clause-fed : goal.returns-clause-fed
returns-clause-fed g c =
    let number = g.T.Sample.number in
    let f = c.args.self.now in
    let keeps = subst KeepsEnough c.self.view_is (phased-keeps _ _ _ c.self.invariant.1) in
    let e = c.process.ensures in
    let input = c.args.input.now in
    let given = take c.process.result c.process.new.output in
    let room = room-enough (length input) f.block f.factor (length c.args.output.now) c.requires.block c.requires.room
    in
    let long : length (map number given) ≡ length input * f.factor = length-map given number ∙
    length-take-le c.process.result c.process.new.output (omega (arith, room, e.given, c.process.auto.output)) ∙
    e.given in
    interpolate-fed g.T.Sample.format f c.process.new.self g.row.L (length input) (map number input)
    (map number given) c.args.steps.now c.process.new.steps
    g.met.T.FormatLanes.own c.requires.running keeps e.same e.kept (length-map input number) long e.values e.stands
    e.multiplies e.turns
