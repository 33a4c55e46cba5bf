use Rattle.std.proofs.Common.{◌≡◌, ◌∙◌, ◌+◌, ◌*◌, ◌≤◌, ap, sym, subst, length, map, take, arith, length-take}
use Rattle.std.proofs.lemmas.List.{length-map}
use Rattle.dsp_lanes.specs.Turns.{lane_turns}
use Rattle.dsp_fir.specs.Laws.{windowed}
use Rattle.dsp_fir.specs.WindowState.{WindowState, IsWindowBlock, tap_count}
use Rattle.dsp_fir.proofs.ChannelLemmas.{channel-fed}
use Rattle.dsp_fir.proofs.window_filter.WindowFilterFilter.process.Goals as goal

pub returns-clause-fed : goal.returns-clause-fed
returns-clause-fed g c =
    let T = g.T.Sample in
    let old = c.args.self.now in
    let is = subst (λ (s : WindowState). IsWindowBlock T.format s.block) c.self.view_is
    (windowed T.format _ c.self.invariant.0) in
    let e = c.process.ensures in
    let taken = map T.number c.args.input.now in
    let given = take c.process.result c.process.new.output in
    let long : length taken ≡ length c.args.input.now = length-map c.args.input.now T.number in
    let most = is.samples.most_same old.capacity in
    let size : length (map T.number given) ≡ length taken =
    length-map given T.number ∙ length-take c.process.result c.process.new.output ∙
    omega (arith, e.given, c.process.auto.output, c.requires.room, c.requires.block, most, long) in
    channel-fed T.format old c.process.new.self is g.row.L taken (map T.number given) c.args.steps.now
    c.process.new.steps g.met.T.FormatLanes.own c.requires.running e.same e.kept size e.values e.stands
    (e.multiplies ∙ ap (λ n. c.args.steps.now.multiplies + n * tap_count old.block) (sym long))
    (subst (λ n. c.process.new.steps.turns ≤ c.args.steps.now.turns + tap_count old.block * lane_turns g.row.L n)
    (sym long) e.turns)
