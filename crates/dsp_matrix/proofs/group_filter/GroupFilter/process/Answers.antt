use Rattle.std.proofs.Common.{◌≤◌, ◌<◌, ◌++◌, length, map, ap, arith}
use Rattle.std.proofs.lemmas.List.{length-map}
use Rattle.dsp_unit.specs.Unit.{most_frames}
use Rattle.dsp_matrix.specs.Groups.{OpenState}
use Rattle.dsp_matrix.proofs.GroupFilters.{begun-again, room-groups, group-process}
use Rattle.dsp_matrix.proofs.group_filter.GroupFilter.process.Goals as goal

pub feed_groups-requires-clause-room : goal.feed_groups-requires-clause-room
feed_groups-requires-clause-room g c =
    let block = g.W.GroupWork.block c.self.inside.work in
    let is = g.met.W.GroupWork.grouped block c.self.invariant.0 in
    let below : length c.self.inside.begun.numbers < (g.W.GroupWork.group block).taken =
    omega (arith, c.self.invariant.1.0, c.self.invariant.1.1) in
    let groups = room-groups g.T.Sample.format block (g.W.GroupWork.group block) is
    (length c.self.inside.begun.numbers) (length c.args.input.now) below in
    let room : most_frames block (length c.args.input.now) ≤ length c.args.output.now =
    rw (← c.self.view_is) at c.requires.room in
    omega (arith, groups, room)

pub returns-clause-within : goal.returns-clause-within
returns-clause-within g c =
    let block = g.W.GroupWork.block c.self.inside.work in
    let is = g.met.W.GroupWork.grouped block c.self.invariant.0 in
    let below : length c.self.inside.begun.numbers < (g.W.GroupWork.group block).taken =
    omega (arith, c.self.invariant.1.0, c.self.invariant.1.1) in
    let groups = room-groups g.T.Sample.format block (g.W.GroupWork.group block) is
    (length c.self.inside.begun.numbers) (length c.args.input.now) below in
    let within : c.feed_groups.result ≤ most_frames block (length c.args.input.now) =
    omega (arith, groups, c.feed_groups.ensures.given) in
    rw (← c.self.view_is) within

pub returns-clause-fed : goal.returns-clause-fed
returns-clause-fed g c =
    let number = g.T.Sample.number in
    let block = g.W.GroupWork.block c.self.inside.work in
    let is = g.met.W.GroupWork.grouped block c.self.invariant.0 in
    let below : length c.self.inside.begun.numbers < (g.W.GroupWork.group block).taken =
    omega (arith, c.self.invariant.1.0, c.self.invariant.1.1) in
    rw (← c.self.view_is)
    (group-process g.T.Sample.format block (g.W.GroupWork.group block) is c.self.inside.capacity c.self.inside.ended
    c.self.inside.begun.numbers c.feed_groups.new.begun.numbers (map number c.args.input.now) _
    (length c.args.input.now)
    c.args.steps.now c.feed_groups.new.steps below (rw (← c.self.view_is) at c.requires.running)
    (length-map c.args.input.now number) c.feed_groups.ensures.out
    (ap (λ (o : OpenState). o.numbers) c.feed_groups.ensures.begun) c.feed_groups.ensures.steps)

pub invariant_of-self : goal.invariant_of-self
invariant_of-self g c =
    let block = g.W.GroupWork.block c.self.inside.work in
    let is = g.met.W.GroupWork.grouped block c.self.invariant.0 in (
      c.self.invariant.0,
      begun-again g.T.Sample.format block (g.W.GroupWork.group block) is c.self.inside.begun c.feed_groups.new.begun
          (c.self.inside.begun.numbers ++ map g.T.Sample.number c.args.input.now) c.self.invariant.1.0
          c.feed_groups.ensures.begun,
      c.self.invariant.2,
    )
