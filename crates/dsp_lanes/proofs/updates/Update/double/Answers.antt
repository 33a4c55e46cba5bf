use Rattle.std.proofs.Common.{◌+◌, ◌∙◌, arith, map}
use Rattle.std.proofs.lemmas.List.{length-map}
use lib.Lanes.{chunk, put_chunk, zip2}
use Rattle.dsp_lanes.proofs.Groups.{zip2-double}
use Rattle.dsp_lanes.proofs.updates.Update.double.Goals as goal

pub returns : goal.returns
returns g c =
    let S = g.Self.Update.number in
    let f = g.Self.Update.next c.args.factor in
    let n = g.Self.Update.size in
    let slots = map S c.args.slots.now in
    let window = map g.T.Sample.number c.args.window.now in
    let mid = map S c.group.new.slots in
    let long_slots = length-map c.args.slots.now S in
    let long_window = length-map c.args.window.now g.T.Sample.number in
    zip2-double f c.args.at n slots mid _ window (omega (arith, c.requires.room, long_slots))
    (omega (arith, c.requires.window, long_window)) c.group.ensures
    (c.group-2.ensures ∙ (λ i. put_chunk (c.args.at + c.size.ensures i) mid
    (zip2 f (chunk (c.args.at + c.size.ensures i) n mid) (chunk (c.args.at + c.size.ensures i) n window))))
