use Rattle.std.proofs.Common.{◌∙◌, ◌+◌, ◌*◌, ◌<◌, sym, map, slice_range, below_more}
use Rattle.dsp_bank.proofs.Amounts.{group-inside}
use Rattle.dsp_bank.proofs.Groups.{group-read, four-read, length-group}
use Rattle.dsp_bank.proofs.PastRows.{past-here, past-before, later-stays}
use Rattle.dsp_bank.proofs.past.load_past.Goals as goal

pub loop-channel-preserved : goal.loop-channel-preserved
loop-channel-preserved g c =
    let number = g.T.Sample.number in
    let i = c.loop-channel.channel in
    let row = c.args.row in
    let kept = c.args.kept.now in
    let group = i * c.args.sections + c.args.section in
    let frames = map number c.loop-channel.frames in
    let frames' = map number c.put_past.new.rows in
    let outputs = map number c.loop-channel.outputs in
    let outputs' = map number c.put_past-in-loop-channel.new.rows in
    let inside : i < row = c.loop-channel-test.true in
    let x1 = number c.index-four-0.result in
    let x2 = number c.index-four-1.result in
    let y1 = number c.index-four-2.result in
    let y2 = number c.index-four-3.result in
    let put = c.put_past.ensures in
    let put' = c.put_past-in-loop-channel.ensures in
    let four = slice_range kept (group * 4) (group * 4 + 4) in
    let within = group-inside c.args.sections row i c.args.section inside c.requires.section in
    let long = length-group number kept (row * c.args.sections) group c.requires.size within in
    let here = sym (group-read number kept group)
    ∙ four-read number four c.index-four-0.result c.index-four-1.result c.index-four-2.result c.index-four-3.result
    long c.index-four-0.is c.index-four-1.is c.index-four-2.is c.index-four-3.is
    ∙ sym (past-here row i frames frames' outputs outputs' x1 x2 y1 y2 inside put put') in
    record {
      fours = below_more _ i
          (λ j h. c.loop-channel.invariant.fours j h
          ∙ sym (past-before row i frames frames' outputs outputs' x1 x2 y1 y2 inside put put' j h))
          here;
      later = λ k h. later-stays row i frames frames' outputs outputs' x1 x2 y1 y2 inside put put' k h
          ∙ c.loop-channel.invariant.later k h;
    }
