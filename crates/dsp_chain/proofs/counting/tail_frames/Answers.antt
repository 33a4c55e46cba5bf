use Rattle.std.proofs.Common.{arith}
use Rattle.dsp_unit.specs.Line.{blocks_of}
use Rattle.dsp_chain.proofs.FrameCounts.{live-within}
use Rattle.dsp_chain.proofs.counting.tail_frames.Goals as goal

pub overflow_sub-result : goal.overflow_sub-result
overflow_sub-result g c =
    let within = live-within (blocks_of c.args.links.now) c.args.frames c.args.frames (omega arith) in
    omega (arith, within, c.frames_behind.ensures, c.frames_behind-2.ensures)

pub returns : goal.returns
returns g c =
    let within = live-within (blocks_of c.args.links.now) c.args.frames c.args.frames (omega arith) in
    omega (arith, within, c.frames_behind.ensures, c.frames_behind-2.ensures)
