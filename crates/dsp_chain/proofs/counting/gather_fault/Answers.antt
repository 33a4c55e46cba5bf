use Rattle.std.proofs.Common.{arith}
use Rattle.dsp_unit.specs.Line.{blocks_of}
use Rattle.dsp_chain.proofs.FrameCounts.{fewer, held-fewer}
use Rattle.dsp_chain.proofs.counting.gather_fault.Goals as goal

pub gathered-held-requires : goal.gathered-held-requires
gathered-held-requires g c = fewer (blocks_of c.args.links.now) c.args.before c.args.frames c.requires.more
    c.requires.few

pub overflow_sub-result : goal.overflow_sub-result
overflow_sub-result g c =
    let within = held-fewer (blocks_of c.args.links.now) c.args.before c.args.frames c.requires.more in
    omega (arith, within, c.gathered-held.ensures, c.gathered-all.ensures)

pub returns-clause-more : goal.returns-clause-more
returns-clause-more g c =
    let within = held-fewer (blocks_of c.args.links.now) c.args.before c.args.frames c.requires.more in
    omega (arith, within, c.gathered-held.ensures, c.gathered-all.ensures)
