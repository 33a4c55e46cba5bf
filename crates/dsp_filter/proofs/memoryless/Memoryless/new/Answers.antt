use Rattle.std.proofs.Common.{refl}
use Rattle.dsp_defs.specs.Block.{given_frame}
use Rattle.dsp_unit.proofs.MemorylessLaws.{memoryless-new}
use Rattle.dsp_filter.specs.Memoryless.{price}
use Rattle.dsp_filter.proofs.memoryless.Memoryless.new.Goals as goal

pub returns : goal.returns
returns g c =
    let w = c.in_ok-of_block.field-0 in
    let block = g.W.FrameWork.block w in
    rw (← c.in_ok-of_block.ensures, c.from.ensures)
    (memoryless-new _ (price block c.args.channels) (given_frame c.args.format block)
    (record { running = refl; kept = refl; tail = refl; plain = refl })
    (g.met.W.FrameWork.memoryless w c.args.format c.args.channels))
