use Rattle.dsp_wave.specs.declared.samples.SampleFault.TheVariants as cause
use Rattle.dsp_au.proofs.UnreadLaws.{block_read, block_unread, short_is}
use Rattle.dsp_au.proofs.source.read_block.Goals as goal

pub returns-in-Ok-clause-ok : goal.returns-in-Ok-clause-ok
returns-in-Ok-clause-ok g c =
    block_read c.args.direction c.args.header _ _ _ _ c.frame_bytes.ensures _ _ c.in-Ok.ensures.ok

pub returns-in-Err-Short-clause-err : goal.returns-in-Err-Short-clause-err
returns-in-Err-Short-clause-err g c =
    rw (short_is _ _ _ _ _ c.short.ensures)
    (block_unread c.args.direction c.args.header _ _ _ _ c.frame_bytes.ensures _
    (cause.Short c.in-Err-Short.declared c.in-Err-Short.got c.in-Err-Short.offset)
    (rw c.in-Err-Short.field-0-is at c.in-Err-Short.ensures.err))

pub returns-in-Err-Failed-clause-err : goal.returns-in-Err-Failed-clause-err
returns-in-Err-Failed-clause-err g c =
    block_unread c.args.direction c.args.header _ _ _ _ c.frame_bytes.ensures _ cause.Failed
    (rw c.in-Err-Failed.field-0-is at c.in-Err-Failed.ensures.err)

pub returns-in-Err-LimitReached-clause-err : goal.returns-in-Err-LimitReached-clause-err
returns-in-Err-LimitReached-clause-err g c =
    block_unread c.args.direction c.args.header _ _ _ _ c.frame_bytes.ensures _ cause.LimitReached
    (rw c.in-Err-LimitReached.field-0-is at c.in-Err-LimitReached.ensures.err)
