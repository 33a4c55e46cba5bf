use Rattle.dsp_wave.specs.declared.samples.SampleFault.TheVariants as cause
use Rattle.dsp_input.proofs.UnreadLaws.{part_unread}
use Rattle.dsp_input.proofs.blocks.read_block.Goals as goal

pub returns-in-Err-Short-clause-err : goal.returns-in-Err-Short-clause-err
returns-in-Err-Short-clause-err g c =
    part_unread c.args.script.now c.args.header _ _ _ _ _ _
    (cause.Short c.in-Err-Short.declared c.in-Err-Short.got c.in-Err-Short.offset) c.stored.ensures
    (rw c.in-Err-Short.field-0-is at c.in-Err-Short.ensures.err)

pub returns-in-Err-Failed-clause-err : goal.returns-in-Err-Failed-clause-err
returns-in-Err-Failed-clause-err g c =
    part_unread c.args.script.now c.args.header _ _ _ _ _ _ cause.Failed c.stored.ensures
    (rw c.in-Err-Failed.field-0-is at c.in-Err-Failed.ensures.err)

pub returns-in-Err-LimitReached-clause-err : goal.returns-in-Err-LimitReached-clause-err
returns-in-Err-LimitReached-clause-err g c =
    part_unread c.args.script.now c.args.header _ _ _ _ _ _ cause.LimitReached c.stored.ensures
    (rw c.in-Err-LimitReached.field-0-is at c.in-Err-LimitReached.ensures.err)
