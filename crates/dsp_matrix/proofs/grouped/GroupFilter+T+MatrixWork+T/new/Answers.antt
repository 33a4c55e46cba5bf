use Rattle.std.proofs.Common.{sym, subst}
use Rattle.dsp_defs.specs.declared.script.Block.{Block}
use Rattle.dsp_matrix.specs.Faults.{op_fault}
use Rattle.dsp_matrix.specs.Matrices.{IsElementwiseIn}
use Rattle.dsp_matrix.proofs.Sound.{no-fault, sound-op}
use Rattle.dsp_matrix.proofs.grouped.GroupFilter+T+MatrixWork+T.new.Goals as goal

pub of_block-requires-clause-block : goal.of_block-requires-clause-block
of_block-requires-clause-block g c =
    let format = g.T.Sample.format in
    let op = c.args.op in
    subst (λ (b : Block). IsElementwiseIn format b) (sym c.block_of.ensures)
    (sound-op format op g.met.T.MatrixSample.is_wide (no-fault (op_fault format op) c.check_op.result
    c.check_op.ensures c.in_ok-check_op.was))
