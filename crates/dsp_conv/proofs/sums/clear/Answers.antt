use Rattle.std.proofs.Common.{pos, arith}
use Rattle.dsp_conv.proofs.SliceSums.{written-more}
use Rattle.dsp_conv.proofs.sums.clear.Goals as goal

pub loop-value-preserved : goal.loop-value-preserved
loop-value-preserved g c = written-more g.T.Sample.number c.loop-value.out c.loop-value.value-index c.zero.result
    (λ _. pos 0) (omega arith) c.loop-value.invariant c.zero.ensures
