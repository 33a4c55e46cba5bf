use Rattle.std.proofs.Common.{rules}
use Rattle.dsp_matrix.proofs.paired_products.are_narrow.Goals as goal

pub loop-l-preserved : goal.loop-l-preserved
loop-l-preserved c = search rules
