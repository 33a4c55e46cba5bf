use Rattle.dsp_lanes.proofs.RowProducts.{interleaved_read}
use Rattle.dsp_lanes.proofs.matrix_rows.interleaved.Goals as goal

pub overflow_cast-result : goal.overflow_cast-result
overflow_cast-result c = (interleaved_read c.args.at c.args.next c.args.matrix.now c.q15_fit.ensures c.requires.first
    c.requires.second).0

pub returns-clause-values : goal.returns-clause-values
returns-clause-values c = (interleaved_read c.args.at c.args.next c.args.matrix.now c.q15_fit.ensures c.requires.first
    c.requires.second).1

pub returns-clause-fit : goal.returns-clause-fit
returns-clause-fit c = (interleaved_read c.args.at c.args.next c.args.matrix.now c.q15_fit.ensures c.requires.first
    c.requires.second).2
