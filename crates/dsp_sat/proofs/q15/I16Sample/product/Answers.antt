use Rattle.std.proofs.Common.{lit<}
use Rattle.std.specs.Int.{w16, w32}
use Rattle.dsp_sat.proofs.Words.{wide_fits, wide-is, widened}
use Rattle.dsp_sat.proofs.q15.I16Sample.product.Goals as goal

pub overflow_mul-result : goal.overflow_mul-result
overflow_mul-result g c =
    wide_fits w32 w16 w16 c.from.result c.from-2.result c.args.a c.args.b
    (widened w32 w16 c.from.result c.args.a c.ranges.a (record { sfits = c.from.type_inv }) c.from.ensures)
    (widened w32 w16 c.from-2.result c.args.b c.ranges.b (record { sfits = c.from-2.type_inv }) c.from-2.ensures)
    c.ranges.a c.ranges.b (lit< tt)

pub returns-clause-value : goal.returns-clause-value
returns-clause-value g c =
    wide-is w32 w16 w16 c.from.result c.from-2.result c.args.a c.args.b
    (widened w32 w16 c.from.result c.args.a c.ranges.a (record { sfits = c.from.type_inv }) c.from.ensures)
    (widened w32 w16 c.from-2.result c.args.b c.ranges.b (record { sfits = c.from-2.type_inv }) c.from-2.ensures)
    c.ranges.a c.ranges.b (lit< tt)

pub returns-clause-steps : goal.returns-clause-steps
returns-clause-steps g c = c.count.ensures
