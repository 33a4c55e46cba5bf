use Rattle.std.proofs.Common.{lit<}
use Rattle.std.specs.Int.{w32, w64}
use Rattle.dsp_sat.proofs.Words.{wide_fits, wide-is, widened}
use Rattle.dsp_sat.proofs.q31.I32Sample.product.Goals as goal

pub overflow_mul-result : goal.overflow_mul-result
overflow_mul-result g c =
    wide_fits w64 w32 w32 c.from.result c.from-2.result c.args.a c.args.b
    (widened w64 w32 c.from.result c.args.a c.ranges.a (record { sfits = c.from.type_inv }) c.from.ensures)
    (widened w64 w32 c.from-2.result c.args.b c.ranges.b (record { sfits = c.from-2.type_inv }) c.from-2.ensures)
    c.ranges.a c.ranges.b (lit< tt)

pub returns-clause-value : goal.returns-clause-value
returns-clause-value g c =
    wide-is w64 w32 w32 c.from.result c.from-2.result c.args.a c.args.b
    (widened w64 w32 c.from.result c.args.a c.ranges.a (record { sfits = c.from.type_inv }) c.from.ensures)
    (widened w64 w32 c.from-2.result c.args.b c.ranges.b (record { sfits = c.from-2.type_inv }) c.from-2.ensures)
    c.ranges.a c.ranges.b (lit< tt)

pub returns-clause-steps : goal.returns-clause-steps
returns-clause-steps g c = c.count.ensures
