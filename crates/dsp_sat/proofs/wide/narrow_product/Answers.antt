use Rattle.std.proofs.Common.{lit<}
use Rattle.std.specs.Int.{w16, w32}
use Rattle.std.proofs.lemmas.Int.{to_z-of_z}
use Rattle.dsp_sat.proofs.Words.{wide_fits, wide-is}
use Rattle.dsp_sat.proofs.wide.narrow_product.Goals as goal

pub overflow_mul-result : goal.overflow_mul-result
overflow_mul-result g c =
    wide_fits w32 w16 w16 c.args.a c.args.b c.args.a c.args.b (to_z-of_z w32 c.args.a c.ranges.a)
    (to_z-of_z w32 c.args.b c.ranges.b) c.requires.first c.requires.second (lit< tt)

pub returns-clause-value : goal.returns-clause-value
returns-clause-value g c =
    wide-is w32 w16 w16 c.args.a c.args.b c.args.a c.args.b (to_z-of_z w32 c.args.a c.ranges.a)
    (to_z-of_z w32 c.args.b c.ranges.b) c.requires.first c.requires.second (lit< tt)
