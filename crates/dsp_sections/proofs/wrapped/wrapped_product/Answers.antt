use Rattle.std.specs.Int.{w64}
use Rattle.std.proofs.lemmas.Int.{wrapping_mul_is}
use Rattle.dsp_sections.proofs.wrapped.wrapped_product.Goals as goal

pub returns-clause-value : goal.returns-clause-value
returns-clause-value g c = wrapping_mul_is w64 c.args.a c.args.b c.ranges.a c.ranges.b
