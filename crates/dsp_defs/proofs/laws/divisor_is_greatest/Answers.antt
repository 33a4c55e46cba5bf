use Rattle.dsp_defs.proofs.GcdLaws.{gcd-IsGcd}
use Rattle.dsp_defs.proofs.laws.divisor_is_greatest.Goals as goal

pub returns : goal.returns
returns c = gcd-IsGcd c.args.a c.args.b
