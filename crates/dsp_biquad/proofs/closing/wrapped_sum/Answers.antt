use Rattle.std.proofs.Common.{rules}
use Rattle.std.proofs.lemmas.Int.{wraps, int_wrap-add_left}
use Rattle.dsp_biquad.proofs.closing.wrapped_sum.Goals as goal

pub returns : goal.returns
returns c = search (rules, wraps, int_wrap-add_left)
