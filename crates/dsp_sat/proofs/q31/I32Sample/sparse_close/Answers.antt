use Rattle.std.proofs.Common.{◌≡◌, ◌∙◌, ap, ℤ, pos, ◌+ℤ◌, ◌*ℤ◌, arith}
use Rattle.std.specs.Int.{w32}
use Rattle.std.proofs.lemmas.Int.{wrapping_add_is}
use Rattle.dsp_defs.specs.Numbers.{wrap}
use Rattle.dsp_sat.proofs.q31.I32Sample.sparse_close.Goals as goal

doubled : (s : ℤ) → s +ℤ s ≡ pos 2 *ℤ s
doubled s = grind arith

pub returns : goal.returns
returns c = wrapping_add_is w32 c.args.sum c.args.sum c.ranges.sum c.ranges.sum ∙ ap (wrap w32) (doubled c.args.sum)
