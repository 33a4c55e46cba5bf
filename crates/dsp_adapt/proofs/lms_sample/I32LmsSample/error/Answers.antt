use Rattle.std.proofs.Common.{rules}
use Rattle.std.proofs.lemmas.Int.{wraps}
use Rattle.dsp_adapt.proofs.lms_sample.I32LmsSample.error.Goals as goal

pub returns : goal.returns
returns c = search (rules, wraps)
