use Rattle.std.proofs.Common.{rules}
use Rattle.dsp_measure.proofs.results.extreme_of.Goals as goal

pub read_extreme-found-requires : goal.read_extreme-found-requires
read_extreme-found-requires c = search rules

pub returns : goal.returns
returns c = search rules
