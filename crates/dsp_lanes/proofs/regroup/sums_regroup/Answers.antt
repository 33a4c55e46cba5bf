use Rattle.dsp_lanes.proofs.SumLemmas.{regroup}
use Rattle.dsp_lanes.proofs.WordLemmas.{wrap_bits-word}
use Rattle.dsp_lanes.proofs.regroup.sums_regroup.Goals as goal

pub returns-clause-sums : goal.returns-clause-sums
returns-clause-sums c = regroup

pub returns-clause-words : goal.returns-clause-words
returns-clause-words c = wrap_bits-word
