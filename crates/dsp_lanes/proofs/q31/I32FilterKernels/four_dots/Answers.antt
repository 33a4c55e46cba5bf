use Rattle.dsp_defs.proofs.FormatLemmas.{wrap-wrap}
use Rattle.dsp_lanes.proofs.q31.I32FilterKernels.four_dots.Goals as goal

pub four_by_twos-requires-clause-narrows : goal.four_by_twos-requires-clause-narrows
four_by_twos-requires-clause-narrows g c = λ z. wrap-wrap _ z

pub four_sums-requires-clause-narrows : goal.four_sums-requires-clause-narrows
four_sums-requires-clause-narrows g c = λ z. wrap-wrap _ z
