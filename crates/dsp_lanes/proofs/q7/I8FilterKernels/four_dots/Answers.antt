use Rattle.std.proofs.Common.{◌∙◌, sym, rules, SFits, w32}
use Rattle.std.proofs.lemmas.Int.{int_wrap_fits}
use Rattle.dsp_defs.proofs.FormatLemmas.{wrap-wrap}
use Rattle.dsp_lanes.proofs.q7.I8FilterKernels.four_dots.Goals as goal

pub four_sums-requires-clause-narrows : goal.four_sums-requires-clause-narrows
four_sums-requires-clause-narrows g c = λ z. wrap-wrap _ z

pub returns-clause-first : goal.returns-clause-first
returns-clause-first g c =
    let fits : SFits w32 c.four_sums.result.first = search rules in
    sym (int_wrap_fits w32 c.four_sums.result.first fits) ∙ c.four_sums.ensures.first

pub returns-clause-second : goal.returns-clause-second
returns-clause-second g c =
    let fits : SFits w32 c.four_sums.result.second = search rules in
    sym (int_wrap_fits w32 c.four_sums.result.second fits) ∙ c.four_sums.ensures.second

pub returns-clause-third : goal.returns-clause-third
returns-clause-third g c =
    let fits : SFits w32 c.four_sums.result.third = search rules in
    sym (int_wrap_fits w32 c.four_sums.result.third fits) ∙ c.four_sums.ensures.third

pub returns-clause-fourth : goal.returns-clause-fourth
returns-clause-fourth g c =
    let fits : SFits w32 c.four_sums.result.fourth = search rules in
    sym (int_wrap_fits w32 c.four_sums.result.fourth fits) ∙ c.four_sums.ensures.fourth
