use Rattle.std.proofs.Common.{sym, subst, FitsSigned, neg_ℤ}
use Rattle.dsp_defs.specs.Formats.{word}
use Rattle.dsp_sat.proofs.Saturated.{saturated}
use Rattle.dsp_vector.proofs.Numbers.{negated}
use Rattle.dsp_vector.proofs.changes.NegateChange.change.Goals as goal

pub returns-clause-value : goal.returns-clause-value
returns-clause-value g c = negated g.T.Sample.format c.args.x c.greatest.result c.max.result c.requires.in_format
    c.greatest.ensures c.max.ensures.value

pub returns-clause-fits : goal.returns-clause-fits
returns-clause-fits g c =
    subst (FitsSigned (word g.T.Sample.format))
    (sym (negated g.T.Sample.format c.args.x c.greatest.result c.max.result c.requires.in_format c.greatest.ensures
    c.max.ensures.value))
    (saturated g.T.Sample.format (neg_ℤ c.args.x))
