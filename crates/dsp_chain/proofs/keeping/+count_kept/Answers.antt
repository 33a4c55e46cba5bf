use Rattle.std.proofs.Common.{◌∙◌, ap, sym, ◌+◌, length}
use Rattle.dsp_chain.specs.Restored.{kept_by}
use Rattle.dsp_chain.proofs.Room.{no-units}
use Rattle.dsp_chain.proofs.KeptLines.{kept-length}
use Rattle.dsp_chain.proofs.keeping.+count_kept.Goals as goal

pub returns-in_default-clause-count : goal.returns-in_default-clause-count
returns-in_default-clause-count g t c = ap (λ us. length (kept_by us))
    (sym (no-units c.args.links.now c.in_default.ensures.cases))

pub returns-clause-count : goal.returns-clause-count
returns-clause-count g t c =
    ap (λ n. c.kept_count.result + n) c.count_kept.ensures.count
    ∙ kept-length c.args.links.now c.in-Some.link.now (g.S.Unit.unit c.link.inside.unit) c.in-Some.behind.now
    c.kept_count.result c.in-Some.ensures.cases.0 c.link.view_is c.kept_count.ensures.count
