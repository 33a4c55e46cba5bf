use Rattle.std.proofs.Common.{◌∙◌, ◌-◌, ap, sym, arith}
use Rattle.std.specs.Prelude.{slice_get}
use Rattle.dsp_unit.specs.Line.{measured_by}
use Rattle.dsp_chain.proofs.Room.{no-units}
use Rattle.dsp_chain.proofs.Measured.{measure-of-first, measure-of-others}
use Rattle.dsp_chain.proofs.line.+find_measure.Goals as goal

pub returns-in_err-link : goal.returns-in_err-link
returns-in_err-link g t c =
    c.from_residual.ensures ∙ ap (λ us. slice_get (measured_by c.args.number us) c.args.index)
    (sym (no-units c.args.links.now c.in_err-link.ensures.cases))

pub returns-then-index-count : goal.returns-then-index-count
returns-then-index-count g t c =
    c.measure.ensures
    ∙ sym (measure-of-first c.args.number c.args.index c.measures-count.result c.args.links.now c.in_ok-link.link.now
    (g.S.Unit.unit c.link.inside.unit) c.in_ok-link.behind.now c.in_ok-link.ensures.cases.0 c.link.view_is
    c.measures-count.ensures c.if-index-count.true)

pub returns : goal.returns
returns g t c =
    c.find_measure.ensures
    ∙ sym (measure-of-others c.args.number c.args.index c.measures-count.result c.args.links.now c.in_ok-link.link.now
    (g.S.Unit.unit c.link.inside.unit) c.in_ok-link.behind.now c.in_ok-link.ensures.cases.0 c.link.view_is
    c.measures-count.ensures
    (c.args.index - c.measures-count.result) (omega (arith, c.if-index-count.false)))
