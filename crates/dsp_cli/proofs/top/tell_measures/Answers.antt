use Rattle.std.proofs.Common.{◌∙◌, refl, ◌+◌, pos, arith, subst}
use Rattle.dsp_defs.specs.declared.measure.Measure.TheVariants.{Power}
use Rattle.std.proofs.lemmas.Result.{err_from_is_err_and}
use Rattle.std.proofs.lemmas.List.{take_all}
use Rattle.dsp_ports.proofs.Moved.{Took-nil}
use Rattle.dsp_cli.specs.Run.{Wrote}
use Rattle.dsp_cli.proofs.ReportLaws.{lines, lines-more, line-begins, wrote-more, tells-front, tells-all}
use Rattle.dsp_cli.proofs.top.tell_measures.Goals as goal

pub loop-measure-init : goal.loop-measure-init
loop-measure-init g c = ((Took-nil (g.R.Sink.state c.args.report.now)).put, refl)

pub loop-measure-preserved : goal.loop-measure-preserved
loop-measure-preserved g c =
    let i = c.loop-measure.measure-index in
    let took = rw (c.deref.ensures.0, c.measure_line.ensures) at c.in_ok-write_all.ensures.took in
    let wrote = wrote-more (g.R.Sink.state c.args.report.now) (g.R.Sink.state c.loop-measure.report) _ _ _
    c.loop-measure.invariant.0 took in (
      subst (λ text. Wrote text (g.R.Sink.state c.args.report.now) (g.R.Sink.state c.write_all.new.sink))
          (lines-more c.args.measures.now i (i + 1) (Power 0 0 (pos 0)) (omega arith) c.loop-measure-test.true) wrote,
      c.in_ok-write_all.ensures.faults ∙ c.loop-measure.invariant.1,
    )

pub returns-in_err-write_all-clause-tells : goal.returns-in_err-write_all-clause-tells
returns-in_err-write_all-clause-tells g c =
    let (count, less, took) = rw (c.deref.ensures.0, c.measure_line.ensures) at c.in_err-write_all.ensures.took in
    tells-front _ _ _ _
    (line-begins c.args.measures.now c.loop-measure.measure-index count (Power 0 0 (pos 0)) c.loop-measure-test.true)
    (wrote-more (g.R.Sink.state c.args.report.now) (g.R.Sink.state c.loop-measure.report) _ _ _
    c.loop-measure.invariant.0 took)
    (rw (← c.loop-measure.invariant.1) c.in_err-write_all.ensures.faults)

pub returns-in_err-write_all-clause-faults : goal.returns-in_err-write_all-clause-faults
returns-in_err-write_all-clause-faults g c =
    let error = err_from_is_err_and c.from_residual.result c.from_residual.ensures.1 in
    rw (error.1, ← c.loop-measure.invariant.1) c.in_err-write_all.ensures.faults

pub returns-clause-tells : goal.returns-clause-tells
returns-clause-tells g c =
    let all = take_all c.loop-measure.measure-index c.args.measures.now (omega arith) in
    tells-all _ _ _ (subst (λ ms. Wrote (lines ms) (g.R.Sink.state c.args.report.now)
    (g.R.Sink.state c.loop-measure.report)) all c.loop-measure.invariant.0)
