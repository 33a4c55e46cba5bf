use Rattle.std.proofs.Common.{ap, refl, subst, false, None}
use Rattle.std.proofs.lemmas.Result.{IfOk-weaker, IfErr-weaker}
use Rattle.dsp_ports.specs.Ports.{SourceState}
use Rattle.dsp_wave.specs.Generated.{generation_state}
use Rattle.dsp_cli.specs.Perform.{Ran, FailsToRun}
use Rattle.dsp_cli.specs.declared.fault.Fault.{Fault}
use Rattle.dsp_cli.specs.declared.report.Summary.{Summary}
use Rattle.dsp_cli.proofs.top.generate.Goals as goal

pub returns-clause-ok : goal.returns-clause-ok
returns-clause-ok g c =
    let now = generation_state c.run_script.new.input in
    let sink = g.K.Sink.state c.args.output.now in
    let after = g.K.Sink.state c.run_script.new.output in
    let did = λ (summary : Summary) (s : SourceState).
    Ran None false c.args.script summary s now sink after c.args.steps.now c.run_script.new.steps in
    let made = ap generation_state c.new-input.ensures in
    IfOk-weaker c.run_script.result _ _ (λ summary ran. record
    { now = now; clean = refl; ran = subst (did summary) made ran })
    c.run_script.ensures.ok

pub returns-clause-err : goal.returns-clause-err
returns-clause-err g c =
    let now = generation_state c.run_script.new.input in
    let sink = g.K.Sink.state c.args.output.now in
    let after = g.K.Sink.state c.run_script.new.output in
    let did = λ (fault : Fault) (s : SourceState).
    FailsToRun fault None false c.args.script s now sink after c.args.steps.now c.run_script.new.steps in
    let made = ap generation_state c.new-input.ensures in
    IfErr-weaker c.run_script.result _ _ (λ fault fails. record
    { now = now; clean = refl; fails = subst (did fault) made fails })
    c.run_script.ensures.err
