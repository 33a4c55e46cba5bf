use Rattle.std.proofs.Common.{◌≡◌, ◌∙◌, ◌≤◌, ap, sym, subst, None, IsTrue, arith, rules, vec_capacity}
use Rattle.dsp_chain.specs.Line.{measure_counts}
use Rattle.dsp_defs.specs.Output.{format_of, channels_of}
use Rattle.dsp_defs.specs.Shape.{frames_given}
use Rattle.dsp_defs.specs.declared.flow.Flow.{Flow}
use Rattle.dsp_defs.specs.declared.script.Script.{Script}
use Rattle.dsp_session.specs.Session.{cost_of, measured}
use Rattle.dsp_session.specs.SessionState.{SessionState}
use Rattle.dsp_cli.specs.Script.{chosen, is_legal_for}
use Rattle.dsp_cli.specs.declared.report.Summary.{Summary}
use Rattle.dsp_cli.proofs.PerformLaws.{continues_by, rest_by, stopped_by, text_by}
use Rattle.dsp_cli.proofs.top.run_rest.Goals as goal

-- the flow of the input, and of the output
abbrev flow_in : Script → Flow
flow_in script = record { format = script.input.format; channels = script.input.channels }

abbrev flow_out : Script → Flow
flow_out script = record { format = format_of script; channels = channels_of script }

pub find_measures-requires-clause-room : goal.find_measures-requires-clause-room
find_measures-requires-clause-room g c =
    let same : c.session.result.now.script ≡ c.in-Ok.resume.session.script =
    ap (λ (s : SessionState). s.script) c.session.ensures ∙ c.in-Ok-go.ensures.same.script.script in
    subst (λ (s : Script). measure_counts s.input.channels s.blocks ≤ vec_capacity c.in-Ok-with_capacity.measures)
    (sym same)
    (omega (arith, c.measures.ensures.stays, c.in-Ok-with_capacity.ensures.capacity))

pub returns-clause-ok : goal.returns-clause-ok
returns-clause-ok g c =
    let script = c.args.saved.script in
    let taken = c.in-Ok-go.totals.frames_taken in
    let resumed = c.in-Ok.ensures in
    let stays : c.script-script.result.now ≡ script =
    c.script-script.ensures.script ∙ ap (λ (s : SessionState). s.script) c.session-2.ensures ∙
    c.in-Ok-go.ensures.same.script.script ∙ resumed.script_is in
    let summary : Summary = record {
      input = flow_in c.script-script.result.now;
      output = c.output_flow.result;
      totals = c.in-Ok-go.totals;
      measures = c.find_measures.new.measures;
    } in
    let passed : IsTrue c.legal.result = search in
    let block = c.chosen-block.ensures ∙ ap (chosen None) c.script.ensures in
    record {
      start = c.in-Ok.resume.session;
      continues = continues_by c.args.saved _ c.in-Ok.resume resumed block
          (subst IsTrue (c.legal.ensures ∙ (λ i. is_legal_for (c.script-2.ensures i) (block i))) passed);
      done = rest_by _ _ _ _ _ _ _ _ _ _ _ _ _ _ resumed.script_is resumed.frames_is
          (c.find_measures.ensures ∙ ap measured c.session.ensures) c.in-Ok-go.ensures.ok;
      text = text_by script summary (ap flow_in stays) (c.output_flow.ensures ∙ ap flow_out stays)
          (c.in-Ok-go.ensures.given ∙ ap (λ (s : Script). frames_given s.blocks taken) resumed.script_is)
          (c.in-Ok-go.ensures.multiplies ∙ ap (λ (s : Script). cost_of s taken) resumed.script_is);
    }

pub chosen-block-requires : goal.chosen-block-requires
chosen-block-requires g c = search rules

pub legal-requires : goal.legal-requires
legal-requires g c = search rules

pub unit-unit-requires : goal.unit-unit-requires
unit-unit-requires g c = search rules

pub returns-then-not-legal-clause-err : goal.returns-then-not-legal-clause-err
returns-then-not-legal-clause-err g c = search rules

pub same-saved : goal.same-saved
same-saved g c = search rules

pub from_saved-requires : goal.from_saved-requires
from_saved-requires g c = search rules

pub returns-in_default-clause-err : goal.returns-in_default-clause-err
returns-in_default-clause-err g c = search rules

pub returns-in_default-with_capacity-clause-err : goal.returns-in_default-with_capacity-clause-err
returns-in_default-with_capacity-clause-err g c = search rules

pub same-resume : goal.same-resume
same-resume g c = search rules

pub go-requires-clause-goes : goal.go-requires-clause-goes
go-requires-clause-goes g c = search rules

pub go-requires-clause-runs : goal.go-requires-clause-runs
go-requires-clause-runs g c = search rules

pub go-requires-clause-frames : goal.go-requires-clause-frames
go-requires-clause-frames g c = search rules

pub returns-in-Err-clause-err : goal.returns-in-Err-clause-err
returns-in-Err-clause-err g c =
    let passed : IsTrue c.legal.result = search in
    let block = c.chosen-block.ensures ∙ ap (chosen None) c.script.ensures in
    stopped_by c.args.saved c.in-Ok.resume _ _ _ _ _ _ _ (continues_by c.args.saved _ c.in-Ok.resume c.in-Ok.ensures
    block (subst IsTrue (c.legal.ensures ∙ (λ i. is_legal_for (c.script-2.ensures i) (block i))) passed))
    c.in-Ok.ensures.frames_is c.in-Err.ensures.err

pub find_measures-requires-clause-empty : goal.find_measures-requires-clause-empty
find_measures-requires-clause-empty g c = search rules

pub output_flow-requires : goal.output_flow-requires
output_flow-requires g c = search rules
