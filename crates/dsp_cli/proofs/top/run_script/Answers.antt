use Rattle.std.proofs.Common.{◌≡◌, ◌∙◌, ap, subst, IsTrue}
use Rattle.dsp_defs.specs.Output.{format_of, channels_of}
use Rattle.dsp_defs.specs.Shape.{frames_given}
use Rattle.dsp_defs.specs.declared.flow.Flow.{Flow}
use Rattle.dsp_defs.specs.declared.script.Script.{Script}
use Rattle.dsp_session.specs.Session.{cost_of}
use Rattle.dsp_cli.specs.Script.{is_legal_for}
use Rattle.dsp_cli.specs.declared.report.Summary.{Summary}
use Rattle.dsp_cli.proofs.PerformLaws.{text_by}
use Rattle.dsp_cli.proofs.top.run_script.Goals as goal

-- the flow of the input, and of the output
abbrev flow_in : Script → Flow
flow_in script = record { format = script.input.format; channels = script.input.channels }

abbrev flow_out : Script → Flow
flow_out script = record { format = format_of script; channels = channels_of script }

pub returns-clause-ok : goal.returns-clause-ok
returns-clause-ok g c =
    let script = c.args.script in
    let taken = c.in-Ok-stream.totals.frames_taken in
    let same : c.in-Ok.session.script ≡ script = c.in-Ok.ensures.script_is in
    let stays : c.script-script.result.now ≡ script = c.script-script.ensures.script ∙
    c.in-Ok-stream.ensures.same.script ∙ same in
    let summary : Summary = record {
      input = flow_in c.script-script.result.now;
      output = c.output_flow.result;
      totals = c.in-Ok-stream.totals;
      measures = c.find_measures.new.measures;
    } in
    let passed : IsTrue c.legal.result = search in
    let legal : IsTrue (is_legal_for script c.chosen-block.result) = subst IsTrue c.legal.ensures passed in
    record {
      legal = subst (λ n. IsTrue (is_legal_for script n)) c.chosen-block.ensures legal;
      done = rw (
        c.in-Ok.ensures.banked_is,
        same,
        c.in-Ok.ensures.block_is,
        c.chosen-block.ensures,
        ← c.find_measures.ensures,
      ) at c.in-Ok-stream.ensures.ok;
      text = text_by script summary (ap flow_in stays) (c.output_flow.ensures ∙ ap flow_out stays)
          (c.in-Ok-stream.ensures.given ∙ ap (λ (s : Script). frames_given s.blocks taken) same)
          (c.in-Ok-stream.ensures.multiplies ∙ ap (λ (s : Script). cost_of s taken) same);
    }
