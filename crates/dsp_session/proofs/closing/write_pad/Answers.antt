use Rattle.std.proofs.Common.{◌≡◌, ◌≢◌, ◌∙◌, ℕ, ◌<◌, List, length, take, MatchResult, sym, subst}
use Rattle.dsp_ports.specs.Ports.{Took}
use Rattle.dsp_defs.specs.declared.format.Container.TheVariants as container
use Rattle.dsp_defs.specs.Output.{output_pad}
use Rattle.dsp_session.proofs.OpenLaws.{pad_bytes}
use Rattle.dsp_session.proofs.closing.write_pad.Goals as goal

pub returns-clause-took : goal.returns-clause-took
returns-clause-took g c =
    let script = c.args.script.now in
    let headed : script.output ≢ container.Raw = λ is. absurd
    (let not = rw is at (sym c.eq.ensures ∙ c.if-eq.false) in cc) in
    let bytes : c.pad.result.now ≡ output_pad script c.args.header =
    c.pad.ensures ∙ rw (c.output_flow-flow.ensures, c.known_frames-known.ensures)
    (sym (pad_bytes script c.args.header headed)) in
    subst (λ (bytes : List ℕ). MatchResult c.write_all.result
    (λ _. Took (g.K.Sink.state c.args.output.now) (g.K.Sink.state c.write_all.new.sink) bytes)
    (λ _. (count : ℕ) × (count < length bytes) × Took (g.K.Sink.state c.args.output.now)
    (g.K.Sink.state c.write_all.new.sink) (take count bytes))) bytes c.write_all.ensures.took
