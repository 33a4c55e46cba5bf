use Rattle.std.proofs.Common.{◌∙◌, ◌≤◌, ap, sym, subst, Some}
use Rattle.dsp_defs.specs.Output.{format_of, channels_of}
use Rattle.dsp_defs.specs.Wave.{HeaderFits, riff_size}
use Rattle.dsp_defs.specs.declared.flow.Flow.{Flow}
use Rattle.dsp_defs.specs.declared.limits.TheConstants.{MAX_RIFF_SIZE}
use Rattle.dsp_input.proofs.header.long_riff.Goals as goal

pub returns-then-size-from-clause-none : goal.returns-then-size-from-clause-none
returns-then-size-from-clause-none c =
    let script = c.args.script.now in
    let size = c.riff_size-size.ensures ∙ ap (λ (flow : Flow). riff_size script.output flow.format flow.channels
    (Some c.in_ok-known.field-0)) c.output_flow-flow.ensures in
    let fits = subst (λ n. n ≤ MAX_RIFF_SIZE) size (subst (λ n. c.riff_size-size.result ≤ n) c.from.ensures
    c.if-size-from.true) in
    λ none headed. subst (HeaderFits script.output (format_of script) (channels_of script)) (sym c.in_ok-known.was) fits
