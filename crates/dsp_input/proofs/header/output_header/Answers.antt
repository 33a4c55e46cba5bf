use Rattle.std.proofs.Common.{◌≢◌, ◌∙◌, sym}
use Rattle.dsp_defs.specs.declared.format.Container.TheVariants as container
use Rattle.dsp_input.proofs.Places.{few_channels, header_bytes}
use Rattle.dsp_input.proofs.header.output_header.Goals as goal

pub write_header-requires-clause-channels : goal.write_header-requires-clause-channels
write_header-requires-clause-channels c = rw c.output_flow-flow.ensures
    (few_channels c.args.script.now c.requires.sound)

pub returns : goal.returns
returns c =
    let script = c.args.script.now in
    let headed : script.output ≢ container.Raw = λ is. absurd
    (let not = rw is at (sym c.eq.ensures ∙ c.if-eq.false) in cc) in
    c.write_header.ensures.bytes
    ∙ rw (c.output_flow-flow.ensures, c.output_rate-rate.ensures, c.requires.known)
    (sym (header_bytes script c.args.header headed))
