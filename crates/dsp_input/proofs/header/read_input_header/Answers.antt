use Rattle.std.proofs.Common.{[], ◌++◌}
use Rattle.dsp_defs.proofs.HeaderCoding.{header_coding}
use Rattle.dsp_input.proofs.header.read_input_header.Goals as goal

pub returns-in-Ok-clause-coding : goal.returns-in-Ok-clause-coding
returns-in-Ok-clause-coding g c =
    let headed = c.in-Ok.ensures.ok in
    let input = c.args.script.now.input in
    header_coding (headed.bytes ++ []) (record { format = input.format; channels = input.channels }) _ (headed.said [])
