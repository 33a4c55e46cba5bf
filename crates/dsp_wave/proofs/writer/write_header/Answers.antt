use Rattle.std.proofs.Common.{◌≡◌, rules, arith}
use Rattle.std.proofs.lemmas.Grind.{common_steps}
use Rattle.dsp_defs.specs.Wave.{wave_header}
use Rattle.dsp_defs.proofs.WaveLaws.{header_of-wave_header}
use Rattle.dsp_wave.proofs.writer.write_header.Goals as goal

pub returns-clause-heads : goal.returns-clause-heads
returns-clause-heads c rest =
    let made : c.header_of_width.result.items ≡ wave_header c.args.container c.args.format c.args.channels c.args.rate
    c.args.frames = first_of (search rules, grind (arith, common_steps)) in
    rw made (header_of-wave_header c.args.format c.args.channels c.args.rate c.args.frames rest c.requires.channels
    (omega (arith, c.ranges.rate)) c.args.container c.requires.size)
