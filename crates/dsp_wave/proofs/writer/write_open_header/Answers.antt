use Rattle.std.proofs.Common.{◌≡◌, rules, arith}
use Rattle.std.proofs.lemmas.Grind.{common_steps}
use Rattle.dsp_defs.specs.Open.{open_wave_header}
use Rattle.dsp_defs.proofs.AuLaws.{open_header_of-open_wave_header}
use Rattle.dsp_wave.proofs.writer.write_open_header.Goals as goal

pub returns-clause-heads : goal.returns-clause-heads
returns-clause-heads c rest =
    let made : c.header_of_width.result.items ≡ open_wave_header c.args.coding c.args.channels c.args.rate
    c.args.frames = first_of (search rules, grind (arith, common_steps)) in
    rw made (open_header_of-open_wave_header c.args.coding c.requires.wave c.args.channels c.args.rate c.args.frames
    rest c.requires.some c.requires.channels (omega (arith, c.ranges.rate)) c.requires.size)
