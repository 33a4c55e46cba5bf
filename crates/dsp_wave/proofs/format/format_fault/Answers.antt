use Rattle.std.proofs.Common.{◌∙◌, sym}
use Rattle.dsp_defs.specs.Wave.{pcm_tests, sample_tests}
use Rattle.dsp_wave.specs.Taking.{format_chunk}
use Rattle.dsp_wave.proofs.FormatLaws.{fails_in_front, passes_front}
use Rattle.dsp_wave.proofs.format.format_fault.Goals as goal

pub returns-in-Some : goal.returns-in-Some
returns-in-Some c =
    let chunk = format_chunk c.args.offset c.args.size c.args.body.now in
    sym (fails_in_front (pcm_tests 0 chunk) (sample_tests c.args.wanted chunk) c.in-Some.fault
    (sym c.pcm_fault.ensures ∙ c.in-Some.is))

pub returns-in-None : goal.returns-in-None
returns-in-None c =
    let chunk = format_chunk c.args.offset c.args.size c.args.body.now in
    c.sample_fault.ensures ∙ sym (passes_front (pcm_tests 0 chunk) (sample_tests c.args.wanted chunk)
    (sym c.pcm_fault.ensures ∙ c.in-None.is))
