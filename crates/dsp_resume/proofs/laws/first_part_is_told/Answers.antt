use Rattle.std.proofs.Common.{◌≡◌, take}
use Rattle.dsp_defs.specs.Output.{input_signal}
use Rattle.dsp_session.specs.Resuming.{first_output}
use Rattle.dsp_resume.proofs.ToldLaws as laws
use Rattle.dsp_resume.proofs.laws.first_part_is_told.Goals as goal

pub returns : goal.returns
returns c script frames session input now sink after before counts done channels =
    laws.told input now done.given
    (λ bytes. (first_output script frames bytes ≡ first_output script frames done.given) ×
    (take frames (input_signal script bytes) ≡ input_signal script done.given)) done.gave
    (λ more left. (
      laws.first_output_stays script done.given more done.has channels frames done.exact done.frame_count,
      laws.first_stays script done.given more done.has channels frames done.exact done.frame_count,
    ))
