use Rattle.std.proofs.Common.{◌≡◌}
use Rattle.dsp_defs.specs.Output.{input_header, input_signal}
use Rattle.dsp_resume.proofs.ToldLaws as laws
use Rattle.dsp_resume.proofs.laws.rest_is_told.Goals as goal
use Rattle.dsp_defs.proofs.OutputLaws.{input_header-append}

pub returns : goal.returns
returns c script start from frames input now sink after before counts found done channels =
    laws.told input now done.given
    (λ bytes. (input_signal script bytes ≡ input_signal script done.given) ×
    (input_header script bytes ≡ input_header script done.given)) done.gave
    (λ more left. (
      laws.whole_stays script done.given more done.has channels now left done.whole,
      input_header-append script done.given more done.has,
    ))
