use Rattle.dsp_host.proofs.Behind.{held_goes}
use Rattle.dsp_host.proofs.ongoing.held_is_text.Goals as goal

pub returns : goal.returns
returns c text block frames numbers old new bytes space kept_room given after opened pushed left few =
    held_goes text block frames numbers old opened new bytes space kept_room given after pushed left few
