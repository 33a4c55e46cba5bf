-- How many samples stand at each place of a script, for a whole signal.
use Rattle.std.specs.Prelude.{ℕ, ◌*◌, ◌≤◌, nat_le, if◌then◌else◌, List, [], ◌∷◌, Option, Some, None}
use Rattle.dsp_defs.specs.Block.{channels_after}
use Rattle.dsp_defs.specs.Shape.{whole_frames}
use Rattle.dsp_defs.specs.declared.limits.TheConstants.{MAX_CHECKED}
use Rattle.dsp_defs.specs.declared.script.Block.{Block}

-- so many samples, of all channels, may stand at a place of a script that is checked
abbrev pub IsSmall : ℕ → Type 0
IsSmall samples = samples ≤ MAX_CHECKED

-- the samples of n frames at the first place with more, if there is one
abbrev pub size_at : ℕ → List Block → ℕ → Option ℕ
size_at channels [] n = if nat_le (n * channels) MAX_CHECKED then None else Some (n * channels)
size_at channels (block ∷ blocks) n =
    if nat_le (n * channels) MAX_CHECKED then size_at (channels_after channels block) blocks (whole_frames block n)
    else Some (n * channels)
