-- A signal as a list of its channels.
use Rattle.std.specs.Prelude.{◌≡◌, ℕ, ◌≤◌, ℤ, List, [], ◌∷◌, ◌++◌, length, map, get_or, replicate, All}
use Rattle.std.specs.Prelude.{FitsSigned}
use Rattle.dsp_defs.specs.Formats.{word}
use Rattle.dsp_defs.specs.Signal.{sample, values}
use Rattle.dsp_defs.specs.Block.{Frame}
use Rattle.dsp_defs.specs.declared.format.Fmt.{Fmt}

-- the samples of each channel
abbrev pub frame_count : List (List ℤ) → ℕ
frame_count channels = length (get_or channels 0 [])

-- 1 to 16 channels of equally many samples
pub record AreChannels (channels : List (List ℤ)) : Type 0 where
  pub some : 1 ≤ length channels
  pub few : length channels ≤ 16
  pub alike : All (λ samples. length samples ≡ frame_count channels) channels

-- frame n
abbrev pub frame_at : List (List ℤ) → ℕ → Frame
frame_at channels n = map (λ samples. sample samples n) channels

-- all samples are numbers of the format's word
abbrev pub InFormat : Fmt → List (List ℤ) → Type 0
InFormat format channels = All (λ samples. All (FitsSigned (word format)) samples) channels

-- channels of no frames
abbrev pub no_frames : ℕ → List (List ℤ)
no_frames channels = replicate channels []

-- one frame more
abbrev pub with_frame : List (List ℤ) → List ℤ → List (List ℤ)
with_frame channels frame = values (length channels) (λ c. get_or channels c [] ++ sample frame c ∷ [])
