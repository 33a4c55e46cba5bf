-- WAVE files of which nothing is wanted: a header is judged by what its own `fmt ` chunk says.
use Rattle.std.specs.Prelude.{◌≢◌, ℕ, ◌-◌, ◌^◌, ◌≤◌, ◌&&◌, nat_eq, nat_le, if◌then◌else◌, List, [], ◌∷◌, codes}
use Rattle.std.specs.Prelude.{Option, Some, IfSome, Result}
use Rattle.std.specs.Option.{option_map}
use Rattle.std.specs.Result.{result_map_both}
use Rattle.dsp_defs.specs.Bytes.{width}
use Rattle.dsp_defs.specs.Wave.{Chunk, WidthFits, chunks, data_bytes, has_id, header_of, header_of_width, u16_at}
use Rattle.dsp_defs.specs.declared.limits.TheConstants.{MAX_CHANNELS}
use Rattle.dsp_defs.specs.declared.format.Fmt.{Fmt}
use Rattle.dsp_defs.specs.declared.format.Fmt.TheVariants.{Q7, Q15, Q31}
use Rattle.dsp_defs.specs.declared.format.Container.TheVariants.{Wave}
use Rattle.dsp_defs.specs.declared.format.Coding.{Coding}
use Rattle.dsp_defs.specs.declared.format.Coding.TheVariants.{Raw7, Raw15, Raw31}
use Rattle.dsp_defs.specs.declared.wave.Wanted.{Wanted}
use Rattle.dsp_defs.specs.declared.wave.Header.{Header}
use Rattle.dsp_defs.specs.declared.wave.OpenHeader.{OpenHeader}
use Rattle.dsp_defs.specs.declared.wave.HeaderFault.{HeaderFault}

-- ---- what a file wants of itself

-- the format of samples of so many bits; Q31 has 24 and 32, and is wanted where no format has so many
abbrev pub format_of_bits : ℕ → Fmt
format_of_bits bits = if nat_eq bits 8 then Q7 else (if nat_eq bits 16 then Q15 else Q31)

-- the channels that a file says, and the most that there may be where it says none or more
abbrev pub channels_in_limit : ℕ → ℕ
channels_in_limit channels = if nat_le 1 channels && nat_le channels MAX_CHANNELS then channels else MAX_CHANNELS

-- what the body of a `fmt ` chunk wants of its own samples: its bits are wrong exactly where they are none of 8, 16,
-- 24 and 32,
-- and its channels exactly where they are not 1 to 16
abbrev pub own_wanted : List ℕ → Wanted
own_wanted body = record { format = format_of_bits (u16_at body 14); channels = channels_in_limit (u16_at body 2) }

-- what the first `fmt ` chunk wants, where there is one
abbrev pub wanted_in : List Chunk → Wanted
wanted_in [] = own_wanted []
wanted_in (chunk ∷ chunks) = if has_id (codes "fmt ") chunk then own_wanted chunk.body else wanted_in chunks

-- what a file wants of itself
abbrev pub wanted_by : List ℕ → Wanted
wanted_by bytes = wanted_in (chunks bytes)

-- ---- reading

-- what a header says, with the channels of the file
abbrev pub opened : Wanted → Header → OpenHeader
opened wanted header = record {
  rate = header.rate;
  start = header.start;
  size = header.size;
  coding =
      header.coding;
  channels = wanted.channels;
}

-- the same without them
abbrev pub closed : OpenHeader → Header
closed header = record { rate = header.rate; start = header.start; size = header.size; coding = header.coding }

-- what a file's header says, or its fault with the offset
abbrev pub open_header_of : List ℕ → Result OpenHeader (HeaderFault × ℕ)
open_header_of bytes = result_map_both (opened (wanted_by bytes)) (λ fault. fault) (header_of bytes (wanted_by bytes))

-- ---- writing

-- samples in a WAVE file stand in this coding
abbrev pub IsWave : Coding → Type 0
IsWave Raw7 = ⊥
IsWave Raw15 = ⊥
IsWave Raw31 = ⊥
IsWave coding = Unit {0}

-- what a good header says: samples in a coding of WAVE, 1 to 16 channels, and no size that stands for none
pub record IsOpenGood (header : OpenHeader) : Type 0 where
  pub wave : IsWave header.coding
  pub some : 1 ≤ header.channels
  pub few : header.channels ≤ MAX_CHANNELS
  pub size : IfSome header.size (λ size. size ≢ 2 ^ 32 - 1)

-- the sizes in the header of a WAVE file of so many frames in a coding stand in 32 bits, below the number that stands
-- for none
abbrev pub OpenFits : Coding → ℕ → Option ℕ → Type 0
OpenFits coding channels frames = WidthFits Wave (width coding) channels frames

-- the 44 bytes before the samples of a file in a coding
abbrev pub open_wave_header : Coding → ℕ → ℕ → Option ℕ → List ℕ
open_wave_header coding channels rate frames = header_of_width Wave (width coding) channels rate frames

-- what that header says
abbrev pub open_written_header : Coding → ℕ → ℕ → Option ℕ → OpenHeader
open_written_header coding channels rate frames = record {
  rate = rate;
  start = 44;
  size = option_map (λ n. data_bytes (width coding) channels (Some n)) frames;
  coding = coding;
  channels = channels;
}
