-- Samples as bytes, little-endian. Samples are two's complement, but that a WAVE sample of 8 bits is its byte minus
-- 128.
use Rattle.std.specs.Prelude.{◌≡◌, ◌<◌, ℕ, ◌+◌, ◌*◌, ◌/◌, ◌^◌, ℤ, pos, ◌+ℤ◌, ◌-ℤ◌, ◌*ℤ◌, nat_abs, FitsSigned, List}
use Rattle.std.specs.Prelude.{[], ◌∷◌, length, take, drop, get_or, flat_map}
use Rattle.std.specs.Int.{to_le_bytes, from_le_bytes, cast_unsigned, cast_signed}
use Rattle.dsp_defs.specs.Numbers.{w32}
use Rattle.dsp_defs.specs.Formats.{word}
use Rattle.dsp_defs.specs.Signal.{values}
use Rattle.dsp_defs.specs.Block.{Frame}
use Rattle.dsp_defs.specs.declared.format.Fmt.{Fmt}
use Rattle.dsp_defs.specs.declared.format.Fmt.TheVariants.{Q7, Q15, Q31}
use Rattle.dsp_defs.specs.declared.format.Container.{Container}
use Rattle.dsp_defs.specs.declared.format.Container.TheVariants.{Raw}
use Rattle.dsp_defs.specs.declared.format.Coding.{Coding}
use Rattle.dsp_defs.specs.declared.format.Coding.TheVariants.{Raw7, Raw15, Raw31, Wave7, Wave15, Wave24, Wave31}

-- ---- codings

-- the format of the samples
abbrev pub format_in : Coding → Fmt
format_in Raw7 = Q7
format_in Raw15 = Q15
format_in Raw31 = Q31
format_in Wave7 = Q7
format_in Wave15 = Q15
format_in Wave24 = Q31
format_in Wave31 = Q31

-- the coding of a format in a container, of all its bits
abbrev pub coding_of : Container → Fmt → Coding
coding_of Raw Q7 = Raw7
coding_of Raw Q15 = Raw15
coding_of Raw Q31 = Raw31
coding_of _ Q7 = Wave7
coding_of _ Q15 = Wave15
coding_of _ Q31 = Wave31

-- how many bytes the word of a format has
abbrev pub word_bytes : Fmt → ℕ
word_bytes Q7 = 1
word_bytes Q15 = 2
word_bytes Q31 = 4

-- how many bytes a sample has
abbrev pub width : Coding → ℕ
width Wave24 = 3
width coding = word_bytes (format_in coding)

-- the samples that a coding has bytes for: all of its format, and with 24 bits the multiples of 2^8
abbrev pub IsValue : Coding → ℤ → Type 0
IsValue Wave24 x = FitsSigned w32 x × (n : ℤ) × (x ≡ n *ℤ pos (2 ^ 8))
IsValue coding x = FitsSigned (word (format_in coding)) x

-- ---- samples

-- the bytes of a sample; of 24 bits those above the lowest
abbrev pub bytes_of : Coding → ℤ → List ℕ
bytes_of Wave7 x = nat_abs (x +ℤ pos 128) ∷ []
bytes_of Wave24 x = drop 1 (to_le_bytes w32 (cast_unsigned w32 x))
bytes_of coding x = to_le_bytes (word (format_in coding)) (cast_unsigned (word (format_in coding)) x)

-- and the sample of such bytes; of 24 bits their number times 2^8
abbrev pub sample_of : Coding → List ℕ → ℤ
sample_of Wave7 bytes = pos (get_or bytes 0 0) -ℤ pos 128
sample_of Wave24 bytes = cast_signed w32 (from_le_bytes w32 (0 ∷ bytes))
sample_of coding bytes = cast_signed (word (format_in coding)) (from_le_bytes (word (format_in coding)) bytes)

-- as many bytes as n
abbrev pub AreBytes : ℕ → List ℕ → Type 0
AreBytes n bytes = (length bytes ≡ n) × ((i : ℕ) → get_or bytes i 0 < 256)

-- ---- signals

-- the bytes of a signal, frame by frame, where each sample has these bytes
abbrev pub coded_by : (ℤ → List ℕ) → List Frame → List ℕ
coded_by write frames = flat_map (λ frame. flat_map write frame) frames

-- the signal of all whole frames of the bytes, where each sample is read of so many bytes; a rest that is no whole
-- frame is dropped
abbrev pub samples_by : (List ℕ → ℤ) → ℕ → ℕ → List ℕ → List Frame
samples_by read width channels bytes =
    values (length bytes / (channels * width))
    (λ n. values channels (λ c. read (take width (drop ((n * channels + c) * width) bytes))))

-- the bytes of a signal in a coding
abbrev pub coded : Coding → List Frame → List ℕ
coded coding frames = coded_by (bytes_of coding) frames

-- and the signal of bytes
abbrev pub samples : Coding → ℕ → List ℕ → List Frame
samples coding channels bytes = samples_by (sample_of coding) (width coding) channels bytes
