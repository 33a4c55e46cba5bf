-- Sun AU files, and the file in the other form that has the signal of a WAVE or an AU file. All numbers of an AU file
-- are
-- big-endian. A coding stands for its number of bits: `Wave7`, `Wave15`, `Wave24` and `Wave31` for 8, 16, 24 and 32.
use Rattle.std.specs.Prelude.{◌≡◌, ℕ, ◌+◌, ◌*◌, ◌/◌, ◌-◌, ◌^◌, ◌<◌, ◌≤◌, ℤ, not, ◌&&◌, nat_eq, nat_le, nat_lt, if◌then◌else◌}
use Rattle.std.specs.Prelude.{List, [], ◌∷◌, ◌++◌, length, take, drop, get_or, codes, Option, Some}
use Rattle.std.specs.Prelude.{None, IfSome, Result, Ok, Err}
use Rattle.std.specs.Int.{to_be_bytes, from_be_bytes, cast_unsigned, cast_signed}
use Rattle.std.specs.Option.{option_map}
use Rattle.std.specs.Str.{bytes_eq}
use Rattle.std.specs.Result.{result_ok}
use Rattle.dsp_defs.specs.Numbers.{w32}
use Rattle.dsp_defs.specs.Formats.{word}
use Rattle.dsp_defs.specs.Block.{Frame}
use Rattle.dsp_defs.specs.Bytes.{bytes_of, coded_by, format_in, sample_of, samples_by, width}
use Rattle.dsp_defs.specs.Wave.{data_bytes, declared_size, pad_of_width}
use Rattle.dsp_defs.specs.Open.{OpenFits, open_header_of, open_wave_header, open_written_header}
use Rattle.dsp_defs.specs.Output.{sample_bytes_at}
use Rattle.dsp_defs.specs.declared.limits.TheConstants.{MAX_CHANNELS}
use Rattle.dsp_defs.specs.declared.format.Coding.{Coding}
use Rattle.dsp_defs.specs.declared.format.Coding.TheVariants.{Wave7, Wave15, Wave24, Wave31}
use Rattle.dsp_defs.specs.declared.wave.OpenHeader.{OpenHeader}
use Rattle.dsp_defs.specs.declared.au.AuFault.{AuFault}
use Rattle.dsp_defs.specs.declared.au.AuFault.TheVariants.{NotAu, Offset, Encoding, Channels, Ended}
use Rattle.dsp_defs.specs.declared.au.Direction.{Direction}
use Rattle.dsp_defs.specs.declared.au.Direction.TheVariants.{WaveToAu, AuToWave}

-- ---- the header of an AU file: `.snd`, and five numbers of 32 bits: where the samples begin, their bytes, the
-- encoding,
-- the rate, the channels; then bytes that say nothing

-- the bytes of those fields
abbrev pub au_fields : ℕ
au_fields = 24

-- the number of 32 bits at a place
abbrev pub big_u32_at : List ℕ → ℕ → ℕ
big_u32_at bytes place = from_be_bytes w32 (take 4 (drop place bytes))

-- the samples of an encoding, where it is linear
abbrev pub coding_of_encoding : ℕ → Option Coding
coding_of_encoding encoding =
    if nat_eq encoding 2 then Some Wave7 else
    (if nat_eq encoding 3 then Some Wave15 else
    (if nat_eq encoding 4 then Some Wave24 else
    (if nat_eq encoding 5 then Some Wave31 else None)))

-- what the fields say where their encoding is linear
abbrev pub au_channels_said : List ℕ → Coding → Result OpenHeader (AuFault × ℕ)
au_channels_said fields coding =
    let channels = big_u32_at fields 20 in
    if nat_le 1 channels && nat_le channels MAX_CHANNELS
    then Ok (record {
      rate = big_u32_at fields 16;
      start = big_u32_at fields 4;
      size =
          declared_size (big_u32_at fields 8);
      coding = coding;
      channels = channels;
    })
    else Err (Channels channels, 20)

-- what the fields behind `.snd` say
abbrev pub au_said : List ℕ → Result OpenHeader (AuFault × ℕ)
au_said fields =
    let start = big_u32_at fields 4 in
    let encoding = big_u32_at fields 12 in
    if nat_lt start au_fields then Err (Offset start, 4) else
    elim (coding_of_encoding encoding) [
      | Some coding ↦ au_channels_said fields coding
      | None ↦ Err
          (Encoding encoding, 12)
    ]

-- a header whose samples begin behind the end of the file is cut
abbrev pub au_whole : ℕ → Result OpenHeader (AuFault × ℕ) → Result OpenHeader (AuFault × ℕ)
au_whole total (Err fault) = Err fault
au_whole total (Ok header) = if nat_lt total header.start then Err (Ended, total) else Ok header

-- what an AU file's header says, or its fault with the offset
abbrev pub au_header_of : List ℕ → Result OpenHeader (AuFault × ℕ)
au_header_of bytes =
    if not (bytes_eq (take 4 bytes) (codes ".snd")) then Err (NotAu, 0) else
    (if nat_lt (length bytes) au_fields then Err (Ended, length bytes) else
    au_whole (length bytes) (au_said (take au_fields bytes)))

-- the number that stands for samples of a coding: 2, 3, 4 and 5 for 8, 16, 24 and 32 bits
abbrev pub encoding_of : Coding → ℕ
encoding_of coding = width coding + 1

-- the sizes of a known length stand in 32 bits, below the number that stands for none
abbrev pub AuFits : Coding → ℕ → Option ℕ → Type 0
AuFits coding channels frames = IfSome frames (λ n. data_bytes (width coding) channels (Some n) < 2 ^ 32 - 1)

-- the bytes before the samples of a file
abbrev pub au_header : Coding → ℕ → ℕ → Option ℕ → List ℕ
au_header coding channels rate frames =
    codes ".snd" ++ to_be_bytes w32 au_fields ++ to_be_bytes w32 (data_bytes (width coding) channels frames)
    ++ to_be_bytes w32 (encoding_of coding) ++ to_be_bytes w32 rate ++ to_be_bytes w32 channels

-- what that header says
abbrev pub au_written_header : Coding → ℕ → ℕ → Option ℕ → OpenHeader
au_written_header coding channels rate frames = record {
  rate = rate;
  start = au_fields;
  size = option_map (λ n. data_bytes (width coding) channels (Some n)) frames;
  coding = coding;
  channels = channels;
}

-- ---- samples in an AU file: two's complement, the highest byte first

-- the bytes of a sample; of 24 bits those above the lowest
abbrev pub au_bytes_of : Coding → ℤ → List ℕ
au_bytes_of Wave24 x = take 3 (to_be_bytes w32 (cast_unsigned w32 x))
au_bytes_of coding x = to_be_bytes (word (format_in coding)) (cast_unsigned (word (format_in coding)) x)

-- and the sample of such bytes; of 24 bits their number times 2^8
abbrev pub au_sample_of : Coding → List ℕ → ℤ
au_sample_of Wave24 bytes = cast_signed w32 (from_be_bytes w32 (bytes ++ (0 ∷ [])))
au_sample_of coding bytes = cast_signed (word (format_in coding)) (from_be_bytes (word (format_in coding)) bytes)

-- ---- files of both forms

-- the forms of file between which samples are taken
pub data Form : Type 0 where
  WaveForm : Form
  AuForm : Form

-- the form of the file that is read
abbrev pub source_form : Direction → Form
source_form WaveToAu = WaveForm
source_form AuToWave = AuForm

-- and that of the file that is written
abbrev pub target_form : Direction → Form
target_form WaveToAu = AuForm
target_form AuToWave = WaveForm

-- the way back
abbrev pub back : Direction → Direction
back WaveToAu = AuToWave
back AuToWave = WaveToAu

-- what the header of a file says, where it is good
abbrev pub form_header_of : Form → List ℕ → Option OpenHeader
form_header_of WaveForm bytes = result_ok (open_header_of bytes)
form_header_of AuForm bytes = result_ok (au_header_of bytes)

-- the bytes of a sample, and the sample of bytes
abbrev pub form_bytes_of : Form → Coding → ℤ → List ℕ
form_bytes_of WaveForm = bytes_of
form_bytes_of AuForm = au_bytes_of

abbrev pub form_sample_of : Form → Coding → List ℕ → ℤ
form_sample_of WaveForm = sample_of
form_sample_of AuForm = au_sample_of

-- the bytes of a signal, frame by frame
abbrev pub form_coded : Form → Coding → List Frame → List ℕ
form_coded form coding frames = coded_by (form_bytes_of form coding) frames

-- the signal of all whole frames of the bytes; a rest that is no whole frame is dropped
abbrev pub form_samples : Form → Coding → ℕ → List ℕ → List Frame
form_samples form coding channels bytes = samples_by (form_sample_of form coding) (width coding) channels bytes

-- the bytes of a frame
abbrev pub open_frame_bytes : OpenHeader → ℕ
open_frame_bytes header = header.channels * width header.coding

-- the whole frames that a header declares, if it does
abbrev pub open_declared_frames : OpenHeader → Option ℕ
open_declared_frames header = option_map (λ size. size / open_frame_bytes header) header.size

-- the signal of a file with this header
abbrev pub form_signal : Form → OpenHeader → List ℕ → List Frame
form_signal form header bytes = form_samples form header.coding header.channels
    (sample_bytes_at header.start header.size bytes)

-- the bytes before the samples of a file of a form, with the rate, the channels, the coding and the length that a
-- header says
abbrev pub form_header : Form → OpenHeader → List ℕ
form_header WaveForm header = open_wave_header header.coding header.channels header.rate (open_declared_frames header)
form_header AuForm header = au_header header.coding header.channels header.rate (open_declared_frames header)

-- the byte behind them, if there is one
abbrev pub form_pad : Form → OpenHeader → List ℕ
form_pad WaveForm header = pad_of_width (width header.coding) header.channels (open_declared_frames header)
form_pad AuForm header = []

-- a file of a form that says what the header says has sizes for it
abbrev pub FormFits : Form → OpenHeader → Type 0
FormFits WaveForm header = OpenFits header.coding header.channels (open_declared_frames header)
FormFits AuForm header = AuFits header.coding header.channels (open_declared_frames header)

-- ---- conversion

-- the header of the file that is read
abbrev pub source_header : Direction → List ℕ → Option OpenHeader
source_header direction bytes = form_header_of (source_form direction) bytes

-- the signal of a file
abbrev pub source_signal : Direction → OpenHeader → List ℕ → List Frame
source_signal direction header bytes = form_signal (source_form direction) header bytes

-- the header of the target and the samples of a signal
abbrev pub target_of_signal : Direction → OpenHeader → List Frame → List ℕ
target_of_signal direction header x = form_header (target_form direction) header ++ form_coded (target_form direction)
    header.coding x

-- the file in the other form: the header with the rate, the channels and the length of the source, the same signal in
-- as many
-- bits, and the pad byte
abbrev pub target_with : Direction → OpenHeader → List ℕ → List ℕ
target_with direction header bytes =
    target_of_signal direction header (source_signal direction header bytes) ++ form_pad (target_form direction) header

-- of a source with a good header; any other has no file in the other form
abbrev pub target : Direction → List ℕ → List ℕ
target direction bytes = elim (source_header direction bytes)
    [ Some header ↦ target_with direction header bytes | None ↦ [] ]

-- ---- what a conversion keeps

-- what the header of the file in a form says, for a source of this header
abbrev pub form_written : Form → OpenHeader → OpenHeader
form_written WaveForm header = open_written_header header.coding header.channels header.rate
    (open_declared_frames header)
form_written AuForm header = au_written_header header.coding header.channels header.rate (open_declared_frames header)

-- bytes with this good header and all whole frames that it declares, whose length is not known or fits a WAVE file
pub record IsConvertible (direction : Direction) (header : OpenHeader) (bytes : List ℕ) : Type 0 where
  pub are_bytes : (i : ℕ) → get_or bytes i 0 < 256
  pub has : source_header direction bytes ≡ Some header
  pub whole : IfSome header.size (λ size. header.start + size / open_frame_bytes header * open_frame_bytes header ≤
      length bytes)
  pub fits : OpenFits header.coding header.channels (open_declared_frames header)

-- these bytes have this header, and their signal is x
abbrev pub HasSignal : Direction → OpenHeader → List ℕ → List Frame → Type 0
HasSignal direction header bytes x = (source_header direction bytes ≡ Some header) ×
    (source_signal direction header bytes ≡ x)

-- the signal of the target is the signal of the source, and converting back gives it again
abbrev pub KeepsSignal : Direction → Type 0
KeepsSignal direction =
    (header : OpenHeader) (bytes : List ℕ) → IsConvertible direction header bytes →
    let x = source_signal direction header bytes in
    let there = target direction bytes in
    let said = form_written (target_form direction) header in
    HasSignal (back direction) said there x × HasSignal direction (form_written (source_form direction) said)
    (target (back direction) there) x
