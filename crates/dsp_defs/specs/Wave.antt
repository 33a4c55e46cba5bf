-- WAVE files: their chunks, what a header says, its faults, and the header that is written. All numbers are
-- little-endian.
use Rattle.std.specs.Prelude.{◌≡◌, ℕ, zero, suc, ◌+◌, ◌*◌, ◌%◌, ◌-◌, ◌^◌, ◌≤◌, Bool, not, ◌||◌, nat_eq, nat_le}
use Rattle.std.specs.Prelude.{nat_lt, if◌then◌else◌, List, [], ◌∷◌, ◌++◌, length, take, drop, codes, Option, Some}
use Rattle.std.specs.Prelude.{None, IfSome, Result, Ok, Err}
use Rattle.std.specs.Int.{to_le_bytes, from_le_bytes}
use Rattle.std.specs.Option.{option_map}
use Rattle.std.specs.Str.{bytes_eq}
use Rattle.std.specs.Result.{result_err}
use Rattle.dsp_defs.specs.Numbers.{w16, w32}
use Rattle.dsp_defs.specs.Bytes.{coding_of, width, word_bytes}
use Rattle.dsp_defs.specs.declared.limits.TheConstants.{MAX_RIFF_SIZE}
use Rattle.dsp_defs.specs.declared.format.Fmt.{Fmt}
use Rattle.dsp_defs.specs.declared.format.Fmt.TheVariants.{Q31}
use Rattle.dsp_defs.specs.declared.format.Container.{Container}
use Rattle.dsp_defs.specs.declared.format.Container.TheVariants.{Wave, Wavex}
use Rattle.dsp_defs.specs.declared.format.Coding.{Coding}
use Rattle.dsp_defs.specs.declared.format.Coding.TheVariants.{Wave24, Wave31}
use Rattle.dsp_defs.specs.declared.wave.Sampling.{Sampling}
use Rattle.dsp_defs.specs.declared.wave.Wanted.{Wanted}
use Rattle.dsp_defs.specs.declared.wave.Header.{Header}
use Rattle.dsp_defs.specs.declared.wave.HeaderFault.{HeaderFault}
use Rattle.dsp_defs.specs.declared.wave.HeaderFault.TheVariants.{NotRiff, NotWave, NoFormat, FormatSize, Tag, Bits}
use Rattle.dsp_defs.specs.declared.wave.HeaderFault.TheVariants.{Channels, Align, NoSamples}

-- ---- chunks

-- the number of 16 bits at a place
abbrev pub u16_at : List ℕ → ℕ → ℕ
u16_at bytes place = from_le_bytes w16 (take 2 (drop place bytes))

-- and of 32
abbrev pub u32_at : List ℕ → ℕ → ℕ
u32_at bytes place = from_le_bytes w32 (take 4 (drop place bytes))

-- a chunk: the offset of its id, its id, its declared size, and as much of its body as the file has
pub record Chunk : Type 0 where
  pub offset : ℕ
  pub id : List ℕ
  pub size : ℕ
  pub body : List ℕ

-- the chunk with which the bytes from an offset on begin: four bytes id, four bytes size, the body
abbrev pub chunk_at : ℕ → List ℕ → Chunk
chunk_at offset bytes = record {
  offset = offset;
  id = take 4 bytes;
  size = u32_at bytes 4;
  body =
      take (u32_at bytes 4) (drop 8 bytes);
}

-- a size with the pad byte of an odd one
abbrev pub padded : ℕ → ℕ
padded size = size + size % 2

-- the chunks of the bytes from an offset on, of which the first `skipped` belong to the chunk before
abbrev pub chunks_behind : ℕ → ℕ → List ℕ → List Chunk
chunks_behind skipped offset [] = []
chunks_behind (suc skipped) offset (byte ∷ bytes) = chunks_behind skipped (offset + 1) bytes
chunks_behind zero offset (byte ∷ bytes) =
    let chunk = chunk_at offset (byte ∷ bytes) in
    if nat_lt (length bytes) 7 then [] else (chunk ∷ chunks_behind (7 + padded chunk.size) (offset + 1) bytes)

-- the chunks of a file whose id and size are complete
abbrev pub chunks : List ℕ → List Chunk
chunks bytes = chunks_behind 0 12 (drop 12 bytes)

-- whether a chunk has this id
abbrev pub has_id : List ℕ → Chunk → Bool
has_id id chunk = bytes_eq chunk.id id

-- ---- a `fmt ` chunk

-- a test: whether it holds, and what is at fault where it does not, with the offset
pub record Test : Type 0 where
  pub holds : Bool
  pub fault : HeaderFault
  pub offset : ℕ

-- the fault of the first test that does not hold
abbrev pub first_failed : List Test → Option (HeaderFault × ℕ)
first_failed [] = None
first_failed (test ∷ tests) = if test.holds then first_failed tests else Some (test.fault, test.offset)

-- the 16 bytes that stand for linear PCM in an extension
abbrev pub pcm_subformat : List ℕ
pcm_subformat = 1 ∷ 0 ∷ 0 ∷ 0 ∷ 0 ∷ 0 ∷ 16 ∷ 0 ∷ 128 ∷ 0 ∷ 0 ∷ 170 ∷ 0 ∷ 56 ∷ 155 ∷ 113 ∷ []

-- the tag of a chunk with an extension, 0xFFFE
abbrev pub extensible_tag : ℕ
extensible_tag = 65534

-- the chunk is whole, and says linear PCM: by the tag 1, or by the tag 0xFFFE and the extension of 24 bytes behind
-- the first
-- 16, whose other fields are not tested. The file has `total` bytes
abbrev pub pcm_tests : ℕ → Chunk → List Test
pcm_tests total chunk =
    let body = chunk.offset + 8 in
    let tag = u16_at chunk.body 0 in
    let plain = not (nat_eq tag extensible_tag) in
    record { holds = nat_le 16 chunk.size; fault = FormatSize chunk.size; offset = chunk.offset + 4 }
    ∷ record { holds = nat_le 16 (length chunk.body); fault = NoSamples; offset = total }
    ∷ record { holds = nat_eq tag 1 || nat_eq tag extensible_tag; fault = Tag tag; offset = body }
    ∷ record { holds = plain || nat_le 40 chunk.size; fault = FormatSize chunk.size; offset = chunk.offset + 4 }
    ∷ record { holds = plain || nat_le 40 (length chunk.body); fault = NoSamples; offset = total }
    ∷ record {
      holds = plain || bytes_eq (take 16 (drop 24 chunk.body)) pcm_subformat;
      fault =
          Tag (u16_at chunk.body 24);
      offset = body + 24;
    }
    ∷ []

-- how samples of a format stand, where a file says so many bits: Q31 may have 24, else the bits are to be those of
-- the word
abbrev pub file_coding : Fmt → ℕ → Coding
file_coding Q31 bits = if nat_eq bits 24 then Wave24 else Wave31
file_coding format bits = coding_of Wave format

-- what the chunk says of the samples
abbrev pub sampling : Wanted → Chunk → Sampling
sampling wanted chunk = record { rate = u32_at chunk.body 4; coding = file_coding wanted.format (u16_at chunk.body 14) }

-- the channels are those wanted, the bits those of the coding, and the block align is channels * bits / 8
abbrev pub sample_tests : Wanted → Chunk → List Test
sample_tests wanted chunk =
    let body = chunk.offset + 8 in
    let channels = u16_at chunk.body 2 in
    let bits = u16_at chunk.body 14 in
    let align = u16_at chunk.body 12 in
    let bytes = width (sampling wanted chunk).coding in
    record { holds = nat_eq channels wanted.channels; fault = Channels channels wanted.channels; offset = body + 2 }
    ∷ record { holds = nat_eq bits (8 * bytes); fault = Bits bits (8 * bytes); offset = body + 14 }
    ∷ record {
      holds = nat_eq align (wanted.channels * bytes);
      fault = Align align (wanted.channels * bytes);
      offset =
          body + 12;
    }
    ∷ []

-- what is at fault in the first `fmt ` chunk of a file of `total` bytes
abbrev pub format_fault : Wanted → ℕ → Chunk → Option (HeaderFault × ℕ)
format_fault wanted total chunk = first_failed (pcm_tests total chunk ++ sample_tests wanted chunk)

-- ---- reading

-- the fault, if there is one, and else what is said
abbrev pub unless : Option (HeaderFault × ℕ) → Result Header (HeaderFault × ℕ) → Result Header (HeaderFault × ℕ)
unless (Some fault) said = Err fault
unless None said = said

-- the declared size of the samples, where 2^32 - 1 means that they go to the end
abbrev pub declared_size : ℕ → Option ℕ
declared_size size = if nat_eq size (2 ^ 32 - 1) then None else Some size

-- what the chunks say, one after another: the first `fmt ` chunk counts, and the samples begin with the first `data`
-- chunk.
-- `known` is what the `fmt ` chunk said, if it came
abbrev pub header_in : Wanted → ℕ → Option Sampling → List Chunk → Result Header (HeaderFault × ℕ)
header_in wanted total known [] = Err (NoSamples, total)
header_in wanted total None (chunk ∷ chunks) =
    if has_id (codes "data") chunk then Err (NoFormat, chunk.offset) else
    (if has_id (codes "fmt ") chunk
    then unless (format_fault wanted total chunk) (header_in wanted total (Some (sampling wanted chunk)) chunks)
    else header_in wanted total None chunks)
header_in wanted total (Some known) (chunk ∷ chunks) =
    if has_id (codes "data") chunk
    then Ok (record {
      rate = known.rate;
      start = chunk.offset + 8;
      size = declared_size chunk.size;
      coding =
          known.coding;
    })
    else header_in wanted total (Some known) chunks

-- what a file's header says: `RIFF`, a size that is not tested, `WAVE`, and the chunks
abbrev pub header_of : List ℕ → Wanted → Result Header (HeaderFault × ℕ)
header_of bytes wanted =
    if not (bytes_eq (take 4 bytes) (codes "RIFF")) then Err (NotRiff, 0) else
    (if not (bytes_eq (take 4 (drop 8 bytes)) (codes "WAVE")) then Err (NotWave, 8) else
    header_in wanted (length bytes) None (chunks bytes))

-- the bytes have this good header
abbrev pub Heads : List ℕ → Wanted → Header → Type 0
Heads bytes wanted header = header_of bytes wanted ≡ Ok header

-- the fault of the bytes' header, and its offset
abbrev pub header_fault : List ℕ → Wanted → Option (HeaderFault × ℕ)
header_fault bytes wanted = result_err (header_of bytes wanted)

-- the fault of a file that is cut to n bytes before its samples begin
abbrev pub cut_fault : ℕ → HeaderFault × ℕ
cut_fault n = if nat_lt n 4 then (NotRiff, 0) else (if nat_lt n 12 then (NotWave, 8) else (NoSamples, n))

-- ---- writing

-- the bytes of the samples of a file of so many frames, whose samples have so many bytes each, and 2^32 - 1 where the
-- number of
-- frames is not known
abbrev pub data_bytes : ℕ → ℕ → Option ℕ → ℕ
data_bytes width channels None = 2 ^ 32 - 1
data_bytes width channels (Some frames) = frames * channels * width

-- of samples of a format
abbrev pub data_size : Fmt → ℕ → Option ℕ → ℕ
data_size format channels frames = data_bytes (word_bytes format) channels frames

-- the bytes in the `fmt ` chunk, with the extension or without
abbrev pub format_size : Container → ℕ
format_size Wavex = 40
format_size _ = 16

-- the bytes before the samples: 44, with the extension 68
abbrev pub header_size : Container → ℕ
header_size container = 28 + format_size container

-- all behind the first eight bytes: the rest of the header, the sample bytes and the pad byte
abbrev pub riff_bytes : Container → ℕ → ℕ → Option ℕ → ℕ
riff_bytes container width channels None = 2 ^ 32 - 1
riff_bytes container width channels (Some frames) = 20 + format_size container + padded
    (data_bytes width channels (Some frames))

-- of samples of a format
abbrev pub riff_size : Container → Fmt → ℕ → Option ℕ → ℕ
riff_size container format channels frames = riff_bytes container (word_bytes format) channels frames

-- the sizes of a known length stand in 32 bits, below the number that stands for none
abbrev pub WidthFits : Container → ℕ → ℕ → Option ℕ → Type 0
WidthFits container width channels frames = IfSome frames
    (λ n. riff_bytes container width channels (Some n) ≤ MAX_RIFF_SIZE)

-- of samples of a format
abbrev pub HeaderFits : Container → Fmt → ℕ → Option ℕ → Type 0
HeaderFits container format channels frames = WidthFits container (word_bytes format) channels frames

-- 1, with the extension 0xFFFE
abbrev pub format_tag : Container → ℕ
format_tag Wavex = extensible_tag
format_tag _ = 1

-- the extension: its size, the valid bits, no mask of channels, and linear PCM
abbrev pub extension : Container → ℕ → List ℕ
extension Wavex bits = to_le_bytes w16 22 ++ to_le_bytes w16 bits ++ to_le_bytes w32 0 ++ pcm_subformat
extension _ bits = []

-- the bytes before the samples of a file whose samples have so many bytes each; the byte rate is rate * align modulo
-- 2^32
abbrev pub header_of_width : Container → ℕ → ℕ → ℕ → Option ℕ → List ℕ
header_of_width container width channels rate frames =
    let align = channels * width in
    let bits = 8 * width in
    codes "RIFF" ++ to_le_bytes w32 (riff_bytes container width channels frames) ++ codes "WAVE"
    ++ codes "fmt " ++ to_le_bytes w32 (format_size container) ++ to_le_bytes w16 (format_tag container) ++
    to_le_bytes w16 channels
    ++ to_le_bytes w32 rate ++ to_le_bytes w32 (rate * align % 2 ^ 32) ++ to_le_bytes w16 align ++ to_le_bytes w16 bits
    ++ extension container bits ++ codes "data" ++ to_le_bytes w32 (data_bytes width channels frames)

-- of samples of a format
abbrev pub wave_header : Container → Fmt → ℕ → ℕ → Option ℕ → List ℕ
wave_header container format channels rate frames = header_of_width container (word_bytes format) channels rate frames

-- what that header says
abbrev pub written_header : Container → Fmt → ℕ → ℕ → Option ℕ → Header
written_header container format channels rate frames = record {
  rate = rate;
  start = header_size container;
  size = option_map (λ n. data_size format channels (Some n)) frames;
  coding = coding_of Wave format;
}

-- the byte 0 behind samples of an odd number of bytes, where their number is known
abbrev pub pad_of_width : ℕ → ℕ → Option ℕ → List ℕ
pad_of_width width channels None = []
pad_of_width width channels (Some frames) = if nat_eq (data_bytes width channels (Some frames) % 2) 0 then [] else
    (0 ∷ [])

-- of samples of a format
abbrev pub pad : Fmt → ℕ → Option ℕ → List ℕ
pad format channels frames = pad_of_width (word_bytes format) channels frames
