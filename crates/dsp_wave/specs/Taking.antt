-- What is taken of a source for a piece of a header.
use Rattle.std.specs.Prelude.{◌≡◌, ℕ, ◌+◌, ◌-◌, ◌<◌, ◌≤◌, List, [], ◌++◌, length, take, codes, true, Some, None}
use Rattle.std.specs.Str.{bytes_eq}
use Rattle.std.specs.Io.KnownBytes.{IsAtEnd}
use Rattle.dsp_ports.specs.Ports.{SourceState, one_more, Gave}
use Rattle.dsp_defs.specs.Open.{wanted_in}
use Rattle.dsp_defs.specs.Wave.{Chunk, chunks_behind, extensible_tag, format_fault, header_of, padded, sampling}
use Rattle.dsp_defs.specs.Wave.{u16_at, u32_at}
use Rattle.dsp_defs.specs.declared.limits.TheConstants.{MAX_INPUT}
use Rattle.dsp_defs.specs.declared.wave.Sampling.{Sampling}
use Rattle.dsp_defs.specs.declared.wave.Wanted.{Wanted}
use Rattle.dsp_defs.specs.declared.wave.HeaderFault.TheVariants.{NoSamples}
use Rattle.dsp_wave.specs.declared.reader.HeaderOr.{HeaderOr}
use Rattle.dsp_wave.specs.declared.reader.HeaderOr.TheVariants.{Fault, Read, Long}
use Rattle.dsp_wave.specs.declared.reader.FormatHead.{FormatHead}
use Rattle.dsp_wave.specs.declared.reader.Next.{Next}
use Rattle.dsp_wave.specs.declared.reader.Next.TheVariants.{Samples, Other}
use Rattle.dsp_wave.specs.Reading.{Headed, Says, said_from}

-- so many bytes came
pub record Came (place count : ℕ) (old now : SourceState) (bytes : List ℕ) : Type 0 where
  pub long : length bytes ≡ count
  pub gave : Gave old now bytes
  pub in_limit : place + count ≤ MAX_INPUT
  pub no_fault : now.faults ≡ old.faults
  pub going : now.ended ≡ old.ended

-- why fewer came: the file has ended, the source has failed, or all was taken that may be
abbrev pub IsMissed : HeaderOr → ℕ → SourceState → SourceState → List ℕ → Type 0
IsMissed (Fault fault offset) place old now bytes = (fault ≡ NoSamples) × (offset ≡ place + length bytes) ×
    IsAtEnd now.left × (now.faults ≡ old.faults)
IsMissed Read place old now bytes = (now.faults ≡ one_more old.faults) × (place + length bytes < MAX_INPUT)
IsMissed Long place old now bytes = (place + length bytes ≡ MAX_INPUT) × (now.faults ≡ old.faults)

pub record Missing (place count : ℕ) (old now : SourceState) (error : HeaderOr) : Type 0 where
  pub bytes : List ℕ
  pub short : length bytes < count
  pub gave : Gave old now bytes
  pub in_limit : place + length bytes ≤ MAX_INPUT
  pub missed : IsMissed error place old now bytes

-- ---- the first `fmt ` chunk

-- the id and the size of a `fmt ` chunk
pub record IsFormatHead (head : List ℕ) : Type 0 where
  pub long : length head ≡ 8
  pub id : bytes_eq (take 4 head) (codes "fmt ") ≡ true

-- a `fmt ` chunk at an offset, of which these bytes are there
abbrev pub format_chunk : ℕ → ℕ → List ℕ → Chunk
format_chunk offset size body = record { offset = offset; id = []; size = size; body = body }

-- as much of such a chunk as is judged: 16 bytes, and with an extension 40
pub record IsEnough (size : ℕ) (body : List ℕ) : Type 0 where
  pub plain : 16 ≤ length body
  pub within : length body ≤ size
  pub extended : u16_at body 0 ≡ extensible_tag → 40 ≤ size → 40 ≤ length body

-- what the bytes behind the id and the size of the first `fmt ` chunk say
abbrev pub said_behind : Wanted → ℕ → List ℕ → Says
said_behind wanted place head bytes = said_from wanted place None (head ++ bytes)

-- of all bytes this is what they say behind them, for something that is wanted, which may depend on the bytes
abbrev pub IsSaidBehind : ℕ → List ℕ → Says → Type 0
IsSaidBehind place head says = (bytes : List ℕ) → (wanted : Wanted) × (says bytes ≡ said_behind wanted place head bytes)

-- the rest of the chunk came, and says this of the samples
pub record FormatRead (wanted : Wanted) (place : ℕ) (head : List ℕ) (old now : SourceState) (known : Sampling) : Type
    0 where
  pub body : List ℕ
  pub came : Came (place + 8) (padded (u32_at head 4)) old now body
  pub said : (more : List ℕ) → said_behind wanted place head (body ++ more) ≡ said_from wanted
      (place + 8 + padded (u32_at head 4)) (Some known) more

-- the chunk is good by what was taken of it, and its rest came
pub record FormatRest (wanted : Wanted) (place : ℕ) (head body : List ℕ) (old now : SourceState) (known : Sampling) :
    Type 0 where
  pub rest : List ℕ
  pub came : Came (place + 8 + length body) (padded (u32_at head 4) - length body) old now rest
  pub good : format_fault wanted 0 (format_chunk place (u32_at head 4) body) ≡ None
  pub known_is : known ≡ sampling wanted (format_chunk place (u32_at head 4) body)

-- ---- chunk after chunk

-- the first 12 bytes came, and the file's chunks begin behind them
pub record RiffRead (old now : SourceState) : Type 0 where
  pub bytes : List ℕ
  pub came : Came 0 12 old now bytes
  pub said : (wanted : Wanted) (more : List ℕ) → header_of (bytes ++ more) wanted ≡ said_from wanted 12 None more

-- the chunks behind the first twelve bytes came, up to the id and the size of the first `fmt ` chunk
pub record FormatFound (old now : SourceState) (first : FormatHead) : Type 0 where
  pub bytes : List ℕ
  pub came : Came 12 (length bytes) old now bytes
  pub here : first.offset + 8 ≡ 12 + length bytes
  pub head : IsFormatHead first.head
  pub said : (wanted : Wanted) (more : List ℕ) → said_from wanted 12 None (bytes ++ more) ≡ said_behind wanted
      first.offset first.head more
  pub wants : (more : List ℕ) → wanted_in (chunks_behind 0 12 (bytes ++ more)) ≡ wanted_in
      (chunks_behind 0 first.offset (first.head ++ more))

-- the chunk behind the format that came, up to the samples or to the chunk behind it; what is wanted of the format
-- changes nothing there
abbrev pub Chunked : ℕ → Sampling → SourceState → SourceState → Next → Type 0
Chunked place known old now (Samples header) = (wanted : Wanted) →
    Headed (said_from wanted place (Some known)) place old now header
Chunked place known old now (Other taken) =
    (bytes : List ℕ) × Came place (length bytes) old now bytes × (taken ≡ place + length bytes) × (8 ≤ length bytes)
    × ((wanted : Wanted) (more : List ℕ) → said_from wanted place (Some known) (bytes ++ more) ≡ said_from wanted
    taken (Some known) more)
