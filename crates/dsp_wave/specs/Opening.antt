-- What the reader of a header of which nothing is wanted answers, and what it has taken of its source by then.
use Rattle.std.specs.Prelude.{◌≡◌, ℕ, ◌+◌, ◌≤◌, List, ◌++◌, length, Some, None, Ok}
use Rattle.dsp_ports.specs.Ports.{SourceState, Gave}
use Rattle.dsp_defs.specs.Wave.{Heads, chunks_behind, header_of, padded, u32_at}
use Rattle.dsp_defs.specs.Open.{closed, open_header_of, wanted_by, wanted_in}
use Rattle.dsp_defs.specs.Bytes.{format_in}
use Rattle.dsp_defs.specs.declared.limits.TheConstants.{MAX_INPUT}
use Rattle.dsp_defs.specs.declared.wave.Sampling.{Sampling}
use Rattle.dsp_defs.specs.declared.wave.Wanted.{Wanted}
use Rattle.dsp_defs.specs.declared.wave.OpenHeader.{OpenHeader}
use Rattle.dsp_wave.specs.Reading.{Says, said_from}
use Rattle.dsp_wave.specs.Taking.{Came}

-- what bytes say of a header of which they want what they say; it is `open_header_of` without the channels
abbrev pub own_header_of : Says
own_header_of bytes = header_of bytes (wanted_by bytes)

-- what the bytes from a place on say, where no `fmt ` chunk stands before it
abbrev pub own_said_from : ℕ → Says
own_said_from place bytes = said_from (wanted_in (chunks_behind 0 place bytes)) place None bytes

-- what the bytes behind the id and the size of the first `fmt ` chunk say
abbrev pub own_said_behind : ℕ → List ℕ → Says
own_said_behind place head bytes = own_said_from place (head ++ bytes)

-- the rest of the first `fmt ` chunk came: this is what it wants, and says of the samples
pub record OwnRead (place : ℕ) (head : List ℕ) (old now : SourceState) (wanted : Wanted) (known : Sampling) : Type 0
  where
    pub body : List ℕ
    pub came : Came (place + 8) (padded (u32_at head 4)) old now body
    pub said : (more : List ℕ) → own_said_behind place head (body ++ more) ≡ said_from wanted
        (place + 8 + padded (u32_at head 4)) (Some known) more
    pub wants : (more : List ℕ) → wanted_in (chunks_behind 0 place (head ++ (body ++ more))) ≡ wanted

-- the header came: exactly the bytes up to the first sample were taken, they say so whatever comes behind them, and
-- they head a
-- file that is wanted to have the format of its bits and its channels
pub record OpenHeaded (old now : SourceState) (header : OpenHeader) : Type 0 where
  pub bytes : List ℕ
  pub gave : Gave old now bytes
  pub in_limit : length bytes ≤ MAX_INPUT
  pub said : (more : List ℕ) → open_header_of (bytes ++ more) ≡ Ok header
  pub heads : (more : List ℕ) → Heads (bytes ++ more) (record
      { format = format_in header.coding; channels = header.channels }) (closed header)
  pub start : header.start ≡ length bytes
  pub no_fault : now.faults ≡ old.faults
  pub going : now.ended ≡ old.ended
