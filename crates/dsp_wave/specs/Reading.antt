-- What a header's reader answers, and what it has taken of its source by then.
use Rattle.std.specs.Prelude.{◌≡◌, ℕ, ◌+◌, ◌<◌, ◌≤◌, ◌⊎◌, IsErr, List, ◌++◌, length, Option, None, Result, Ok, Err}
use Rattle.std.specs.Io.KnownBytes.{IsAtEnd}
use Rattle.dsp_ports.specs.Ports.{SourceState, one_more, Gave}
use Rattle.dsp_defs.specs.Wave.{chunks_behind, header_in, header_of}
use Rattle.dsp_defs.specs.declared.limits.TheConstants.{MAX_INPUT}
use Rattle.dsp_defs.specs.declared.wave.Sampling.{Sampling}
use Rattle.dsp_defs.specs.declared.wave.Wanted.{Wanted}
use Rattle.dsp_defs.specs.declared.wave.Header.{Header}
use Rattle.dsp_defs.specs.declared.wave.HeaderFault.{HeaderFault}
use Rattle.dsp_defs.specs.declared.wave.HeaderFault.TheVariants.{NoSamples}
use Rattle.dsp_wave.specs.declared.reader.HeaderOr.{HeaderOr}
use Rattle.dsp_wave.specs.declared.reader.HeaderOr.TheVariants.{Fault, Read, Long}

-- what bytes say of a header: the header, or its fault with the offset
abbrev pub Says : Type 0
Says = List ℕ → Result Header (HeaderFault × ℕ)

-- what the bytes from a place on say, where the chunks before it have said this of the samples
abbrev pub said_from : Wanted → ℕ → Option Sampling → Says
said_from wanted place known bytes = header_in wanted (place + length bytes) known (chunks_behind 0 place bytes)

-- of all bytes this is what their header says, for something that is wanted, which may depend on the bytes
abbrev pub IsHeaderOf : Says → Type 0
IsHeaderOf says = (bytes : List ℕ) → (wanted : Wanted) × (says bytes ≡ header_of bytes wanted)

-- of all bytes this is what they say from a place on, where no `fmt ` chunk stands before it, for something that is
-- wanted, which
-- may depend on the bytes
abbrev pub IsSaidFrom : ℕ → Says → Type 0
IsSaidFrom place says = (bytes : List ℕ) → (wanted : Wanted) × (says bytes ≡ said_from wanted place None bytes)

-- the bytes say so whatever comes behind them, or they say so and are all there is
abbrev pub IsSure : Says → SourceState → List ℕ → Result Header (HeaderFault × ℕ) → Type 0
IsSure says now bytes answer = ((more : List ℕ) → says (bytes ++ more) ≡ answer) ⊎
    (IsAtEnd now.left × (says bytes ≡ answer))

-- the bytes are the begin of a header and have no fault but that they end; fewer than twelve have none for certain
abbrev pub IsCut : Says → ℕ → List ℕ → Type 0
IsCut says place bytes = (place + length bytes < 12) ⊎ (says bytes ≡ Err (NoSamples, place + length bytes))

-- the cause of an end without a header: a fault that the bytes have, a source that has failed behind bytes that head no
-- file, or 2^40 such bytes from the file's begin
abbrev pub HasCause : HeaderOr → Says → ℕ → SourceState → SourceState → List ℕ → Type 0
HasCause (Fault fault offset) says place old now bytes = IsSure says now bytes (Err (fault, offset)) ×
    (now.faults ≡ old.faults)
HasCause Read says place old now bytes = (now.faults ≡ one_more old.faults) × (place + length bytes < MAX_INPUT) ×
    IsErr (says bytes) × IsCut says place bytes
HasCause Long says place old now bytes = (place + length bytes ≡ MAX_INPUT) ×
    (says bytes ≡ Err (NoSamples, MAX_INPUT)) × (now.faults ≡ old.faults)

-- no header came: what was taken, and why
pub record Stopped (says : Says) (place : ℕ) (old now : SourceState) (error : HeaderOr) : Type 0 where
  pub bytes : List ℕ
  pub gave : Gave old now bytes
  pub in_limit : place + length bytes ≤ MAX_INPUT
  pub cause : HasCause error says place old now bytes

-- the header came: exactly the bytes up to the first sample were taken, and they say so whatever comes behind them
pub record Headed (says : Says) (place : ℕ) (old now : SourceState) (header : Header) : Type 0 where
  pub bytes : List ℕ
  pub gave : Gave old now bytes
  pub in_limit : place + length bytes ≤ MAX_INPUT
  pub said : (more : List ℕ) → says (bytes ++ more) ≡ Ok header
  pub start : header.start ≡ place + length bytes
  pub no_fault : now.faults ≡ old.faults
  pub going : now.ended ≡ old.ended
