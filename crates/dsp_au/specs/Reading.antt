-- What the reader of an AU header answers, and what it has taken of its source by then.
use Rattle.std.specs.Prelude.{◌≡◌, ℕ, ◌+◌, ◌<◌, ◌≤◌, ◌⊎◌, IsErr, List, ◌++◌, length, Ok, Err}
use Rattle.std.specs.Io.KnownBytes.{IsAtEnd}
use Rattle.dsp_ports.specs.Ports.{SourceState, one_more, Gave}
use Rattle.dsp_defs.specs.Au.{au_header_of}
use Rattle.dsp_defs.specs.Open.{IsOpenGood}
use Rattle.dsp_defs.specs.declared.au.AuFault.{AuFault}
use Rattle.dsp_defs.specs.declared.au.AuFault.TheVariants.{Ended}
use Rattle.dsp_defs.specs.declared.limits.TheConstants.{MAX_INPUT}
use Rattle.dsp_defs.specs.declared.wave.OpenHeader.{OpenHeader}
use Rattle.dsp_au.specs.declared.fault.AuOr.{AuOr}
use Rattle.dsp_au.specs.declared.fault.AuOr.TheVariants.{Fault, Read, Long}

-- the bytes have this fault whatever comes behind them, or they have it and are all there is
abbrev pub IsAuSure : SourceState → List ℕ → AuFault × ℕ → Type 0
IsAuSure now bytes fault = ((more : List ℕ) → au_header_of (bytes ++ more) ≡ Err fault) ⊎
    (IsAtEnd now.left × (au_header_of bytes ≡ Err fault))

-- the cause of an end without a header: a fault that the bytes have, or a source that has failed behind bytes that
-- head no file.
-- No header is so long that too many bytes were taken
abbrev pub HasAuCause : AuOr → SourceState → SourceState → List ℕ → Type 0
HasAuCause (Fault fault offset) old now bytes = IsAuSure now bytes (fault, offset) × (now.faults ≡ old.faults)
HasAuCause Read old now bytes = (now.faults ≡ one_more old.faults) × (length bytes < MAX_INPUT) ×
    IsErr (au_header_of bytes)
HasAuCause Long old now bytes = ⊥

-- no header came: what was taken, and why
pub record AuStopped (old now : SourceState) (error : AuOr) : Type 0 where
  pub bytes : List ℕ
  pub gave : Gave old now bytes
  pub in_limit : length bytes ≤ MAX_INPUT
  pub cause : HasAuCause error old now bytes

-- the header came: exactly the bytes up to the first sample were taken, and they say so whatever comes behind them
pub record AuHeaded (old now : SourceState) (header : OpenHeader) : Type 0 where
  pub bytes : List ℕ
  pub gave : Gave old now bytes
  pub in_limit : length bytes ≤ MAX_INPUT
  pub said : (more : List ℕ) → au_header_of (bytes ++ more) ≡ Ok header
  pub start : header.start ≡ length bytes
  pub good : IsOpenGood header
  pub no_fault : now.faults ≡ old.faults
  pub going : now.ended ≡ old.ended

-- ---- what stands between the fields and the samples

-- so many bytes came
pub record AuCame (place count : ℕ) (old now : SourceState) (bytes : List ℕ) : Type 0 where
  pub long : length bytes ≡ count
  pub gave : Gave old now bytes
  pub no_fault : now.faults ≡ old.faults
  pub going : now.ended ≡ old.ended

-- why fewer came: the file has ended, or the source has failed
abbrev pub IsAuMissed : AuOr → ℕ → SourceState → SourceState → List ℕ → Type 0
IsAuMissed (Fault fault offset) place old now bytes = (fault ≡ Ended) × (offset ≡ place + length bytes) ×
    IsAtEnd now.left × (now.faults ≡ old.faults)
IsAuMissed Read place old now bytes = now.faults ≡ one_more old.faults
IsAuMissed Long place old now bytes = ⊥

pub record AuMissing (place count : ℕ) (old now : SourceState) (error : AuOr) : Type 0 where
  pub bytes : List ℕ
  pub short : length bytes < count
  pub gave : Gave old now bytes
  pub missed : IsAuMissed error place old now bytes
