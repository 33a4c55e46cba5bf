-- Why a block of samples did not come, as a conversion names it.
use Rattle.std.proofs.Common.{◌≡◌, ℕ, ◌-◌, ◌^◌, refl, subst, List}
use Rattle.dsp_defs.specs.declared.au.Direction.{Direction}
use Rattle.dsp_defs.specs.declared.au.Direction.TheVariants.{WaveToAu, AuToWave}
use Rattle.dsp_defs.specs.declared.limits.TheConstants.{MAX_INPUT}
use Rattle.dsp_defs.specs.declared.wave.HeaderFault.TheVariants as wave_fault
use Rattle.dsp_defs.specs.declared.au.AuFault.TheVariants as au_fault
use Rattle.dsp_defs.specs.declared.wave.OpenHeader.{OpenHeader}
use Rattle.dsp_defs.specs.Au.{open_frame_bytes}
use Rattle.dsp_ports.specs.Ports.{SourceState}
use Rattle.dsp_wave.specs.Samples as samples
use Rattle.dsp_wave.specs.declared.samples.Stored.{Stored}
use Rattle.dsp_wave.specs.declared.samples.SampleFault.{SampleFault}
use Rattle.dsp_wave.specs.declared.samples.SampleFault.TheVariants as cause
use Rattle.dsp_wave.proofs.SampleReads.{other_cause, whole_read}
use Rattle.dsp_au.specs.declared.fault.ConvertFault.{ConvertFault}
use Rattle.dsp_au.specs.declared.fault.ConvertFault.TheVariants as fault
use Rattle.dsp_au.specs.Convert.{BlockRead, IsShort, IsUnread, Unread, stored}

-- the fault that a cause is
abbrev named : Direction → SampleFault → ConvertFault
named direction cause.Failed = fault.Read
named direction cause.LimitReached = fault.Input MAX_INPUT MAX_INPUT
named WaveToAu (cause.Short declared got offset) = fault.Wave (wave_fault.Short declared got) offset
named AuToWave (cause.Short declared got offset) = fault.Au (au_fault.Short declared got) offset

pub short_is : (direction : Direction) (error : ConvertFault) (declared got offset : ℕ) →
    IsShort direction error declared got offset
    → error ≡ named direction (cause.Short declared got offset)
short_is WaveToAu error declared got offset is = is
short_is AuToWave error declared got offset is = is

module _ (direction : Direction) (header : OpenHeader) (input now : SourceState) where
  names : (found : SampleFault) (n : ℕ) → samples.IsUnread found (stored header) n input now →
      IsUnread direction (named direction found) header n input now
  names cause.Failed n is = (is.0, is.1)
  names cause.LimitReached n is = (is.0, refl, refl, is.1, is.2)
  names (cause.Short declared got offset) n is = in_direction direction
    where
      in_direction : (d : Direction) → IsUnread d (named d (cause.Short declared got offset)) header n input now
      in_direction WaveToAu =
          (declared, is.0, (λ i. fault.Wave (wave_fault.Short declared (is.1 i)) (is.2 i)), is.3, is.4, is.5)
      in_direction AuToWave =
          (declared, is.0, (λ i. fault.Au (au_fault.Short declared (is.1 i)) (is.2 i)), is.3, is.4, is.5)

  module _ (frame taken : ℕ) (is : frame ≡ open_frame_bytes header) where
    pub block_unread : (size : ℕ) (found : SampleFault)
        → (let at : Stored = record { start = header.start; size = header.size; frame = frame } in
        samples.PartUnread at (2 ^ 64 - 1) taken size (λ n. samples.IsUnread found at n input now) input now)
        → Unread direction header taken size (named direction found) input now
    block_unread size found part =
        other_cause (stored header) taken size (λ n. samples.IsUnread found (stored header) n input now)
        (λ n. IsUnread direction (named direction found) header n input now) input now (names found)
        (subst (λ frame. (let at : Stored = record { start = header.start; size = header.size; frame = frame } in
        samples.Unread at taken size (λ n. samples.IsUnread found at n input now) input now)) is part.unread)

    pub block_read : (block : List ℕ) (count : ℕ)
        → (let at : Stored = record { start = header.start; size = header.size; frame = frame } in
        samples.PartRead at (2 ^ 64 - 1) taken block count input now)
        → BlockRead header taken block count input now
    block_read block count read = whole_read (stored header) taken block count input now (rw is at read)
