-- Why a block of samples did not come, as the input of a script names it.
use Rattle.std.proofs.Common.{◌≡◌, ℕ, refl, ap}
use Rattle.dsp_defs.specs.declared.limits.TheConstants.{MAX_INPUT}
use Rattle.dsp_defs.specs.declared.script.Script.{Script}
use Rattle.dsp_defs.specs.declared.wave.Header.{Header}
use Rattle.dsp_defs.specs.declared.wave.HeaderFault.TheVariants.{Short}
use Rattle.dsp_ports.specs.Ports.{SourceState}
use Rattle.dsp_wave.specs.Samples as samples
use Rattle.dsp_wave.specs.declared.samples.Stored.{Stored}
use Rattle.dsp_wave.specs.declared.samples.SampleFault.{SampleFault}
use Rattle.dsp_wave.specs.declared.samples.SampleFault.TheVariants as cause
use Rattle.dsp_wave.proofs.SampleReads.{part_cause}
use Rattle.dsp_input.specs.declared.fault.InputFault.{InputFault}
use Rattle.dsp_input.specs.declared.fault.InputFault.TheVariants as fault
use Rattle.dsp_input.specs.Taking.{IsUnread, PartUnread, frame_bytes, stored}

-- the fault of the input that a cause is
abbrev named : SampleFault → InputFault
named cause.Failed = fault.Failed
named cause.LimitReached = fault.Limit MAX_INPUT MAX_INPUT
named (cause.Short declared got offset) = fault.Header (Short declared got) offset

module _ (script : Script) (header : Header) (input now : SourceState) where
  names : (found : SampleFault) (n : ℕ) → samples.IsUnread found (stored script header) n input now →
      IsUnread (named found) script header n input now
  names cause.Failed n is = is
  names cause.LimitReached n is = (is.0, refl, refl, is.1, is.2)
  names (cause.Short declared got offset) n is = (declared, is.0, ap (Short declared) is.1, is.2, is.3, is.4, is.5)

  pub part_unread : (at : Stored) (end taken size : ℕ) (found : SampleFault) → at ≡ stored script header
      → samples.PartUnread at end taken size (λ n. samples.IsUnread found at n input now) input now
      → PartUnread script header end taken size (named found) input now
  part_unread at end taken size found is unread =
      part_cause (stored script header) end taken size (λ n. samples.IsUnread found (stored script header) n input now)
      (λ n. IsUnread (named found) script header n input now) input now (names found) (rw is at unread)
