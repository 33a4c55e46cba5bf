-- The begin of a stream: what is taken of the input before its first sample, and what is written before the first one.
use Rattle.std.specs.Prelude.{◌≡◌, ℕ}
use Rattle.dsp_ports.specs.Ports.{SourceState, SinkState, Took}
use Rattle.dsp_defs.specs.Output.{output_header, known_frames}
use Rattle.dsp_defs.specs.declared.limits.TheConstants.{MAX_RIFF_SIZE}
use Rattle.dsp_defs.specs.declared.script.Script.{Script}
use Rattle.dsp_defs.specs.declared.wave.Header.{Header}
use Rattle.dsp_input.specs.declared.fault.InputFault.{InputFault}
use Rattle.dsp_input.specs.declared.fault.InputFault.TheVariants as input_fault
pub use Rattle.dsp_input.specs.Taking.{IsTooLong}
use Rattle.dsp_input.specs.Taking.{Fits, Opened, Unopened}
use Rattle.dsp_session.specs.declared.fault.LengthFault.TheVariants as length_fault
use Rattle.dsp_session.specs.declared.fault.StreamFault.{StreamFault}
use Rattle.dsp_session.specs.declared.fault.StreamFault.TheVariants as fault

-- ---- the input's header

-- what a fault of the input is to a stream
abbrev pub of_input : InputFault → StreamFault
of_input (input_fault.Header said offset) = fault.Header said offset
of_input (input_fault.Limit taken limit) = fault.Lengths (length_fault.Input taken limit)
of_input input_fault.Failed = fault.Input

-- ---- the output's header

-- no header came, or it came and the output would be too long
pub data Untaken (script : Script) (stop : StreamFault) (input now : SourceState) : Type 0 where
  NoHeader : (error : InputFault) → stop ≡ of_input error → Unopened script error input now →
      Untaken script stop input now
  LongOutput : (header : Header) (size : ℕ) → Opened script header input now →
      stop ≡ fault.Lengths (length_fault.Riff size MAX_RIFF_SIZE)
      → IsTooLong script (known_frames script header) size → Untaken script stop input now

-- the input's header was taken, and the output's was written
pub record Begun (script : Script) (header : Header) (input now : SourceState) (sink after : SinkState) : Type 0 where
  pub opened : Opened script header input now
  pub took : Took sink after (output_header script header)
  pub no_fault : after.faults ≡ sink.faults
  pub fits : Fits script header
