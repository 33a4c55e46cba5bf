-- What the parts of a check do: the samples are read, their lengths are looked at, and the output is worked out.
use Rattle.std.specs.Prelude.{◌≡◌, ◌⊎◌, ℕ, ◌*◌, ◌<◌, List, ◌++◌, Some}
use Rattle.dsp_ports.specs.Ports.{SourceState}
use Rattle.dsp_defs.specs.Block.{Frame, whole_chain}
use Rattle.dsp_defs.specs.Bytes.{coded, samples}
use Rattle.dsp_defs.specs.Output.{output_coding, output_header, output_pad}
use Rattle.dsp_defs.specs.Shape.{window_at}
use Rattle.dsp_defs.specs.declared.limits.TheConstants.{MAX_CHECKED, MAX_RIFF_SIZE}
use Rattle.dsp_defs.specs.declared.script.Script.{Script}
use Rattle.dsp_defs.specs.declared.wave.Header.{Header}
use Rattle.dsp_input.specs.declared.fault.InputFault.{InputFault}
use Rattle.dsp_input.specs.Taking.{PartLost, TakenSoFar, frame_bytes}
use Rattle.dsp_check.specs.Check.{IsLong, IsPlaceFull, frames_past_limit, of_input}
use Rattle.dsp_check.specs.declared.fault.CheckFault.{CheckFault}
use Rattle.dsp_check.specs.declared.fault.CheckFault.TheVariants as fault

-- the bytes of the samples up to and with the first frame past the limit
abbrev pub bytes_past_limit : Script → Header → ℕ
bytes_past_limit script header = frames_past_limit script * frame_bytes script header.coding

-- the samples were not read to this end: the input gave no more, or memory was wanting for what it gave
pub data Unread (script : Script) (header : Header) (end : ℕ) (stop : CheckFault) (input now : SourceState) : Type 0
  where
    NoInput : (error : InputFault) → stop ≡ of_input error → PartLost script header end error input now →
        Unread script header end stop input now
    NoRoom : (bytes : List ℕ) → stop ≡ fault.Memory → TakenSoFar script header end bytes input now →
        Unread script header end stop input now

-- a length of so many frames is past its limit: none before it is
abbrev pub IsLengthFault : CheckFault → Script → Header → ℕ → Type 0
IsLengthFault (fault.Size size limit) script header frames =
    (limit ≡ MAX_CHECKED)
    × (((frames ≡ frames_past_limit script) × (size ≡ frames * script.input.channels))
    ⊎ ((frames < frames_past_limit script) × IsPlaceFull script header frames size))
IsLengthFault (fault.Window end full) script header frames = (frames < frames_past_limit script) ×
    (window_at script.blocks frames ≡ Some (end, full))
IsLengthFault (fault.Riff size limit) script header frames = (frames < frames_past_limit script) ×
    IsLong script header frames size × (limit ≡ MAX_RIFF_SIZE)
IsLengthFault error script header frames = ⊥

-- the output around what a script gives
abbrev pub output_around : Script → Header → List Frame → List ℕ
output_around script header given = output_header script header ++ coded (output_coding script) given ++ output_pad
    script header

-- the output for the samples that stand in these bytes
abbrev pub output_of : Script → Header → List ℕ → List ℕ
output_of script header bytes = output_around script header
    (whole_chain script.input.format script.input.channels script.blocks
    (samples header.coding script.input.channels bytes))
