-- How the bytes that a check took of its input, and those of the file beside it, stand to each other at each of its
-- ends.
use Rattle.std.specs.Prelude.{◌≡◌, ◌⊎◌, ℕ, ◌+◌, ◌*◌, ◌/◌, ◌<◌, ◌≤◌, List, length, Some, None}
use Rattle.dsp_ports.specs.Ports.{SourceState, one_more, Gave}
use Rattle.dsp_defs.specs.Cost.{cost}
use Rattle.dsp_defs.specs.Counts.{Counts}
use Rattle.dsp_defs.specs.Output.{HasHeader, input_header, known_frames, output}
use Rattle.dsp_defs.specs.Shape.{window_at}
use Rattle.dsp_defs.specs.Sizes.{IsSmall, size_at}
use Rattle.dsp_defs.specs.declared.limits.TheConstants.{MAX_CHECKED, MAX_INPUT, MAX_RIFF_SIZE}
use Rattle.dsp_defs.specs.declared.script.Script.{Script}
use Rattle.dsp_defs.specs.declared.wave.Header.{Header}
use Rattle.dsp_input.specs.Taking.{AwaitsDeclared, Fits, HasFault, InLimit, IsInDeclared, IsTakenWhole, IsTooLong}
use Rattle.dsp_input.specs.Taking.{WantsMore, frame_bytes, frames_in_bytes, input_fault}
use Rattle.dsp_input.specs.declared.fault.InputFault.{InputFault}
use Rattle.dsp_input.specs.declared.fault.InputFault.TheVariants as input_fault
use Rattle.dsp_check.specs.Comparing.{HasAll, Mismatches}
use Rattle.dsp_check.specs.declared.comparing.Mismatch.{Mismatch}
use Rattle.dsp_check.specs.declared.comparing.Mismatch.TheVariants as mismatch
use Rattle.dsp_check.specs.declared.fault.CheckFault.{CheckFault}
use Rattle.dsp_check.specs.declared.fault.CheckFault.TheVariants as fault

-- what a fault of the input is to a check
abbrev pub of_input : InputFault → CheckFault
of_input (input_fault.Header said offset) = fault.Header said offset
of_input (input_fault.Limit taken limit) = fault.Input taken limit
of_input input_fault.Failed = fault.Read

-- and what it is that the file has other bytes
abbrev pub of_mismatch : Mismatch → CheckFault
of_mismatch (mismatch.Differs offset) = fault.Differs offset
of_mismatch mismatch.Failed = fault.Other

-- ---- limits

-- a script may be checked over so many frames: no window ends past its convolution, the output fits its header, and
-- at no place
-- there are too many samples
pub record KeepsLimits (script : Script) (header : Header) (frames : ℕ) : Type 0 where
  pub no_window : window_at script.blocks frames ≡ None
  pub fits : Fits script header
  pub few : size_at script.input.channels script.blocks frames ≡ None

-- the frames of an input up to and with the first one past the limit
abbrev pub frames_past_limit : Script → ℕ
frames_past_limit script = MAX_CHECKED / script.input.channels + 1

-- the products are at most those of the script for so many frames
abbrev pub CostsFew : Script → ℕ → Counts → Counts → Type 0
CostsFew script frames before counts = counts.multiplies ≤ before.multiplies + cost script.input.format
    script.input.channels script.blocks frames

-- ---- the file is the output

-- the input was taken whole, and the file had exactly the output of the script, of so many bytes
pub record Done (script : Script) (size : ℕ) (input now other seen : SourceState) (before counts : Counts) : Type 0
  where
    pub given : List ℕ
    pub gave : Gave input now given
    pub in_limit : length given ≤ MAX_INPUT
    pub has : HasHeader script given
    pub whole : IsTakenWhole script given now
    pub limits : KeepsLimits script (input_header script given) (frames_in_bytes script given)
    pub all : HasAll (output script given) other seen
    pub size_is : size ≡ length (output script given)
    pub no_fault : now.faults ≡ input.faults
    pub cost : CostsFew script (frames_in_bytes script given) before counts

-- ---- it is not, or that is not known

-- just the frame was taken that is the first past the limit, and so many samples are those up to it
pub record IsPastLimit (script : Script) (given : List ℕ) (size : ℕ) : Type 0 where
  pub frames : frames_in_bytes script given ≡ frames_past_limit script
  pub alone : length given ≡ (input_header script given).start + frames_past_limit script * frame_bytes script
      (input_header script given).coding
  pub size_is : size ≡ frames_past_limit script * script.input.channels

-- so many samples are those of the first place that has too many, of so many frames of input
pub record IsPlaceFull (script : Script) (header : Header) (frames size : ℕ) : Type 0 where
  pub no_window : window_at script.blocks frames ≡ None
  pub fits : Fits script header
  pub full : size_at script.input.channels script.blocks frames ≡ Some size

-- the output would be too long for its header, of so many frames of input
pub record IsLong (script : Script) (header : Header) (frames size : ℕ) : Type 0 where
  pub no_window : window_at script.blocks frames ≡ None
  pub long : IsTooLong script (known_frames script header) size

-- why it stopped, from the bytes that were taken
abbrev pub IsCause : CheckFault → Script → List ℕ → SourceState → Type 0
IsCause (fault.Header said offset) script given now = HasFault script given now (said, offset)
IsCause (fault.Input taken limit) script given now = (length given ≡ MAX_INPUT) × (taken ≡ MAX_INPUT) ×
    (limit ≡ MAX_INPUT) × WantsMore script given
IsCause (fault.Window end full) script given now =
    HasHeader script given × IsTakenWhole script given now ×
    (window_at script.blocks (frames_in_bytes script given) ≡ Some (end, full))
IsCause (fault.Riff size limit) script given now =
    HasHeader script given × IsTakenWhole script given now ×
    IsLong script (input_header script given) (frames_in_bytes script given) size × (limit ≡ MAX_RIFF_SIZE)
IsCause (fault.Size size limit) script given now =
    HasHeader script given × (limit ≡ MAX_CHECKED)
    × (IsPastLimit script given size ⊎ (IsTakenWhole script given now ×
    IsPlaceFull script (input_header script given) (frames_in_bytes script given) size))
IsCause fault.Read script given now = (length given < MAX_INPUT) × AwaitsDeclared script given
IsCause fault.Memory script given now = HasHeader script given
IsCause fault script given now = HasHeader script given × IsTakenWhole script given now ×
    KeepsLimits script (input_header script given) (frames_in_bytes script given)

-- no more samples were taken than may be checked, but for the frame of a size, or where memory was wanting for it
abbrev pub TookFew : CheckFault → Script → List ℕ → Type 0
TookFew (fault.Size size limit) script given = Unit {0}
TookFew fault.Memory script given = Unit {0}
TookFew fault script given = IsSmall (frames_in_bytes script given * script.input.channels)

-- the file was read up to the byte that decides, or as far as it could be; else it was not called
abbrev pub HasCompared : CheckFault → List ℕ → SourceState → SourceState → Type 0
HasCompared (fault.Differs offset) wanted other seen = Mismatches (mismatch.Differs offset) wanted other seen
HasCompared fault.Other wanted other seen = Mismatches mismatch.Failed wanted other seen
HasCompared fault wanted other seen = seen ≡ other

-- the input has counted one fault where it failed, and else none
abbrev pub CountsFault : CheckFault → SourceState → SourceState → Type 0
CountsFault fault.Read input now = now.faults ≡ one_more input.faults
CountsFault fault input now = now.faults ≡ input.faults

-- `given` are all bytes that were taken of the input
pub record Stopped (script : Script) (fault : CheckFault) (input now other seen : SourceState)
    (before counts : Counts) : Type 0 where
  pub given : List ℕ
  pub gave : Gave input now given
  pub in_limit : length given ≤ MAX_INPUT
  pub in_declared : HasHeader script given → IsInDeclared script given
  pub cause : IsCause fault script given now
  pub few : TookFew fault script given
  pub compared : HasCompared fault (output script given) other seen
  pub faults : CountsFault fault input now
  pub cost : CostsFew script (frames_in_bytes script given) before counts

-- ---- what stands in the way

-- nothing stands in the way of a check over an input of these bytes
pub record IsFree (script : Script) (bytes : List ℕ) : Type 0 where
  pub no_fault : input_fault script bytes ≡ None
  pub in_limit : InLimit script bytes
  pub limits : KeepsLimits script (input_header script bytes) (frames_in_bytes script bytes)
