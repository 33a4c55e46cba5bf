-- What always holds of a worker: of what is seen of it, the coding of its output, the room of its rows, and the samples
-- given.
use Rattle.std.specs.Prelude.{◌≡◌, ℕ, ℤ, ◌≤◌, ◌*◌, All, Bool, true, false, List, length}
use Rattle.dsp_defs.specs.Bytes.{IsValue, format_in, width}
use Rattle.dsp_defs.specs.Output.{output_coding}
use Rattle.dsp_defs.specs.declared.format.Coding.{Coding}
use Rattle.dsp_unit.specs.Line.{place_room}
use Rattle.dsp_chain.specs.Chain.{output_of}
use Rattle.dsp_session.specs.Session.{Holds}
use Rattle.dsp_session.specs.SessionState.{SessionState}

-- the row that what a call gave stands in: that of the samples taken, or that of the samples written
abbrev pub row_of : Bool → List ℤ → List ℤ → List ℤ
row_of true taken written = taken
row_of false taken written = written

pub record IsWorking (s : SessionState) (coding : Coding) (samples_room values_room bytes_room count : ℕ)
    (given : List ℤ) : Type 0 where
  pub holds : Holds s
  -- the input has samples of the script's format, and the output the coding of its own
  pub input : format_in s.coding ≡ s.script.input.format
  pub output : coding ≡ output_coding s.script
  -- there is room for the samples of a block, and for what a call gives of it
  pub samples : samples_room ≡ s.block * s.script.input.channels
  pub values : values_room ≡ place_room (output_of s.chain)
  pub bytes : bytes_room ≡ place_room (output_of s.chain) * width coding
  -- what a call gave are samples that have bytes
  pub within : count ≤ values_room
  pub long : length given ≡ count
  pub given_fit : All (IsValue coding) given
