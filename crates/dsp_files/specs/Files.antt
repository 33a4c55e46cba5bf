-- What a contract sees of a file port: which file it is, and what was counted. What the file holds is not told.
use Rattle.std.specs.Prelude.{ℕ, Bool, false, List, None}
use Rattle.dsp_ports.specs.Ports.{SourceState, SinkState}

-- a file that is read: its name, the bytes that it has given, how often it has failed, whether a read has given
-- nothing or failed, and whether one has asked for nothing or came after such a read
pub record FileInput : Type 0 where
  pub path : List ℕ
  pub taken : ℕ
  pub faults : ℕ
  pub ended : Bool
  pub strayed : Bool

abbrev pub input_state : FileInput → SourceState
input_state file =
    record {
      left = None;
      taken = file.taken;
      faults = file.faults;
      ended = file.ended;
      strayed = file.strayed;
    }

-- a file that is written: its name, those of the script and of the input beside it, how often it has failed, and
-- whether an empty piece was written
pub record FileOutput : Type 0 where
  pub path : List ℕ
  pub script : List ℕ
  pub input : List ℕ
  pub faults : ℕ
  pub strayed : Bool

abbrev pub output_state : FileOutput → SinkState
output_state file =
    record { put = record { told = None; strayed = file.strayed }; settled = None; faults = file.faults }

-- a port that tells no bytes, and of which nothing was asked yet
abbrev pub new_sink : SinkState
new_sink = record { put = record { told = None; strayed = false }; settled = None; faults = 0 }
