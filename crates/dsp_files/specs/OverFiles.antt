-- The ports of a run over the files that its words name, and how it ended. What a file holds is not told.
use Rattle.std.specs.Prelude.{◌≡◌, ◌⊎◌, ℕ, false, List, [], Option, Some, None, get_or, unwrap_or}
use Rattle.dsp_ports.specs.Ports.{SinkState}
use Rattle.dsp_defs.specs.Counts.{Counts}
use Rattle.dsp_command.specs.Words.{places_of}
use Rattle.dsp_command.specs.declared.command.Places.{Places}
use Rattle.dsp_cli.specs.Call.{Ended, call}
use Rattle.dsp_files.specs.Files.{FileInput, FileOutput, input_state, output_state, new_sink}

-- ---- the ports

-- a port for each place that words may name, and one for the report
pub record PortStates : Type 0 where
  pub script : FileInput
  pub input : FileInput
  pub output : FileOutput
  pub other : FileInput
  pub report : SinkState

-- no word names a place
abbrev pub nowhere : Places
nowhere = record { script = None; input = None; output = None; other = None }

-- the word at a place, and no name where there is none
abbrev pub name_at : List (List ℕ) → Option ℕ → List ℕ
name_at words None = []
name_at words (Some place) = get_or words place []

-- a file of which nothing was asked yet
abbrev pub new_input : List ℕ → FileInput
new_input path = record { path = path; taken = 0; faults = 0; ended = false; strayed = false }

-- the ports of the files at these places, of which nothing was asked yet
abbrev pub ports_at : List (List ℕ) → Places → PortStates
ports_at words places = record {
  script = new_input (name_at words places.script);
  input = new_input (name_at words places.input);
  output = record {
    path = name_at words places.output;
    script = name_at words places.script;
    input =
        name_at words places.input;
    faults = 0;
    strayed = false;
  };
  other = new_input (name_at words places.other);
  report = new_sink;
}

-- the ports of the files that the words name, each at its place
abbrev pub new_ports : List (List ℕ) → PortStates
new_ports words = ports_at words (unwrap_or (places_of words) nowhere)

-- ---- a run over them

-- a counter of which nothing was asked yet
abbrev pub no_counts : Counts
no_counts = record { multiplies = 0; turns = 0 }

-- the stream was begun, and stopped before its end
abbrev pub IsStopped : ℕ → Type 0
IsStopped status = (status ≡ 4) ⊎ (status ≡ 5) ⊎ (status ≡ 7) ⊎ (status ≡ 8)

-- the status of a call that ended so; or 8, where it stopped and what it had accepted could not be written; or 9,
-- where it was done
-- and could not report it
abbrev pub Answers : ℕ → ℕ → Type 0
Answers ended status = (status ≡ ended) ⊎ ((status ≡ 8) × IsStopped ended) ⊎ ((status ≡ 9) × (ended ≡ 0))

-- the call of these words over these ports ended, with a new counter, and gave that status
pub record RanOver (words : List (List ℕ)) (old new : PortStates) (status : ℕ) : Type 0 where
  pub ended : ℕ
  pub counts : Counts
  pub told : SinkState
  pub run : Ended (call words (input_state old.script) (input_state new.script) (input_state old.input)
      (input_state new.input)
      (output_state old.output) (output_state new.output) (input_state old.other) (input_state new.other) no_counts
      counts) ended old.report told
  pub answers : Answers ended status
