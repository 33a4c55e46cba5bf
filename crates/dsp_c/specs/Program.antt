-- The program `dspfx` over bytes in memory.
use Rattle.std.specs.Prelude.{◌≡◌, ◌⊎◌, IsUtf8, ℕ, ◌==◌, false, List, [], ◌++◌, length, take, drop, Some}
use Rattle.std.specs.List.{slice_split}
use Rattle.dsp_ports.specs.Memory.{lent}
use Rattle.dsp_ports.specs.Ports.{SourceState, SinkState}
use Rattle.dsp_defs.specs.Counts.{Counts}
use Rattle.dsp_cli.specs.Call.{Ended, call}
use Rattle.dsp_c.specs.declared.program.Lengths.{Lengths}

-- the words of a text, apart by single spaces
abbrev pub words_in : List ℕ → List (List ℕ)
words_in text = slice_split (λ b. b == 32) text

-- the words of bytes that are a text; other bytes have none
abbrev pub AreWords : List ℕ → List (List ℕ) → Type 0
AreWords bytes words = (IsUtf8 bytes × (words ≡ words_in bytes)) ⊎ ((IsUtf8 bytes → ⊥) × (words ≡ []))

-- a port that has taken no bytes
abbrev pub empty : SinkState
empty = record { put = record { told = Some []; strayed = false }; settled = Some false; faults = 0 }

-- the bytes stand at the front of a buffer, as many as it has room for, and the rest of it is as it was
abbrev pub Holds : List ℕ → List ℕ → List ℕ → Type 0
Holds bytes old new = new ≡ take (length old) bytes ++ drop (length bytes) old

-- the top call of these words ended so over the script's bytes, the input's and the other file's; and what it wrote
-- stands in the buffers
pub record Played (words script input other output output_new report report_new : List ℕ) (status : ℕ)
    (lengths : Lengths) : Type 0 where
  pub asked : List (List ℕ)
  pub words_are : AreWords words asked
  pub read : SourceState
  pub later : SourceState
  pub after : SinkState
  pub seen : SourceState
  pub told : SinkState
  pub counts : Counts
  pub ended : Ended (call asked (lent script) read (lent input) later empty after (lent other) seen
      (record { multiplies = 0; turns = 0 }) counts) status empty told
  pub written : List ℕ
  pub written_is : after.put.told ≡ Some written
  pub held : Holds written output output_new
  pub output_length : lengths.output ≡ length written
  pub text : List ℕ
  pub text_is : told.put.told ≡ Some text
  pub text_held : Holds text report report_new
  pub report_length : lengths.report ≡ length text

-- memory was wanting before the call, and nothing was written
pub record NotPlayed (output output_new report report_new : List ℕ) (status : ℕ) (lengths : Lengths) : Type 0 where
  pub status_is : status ≡ 10
  pub output_same : output_new ≡ output
  pub report_same : report_new ≡ report
  pub lengths_are : lengths ≡ record { output = 0; report = 0 }
