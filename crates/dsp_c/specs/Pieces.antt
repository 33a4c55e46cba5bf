-- The end of a signal: its tail and the rows of its measures, from a text and the numbers that were left.
use Rattle.std.specs.Prelude.{◌≡◌, ℕ, ◌<◌, ◌≤◌, min, ℤ, List, ◌++◌, length, map, take, Some, None}
use Rattle.dsp_defs.specs.Block.{Frame}
use Rattle.dsp_defs.specs.Output.{live_bytes, whole_bytes}
use Rattle.dsp_defs.specs.Shape.{window_at}
use Rattle.dsp_defs.specs.declared.script.Script.{Script}
use Rattle.dsp_chain.specs.Line.{measure_counts}
use Rattle.dsp_session.specs.Session.{measures_of, tail_bytes}
use Rattle.dsp_host.specs.Opening.{FailsToOpen}
use Rattle.dsp_host.specs.Pieces.{IsUnfit, LeftBy, MayGoOn}
use Rattle.dsp_host.specs.declared.refusal.Refusal.{Refusal}
use Rattle.dsp_host.specs.declared.refusal.Refusal.TheVariants as refusal
use Rattle.dsp_c.specs.Measures.{row_of}
use Rattle.dsp_c.specs.declared.measures.MeasureRow.{MeasureRow}

-- for each signal of so many frames that left the numbers: the bytes are what the whole output has behind the live
-- one, and the rows are the
-- first of its measures, as many as there is room for
pub record EndsWith (text : List ℕ) (block frames : ℕ) (numbers : List ℤ) (room rows_room : ℕ) (given : List ℕ)
    (rows : List MeasureRow) : Type 0 where
  pub script : Script
  pub may : MayGoOn text block frames numbers script
  pub no_window : window_at script.blocks frames ≡ None
  pub long : length given ≡ tail_bytes script frames
  pub enough : tail_bytes script frames ≤ room
  pub tail : (x : List Frame) → length x ≡ frames → LeftBy script x numbers →
      whole_bytes script x ≡ live_bytes script x ++ given
  pub count : length rows ≡ min (measure_counts script.input.channels script.blocks) rows_room
  pub measures : (x : List Frame) → length x ≡ frames → LeftBy script x numbers →
      rows ≡ map row_of (take (length rows) (measures_of script x))

-- a window ends past its convolution, or there is less room than for the tail
abbrev pub RefusesEnd : Refusal → Script → ℕ → ℕ → Type 0
RefusesEnd (refusal.Window end full) script frames room = window_at script.blocks frames ≡ Some (end, full)
RefusesEnd (refusal.Room wanted) script frames room = (wanted ≡ tail_bytes script frames) ×
    (room < tail_bytes script frames)
RefusesEnd why script frames room = ⊥

pub record IsUnended (why : Refusal) (text : List ℕ) (block frames : ℕ) (numbers : List ℤ) (room : ℕ) : Type 0 where
  pub script : Script
  pub may : MayGoOn text block frames numbers script
  pub cause : RefusesEnd why script frames room

-- why a signal is not ended
abbrev pub FailsToEnd : Refusal → List ℕ → ℕ → ℕ → List ℤ → ℕ → Type 0
FailsToEnd (refusal.Open fault) text block frames numbers room = FailsToOpen fault text block
FailsToEnd refusal.State text block frames numbers room = IsUnfit text block frames numbers
FailsToEnd why text block frames numbers room = IsUnended why text block frames numbers room
