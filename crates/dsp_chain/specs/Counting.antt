-- The frames that a block gives of a signal.
use Rattle.std.specs.Prelude.{ℕ}
use Rattle.dsp_defs.specs.Shape.{whole_frames, live_frames}
use Rattle.dsp_defs.specs.declared.script.Block.{Block}
use Rattle.dsp_chain.specs.declared.signal.Signal.{Signal}
use Rattle.dsp_chain.specs.declared.signal.Signal.TheVariants.{Whole, Live}

abbrev pub frames_of : Signal → Block → ℕ → ℕ
frames_of Whole = whole_frames
frames_of Live = live_frames
