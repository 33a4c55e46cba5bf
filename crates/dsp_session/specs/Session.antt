-- What the calls of a session give, for every signal that it has taken.
use Rattle.std.specs.Prelude.{◌≡◌, ◌⊎◌, ℕ, ◌+◌, ◌-◌, ◌*◌, ◌<◌, ◌≤◌, Bool, true, false, List, [], ◌++◌, length, Some}
use Rattle.std.specs.Prelude.{None, is_some, IsTrue}
use Rattle.dsp_defs.specs.Block.{Frame, live_chain, whole_chain}
use Rattle.dsp_defs.specs.Bytes.{coding_of, coded, samples, width}
use Rattle.dsp_defs.specs.Cost.{cost, live_cost, chain_turns, turns_of_calls, turns}
use Rattle.dsp_defs.specs.Counts.{Counts}
use Rattle.dsp_defs.specs.Measure as measure
use Rattle.dsp_defs.specs.Grammar.{IsSound, container_of}
use Rattle.dsp_defs.specs.Output.{channels_of, output_coding}
use Rattle.dsp_unit.specs.Line as row
use Rattle.dsp_unit.specs.Line.{blocks_of, chain_products, place_room, line_turns}
use Rattle.dsp_defs.specs.Shape.{frames_behind, gathered, is_legal, live_frames, whole_frames}
use Rattle.dsp_defs.specs.declared.fault.GatherFull.{GatherFull}
use Rattle.dsp_defs.specs.declared.format.Coding.{Coding}
use Rattle.dsp_defs.specs.declared.limits.TheConstants.{MAX_GATHERED}
use Rattle.dsp_defs.specs.declared.measure.Measure.{Measure}
use Rattle.dsp_defs.specs.declared.script.Script.{Script}
use Rattle.dsp_chain.specs.Chain.{ChainStandsFor, ChainGave, IsLive, IsSpent, input_place, given_of, made_of, output_of}
pub use Rattle.dsp_input.specs.Taking.{frame_bytes}
use Rattle.dsp_session.specs.SessionState.{SessionState}

-- ---- bytes and signals

-- the coding of an input whose header says no other
abbrev pub input_coding : Script → Coding
input_coding script = coding_of (container_of script.input.kind) script.input.format

-- block * frame_bytes
abbrev pub block_bytes : Script → Coding → ℕ → ℕ
block_bytes script coding block = block * frame_bytes script coding

-- the signal of bytes that are samples in a coding and nothing else
abbrev pub signal : Script → Coding → List ℕ → List Frame
signal script coding bytes = samples coding script.input.channels bytes

-- the bytes of frames of the output
abbrev pub output_bytes : Script → List Frame → List ℕ
output_bytes script frames = coded (output_coding script) frames

-- what the blocks give of a signal that may go on, and of a whole one
abbrev pub live_values : Script → List Frame → List Frame
live_values script x = live_chain script.input.format script.input.channels script.blocks x

abbrev pub whole_values : Script → List Frame → List Frame
whole_values script x = whole_chain script.input.format script.input.channels script.blocks x

-- the multiplies for a whole signal of n frames, and for one that may go on
abbrev pub cost_of : Script → ℕ → ℕ
cost_of script n = cost script.input.format script.input.channels script.blocks n

-- and for one that may go on
abbrev pub live_cost_of : Script → ℕ → ℕ
live_cost_of script n = live_cost script.input.format script.input.channels script.blocks n

-- the multiplies that its blocks make for a whole signal of n frames: its cost, where no window ends past the full
-- convolution
abbrev pub products_of : Script → ℕ → ℕ
products_of script n = chain_products script.input.format script.input.channels script.blocks n

-- the turn bound of a call that leads its blocks from m input frames to n
abbrev pub turns_of : Bool → Script → ℕ → ℕ → ℕ
turns_of banked script m n = chain_turns banked script.input.format script.input.channels script.blocks m n

-- the turn bound of the first calls of a run of n frames in blocks of this length, and of the whole run
abbrev pub calls_turns : Bool → Script → ℕ → ℕ → ℕ → ℕ
calls_turns banked script block n calls = turns_of_calls banked script.input.format script.input.channels
    script.blocks block n calls

-- the turn bound of a whole run of n frames
abbrev pub run_turns : Bool → Script → ℕ → ℕ → ℕ
run_turns banked script block n = turns banked script.input.format script.input.channels script.blocks block n

-- the measures of a whole signal
abbrev pub measures_of : Script → List Frame → List Measure
measures_of script x = measure.measures script.input.format script.input.channels 1 script.blocks x

-- ---- sessions

-- a session of a sound script, in blocks of a legal length
pub record IsReady (script : Script) (block : ℕ) : Type 0 where
  pub sound : IsSound script
  pub legal : IsTrue (is_legal script.input.channels script.blocks block)

-- its chain is that of the script
pub record Holds (s : SessionState) : Type 0 where
  pub ready : IsReady s.script s.block
  pub input : s.chain.input ≡ input_place s.script s.block
  pub blocks : blocks_of s.chain.units ≡ s.script.blocks
  pub turns : (m n : ℕ) → line_turns s.chain.units m n ≡ turns_of s.banked s.script m n

-- it has taken the frames x, can take more, and nothing of its tail was given
pub record StandsFor (s : SessionState) (x : List Frame) : Type 0 where
  pub holds : Holds s
  pub chain : ChainStandsFor s.chain x
  pub live : IsLive s.chain

-- it has taken x in all, and has given ys of what the script gives of it as a whole signal
pub record HasGiven (s : SessionState) (x ys : List Frame) : Type 0 where
  pub holds : Holds s
  pub chain : ChainGave s.chain x ys

-- a session of the script, banked or not, that has taken nothing
pub record IsNew (banked : Bool) (script : Script) (block : ℕ) (s : SessionState) : Type 0 where
  pub script_is : s.script ≡ script
  pub banked_is : s.banked ≡ banked
  pub block_is : s.block ≡ block
  pub coding_is : s.coding ≡ input_coding script
  pub stands : StandsFor s []
  pub empty : s.out ≡ []

-- the same script in the same blocks
pub record SameScript (old new : SessionState) : Type 0 where
  pub script : new.script ≡ old.script
  pub banked : new.banked ≡ old.banked
  pub block : new.block ≡ old.block

-- and of an input in the same coding
pub record SameSession (old new : SessionState) : Type 0 where
  pub script : new.script ≡ old.script
  pub banked : new.banked ≡ old.banked
  pub block : new.block ≡ old.block
  pub coding : new.coding ≡ old.coding

-- the bytes of a frame of the output
abbrev pub given_bytes : Script → ℕ
given_bytes script = channels_of script * width (output_coding script)

-- the bytes of the tail of a signal of n frames
abbrev pub tail_bytes : Script → ℕ → ℕ
tail_bytes script n = (frames_behind whole_frames script.blocks n - frames_behind live_frames script.blocks n) *
    given_bytes script

-- the bytes that a call gives at most
abbrev pub call_room : SessionState → ℕ
call_room s = place_room (output_of s.chain) * width (output_coding s.script)

-- the measures of what its blocks have taken
abbrev pub measured : SessionState → List Measure
measured s = row.measured_by 1 s.chain.units

-- the call gave these frames, as bytes of the output
pub record GivesFrames (old new : SessionState) (given : List Frame) : Type 0 where
  pub out : new.out ≡ output_bytes old.script given
  pub long : length new.out ≡ length given * given_bytes old.script
  pub gives : given_of new.chain ≡ given_of old.chain + length given

-- fed with bytes, it has taken their frames too, and gave what they add to the live values, for the multiplies that
-- these have
pub record Feeds (old new : SessionState) (bytes : List ℕ) (before after : Counts) : Type 0 where
  pub holds : Holds new
  pub running : new.chain.ended ≡ false
  pub works : new.chain.failed ≡ None
  pub counted : new.chain.frames ≡ old.chain.frames + length (signal old.script old.coding bytes)
  pub given : List Frame
  pub frames : GivesFrames old new given
  pub values : (x : List Frame) → StandsFor old x → live_values old.script (x ++ signal old.script old.coding bytes) ≡
      live_values old.script x ++ given
  pub stands : (x : List Frame) → StandsFor old x → StandsFor new (x ++ signal old.script old.coding bytes)
  pub multiplies : made_of new.chain + before.multiplies ≡ made_of old.chain + after.multiplies
  pub turns : after.turns ≤ before.turns + turns_of old.banked old.script old.chain.frames new.chain.frames
  pub live : IsLive new.chain

-- it would have gathered too much, or a call before it would: nothing was given, and the session answers the same
-- fault from now on
pub record Fails (old new : SessionState) (fault : GatherFull) (before after : Counts) : Type 0 where
  pub same : new ≡ record old { chain = record old.chain { failed = Some fault }; out = [] }
  pub again : (earlier : GatherFull) → old.chain.failed ≡ Some earlier → fault ≡ earlier
  pub no_steps : after ≡ before

-- such a call
abbrev pub IsTooMuch : SessionState → ℕ → Type 0
IsTooMuch s more = (MAX_GATHERED < gathered s.script.blocks (s.chain.frames + more)) ⊎ IsTrue (is_some s.chain.failed)

-- each turn of a loop has made a product at least
abbrev pub TurnsByProducts : Counts → Counts → Type 0
TurnsByProducts before after = after.turns + before.multiplies ≤ before.turns + after.multiplies

-- it gave the next frames of the tail, for the multiplies that these have, and none only where the tail is spent or
-- the session has failed
pub record Ends (old new : SessionState) (answer : ℕ) (before after : Counts) : Type 0 where
  pub holds : Holds new
  pub ended : new.chain.ended ≡ true
  pub failed : new.chain.failed ≡ old.chain.failed
  pub counted : new.chain.frames ≡ old.chain.frames
  pub given : List Frame
  pub frames : GivesFrames old new given
  pub gave : (x ys : List Frame) → HasGiven old x ys → HasGiven new x (ys ++ given)
  pub multiplies : made_of new.chain + before.multiplies ≡ made_of old.chain + after.multiplies
  pub turns : TurnsByProducts before after
  pub few : given_of new.chain ≤ frames_behind whole_frames new.script.blocks new.chain.frames
  pub within : made_of new.chain ≤ products_of new.script new.chain.frames
  pub spent : answer ≡ 0 → old.chain.failed ≡ None → IsSpent new.chain
  pub refused : IsTrue (is_some old.chain.failed) → (answer ≡ 0) × (new.chain.units ≡ old.chain.units) ×
      (after ≡ before)
