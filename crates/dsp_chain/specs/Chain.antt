-- What a contract sees of a chain.
use Rattle.std.specs.Prelude.{◌≡◌, ℕ, ◌+◌, ◌≤◌, ◌<◌, ◌⊎◌, ℤ, Bool, true, false, List, [], ◌++◌, length, Option}
use Rattle.std.specs.Prelude.{Some, None, is_some, IsTrue}
use Rattle.dsp_defs.specs.Streaming.{Continues, Begins}
use Rattle.dsp_defs.specs.Block.{Frame, live_chain, whole_chain}
use Rattle.dsp_defs.specs.Counts.{Counts}
use Rattle.dsp_defs.specs.Cost.{live_cost, chain_turns}
use Rattle.dsp_defs.specs.Grammar.{IsChain, correlates}
use Rattle.dsp_defs.specs.Measure as measure
use Rattle.dsp_defs.specs.Shape.{whole_frames, live_frames, frames_behind, gathered}
use Rattle.dsp_unit.specs.Unit.{UnitState, frames_in}
use Rattle.dsp_unit.specs.Line.{chain_products, Place, place_behind, place_room, Passes, blocks_of, InLine, AllStand}
use Rattle.dsp_unit.specs.Line.{AllCount}
use Rattle.dsp_unit.specs.Line.{AllTaken, AllFew, AllTook, AllGave, line_given, line_made, line_turns, measured_by}
use Rattle.dsp_defs.specs.declared.fault.GatherFull.{GatherFull}
use Rattle.dsp_defs.specs.declared.limits.TheConstants.{MAX_BLOCKS, MAX_CORRELATES, MAX_GATHERED, MAX_INPUT}
use Rattle.dsp_chain.specs.Line.{FewChannels}
use Rattle.dsp_defs.specs.declared.measure.Measure.{Measure}
use Rattle.dsp_defs.specs.declared.script.Block.{Block}
use Rattle.dsp_defs.specs.declared.script.Script.{Script}

-- the place of its input, its units, the frames that were fed, whether its tail was begun, and the fault that it
-- answered
pub record ChainState : Type 0 where
  pub input : Place
  pub units : List UnitState
  pub frames : ℕ
  pub ended : Bool
  pub failed : Option GatherFull

abbrev pub output_of : ChainState → Place
output_of c = place_behind c.input (blocks_of c.units)

-- ---- what it has given and made

-- the frames that it has given, and the multiplies that it has made for them
abbrev pub given_of : ChainState → ℕ
given_of c = line_given c.units c.frames

abbrev pub made_of : ChainState → ℕ
made_of c = line_made c.units c.frames

-- what it gives of a signal while that goes on, and of a whole one
abbrev pub live_of : ChainState → List Frame → List Frame
live_of c = live_chain c.input.format c.input.channels (blocks_of c.units)

abbrev pub whole_of : ChainState → List Frame → List Frame
whole_of c = whole_chain c.input.format c.input.channels (blocks_of c.units)

-- the measures of a whole signal
abbrev pub measures_of : ChainState → List Frame → List Measure
measures_of c = measure.measures c.input.format c.input.channels 1 (blocks_of c.units)

-- the chain was fed with x, can take more, and nothing of its tail was given
pub record ChainStandsFor (c : ChainState) (x : List Frame) : Type 0 where
  pub running : c.ended ≡ false
  pub works : c.failed ≡ None
  pub counted : c.frames ≡ length x
  pub units : AllStand c.input.format c.input.channels c.units x

-- the chain was fed with x in all, and has given ys of what it gives of it as a whole signal
pub record ChainGave (c : ChainState) (x ys : List Frame) : Type 0 where
  pub works : c.failed ≡ None
  pub counted : c.frames ≡ length x
  pub units : AllGave c.input c.units x ys
  pub front : Begins ys (whole_of c x)

-- nothing of its tail was given: it has given what is live, for the live cost
pub record IsLive (c : ChainState) : Type 0 where
  pub given : given_of c ≡ frames_behind live_frames (blocks_of c.units) c.frames
  pub made : made_of c ≡ live_cost c.input.format c.input.channels (blocks_of c.units) c.frames
  pub gave : (x : List Frame) → ChainStandsFor c x → ChainGave c x (live_of c x)

-- its tail is spent: it has given the whole signal, for the cost of that, and has the measures of it
pub record IsSpent (c : ChainState) : Type 0 where
  pub given : given_of c ≡ frames_behind whole_frames (blocks_of c.units) c.frames
  pub made : made_of c ≡ chain_products c.input.format c.input.channels (blocks_of c.units) c.frames
  pub gave : (x ys : List Frame) → ChainGave c x ys → ys ≡ whole_of c x
  pub measured : (x ys : List Frame) → ChainGave c x ys → measured_by 1 c.units ≡ measures_of c x

-- ---- calls

-- the chain has the same input, the same blocks and the same bound on its turns
pub record SameChain (old new : ChainState) : Type 0 where
  pub input : new.input ≡ old.input
  pub blocks : blocks_of new.units ≡ blocks_of old.units
  pub turns : (m n : ℕ) → line_turns new.units m n ≡ line_turns old.units m n

-- the call took frames and gave the next live ones
pub record FeedsChain (old new : ChainState) (frames given : List ℤ) (before after : Counts) : Type 0 where
  pub same : SameChain old new
  pub running : new.ended ≡ false
  pub works : new.failed ≡ None
  pub counted : new.frames ≡ old.frames + length (frames_in old.input.channels frames)
  pub passes : Passes (output_of old) given
  pub values : (x : List Frame) → ChainStandsFor old x →
      Continues (live_of old) x (frames_in old.input.channels frames) (frames_in (output_of old).channels given)
  pub stands : (x : List Frame) → ChainStandsFor old x → ChainStandsFor new (x ++ frames_in old.input.channels frames)
  pub gives : given_of new ≡ given_of old + length (frames_in (output_of old).channels given)
  pub multiplies : made_of new + before.multiplies ≡ made_of old + after.multiplies
  pub turns : after.turns ≤ before.turns + line_turns old.units old.frames new.frames
  pub live : IsLive new

-- the call would have gathered too much, or one before it would: nothing changed, but that the chain answers the same
-- fault from now on
pub record FailsChain (old new : ChainState) (fault : GatherFull) (before after : Counts) : Type 0 where
  pub same : new ≡ record old { failed = Some fault }
  pub again : (earlier : GatherFull) → old.failed ≡ Some earlier → fault ≡ earlier
  pub no_steps : after ≡ before

-- such a call
abbrev pub IsTooMuch : ChainState → ℕ → Type 0
IsTooMuch c more = (MAX_GATHERED < gathered (blocks_of c.units) (c.frames + more)) ⊎ IsTrue (is_some c.failed)

-- the call gave the next frames of the tail, and none only where it is spent or the chain has failed; a turn of a
-- loop makes a product at least
pub record FinishesChain (old new : ChainState) (given : List ℤ) (before after : Counts) : Type 0 where
  pub same : SameChain old new
  pub ended : new.ended ≡ true
  pub failed : new.failed ≡ old.failed
  pub counted : new.frames ≡ old.frames
  pub passes : Passes (output_of old) given
  pub gave : (x ys : List Frame) → ChainGave old x ys → ChainGave new x (ys ++ frames_in (output_of old).channels given)
  pub gives : given_of new ≡ given_of old + length (frames_in (output_of old).channels given)
  pub few : given_of new ≤ frames_behind whole_frames (blocks_of new.units) new.frames
  pub multiplies : made_of new + before.multiplies ≡ made_of old + after.multiplies
  pub turns : after.turns + before.multiplies ≤ before.turns + after.multiplies
  pub within : made_of new ≤ chain_products new.input.format new.input.channels (blocks_of new.units) new.frames
  pub spent : given ≡ [] → old.failed ≡ None → IsSpent new
  pub refused : IsTrue (is_some old.failed) → (given ≡ []) × (new.units ≡ old.units) × (after ≡ before)

-- the first place of a script, for so many frames a call
abbrev pub input_place : Script → ℕ → Place
input_place script block = record { format = script.input.format; channels = script.input.channels; capacity = block }

-- a chain of these blocks, banked or not, that has taken nothing
pub record IsNewChain (banked : Bool) (p : Place) (blocks : List Block) (c : ChainState) : Type 0 where
  pub input : c.input ≡ p
  pub blocks_are : blocks_of c.units ≡ blocks
  pub stands : ChainStandsFor c []
  pub live : IsLive c
  pub turns : (m n : ℕ) → line_turns c.units m n ≡ chain_turns banked p.format p.channels blocks m n

-- ---- what holds of each chain

-- its units are in their places where its frames lead them, they could take these, and each place has few frames of
-- any input that it may have
pub record IsWhole (c : ChainState) : Type 0 where
  pub line : InLine c.input c.units
  pub took : AllTook c.units c.frames
  pub counts : c.ended ≡ false → AllCount c.units c.frames
  pub taken : AllTaken (blocks_of c.units) c.frames
  pub chain : IsChain (record { format = c.input.format; channels = c.input.channels }) (blocks_of c.units)
  pub channels : 1 ≤ c.input.channels
  pub few_channels : FewChannels c.input.channels (blocks_of c.units)
  pub few_blocks : length (blocks_of c.units) ≤ MAX_BLOCKS
  pub one_correlate : correlates (blocks_of c.units) ≤ MAX_CORRELATES
  pub few_frames : (n : ℕ) → n ≤ MAX_INPUT → AllFew (blocks_of c.units) n

-- so is each chain, and it has so much room for its output
pub record HasRoom (room : ℕ) (c : ChainState) : Type 0 where
  pub is : IsWhole c
  pub room_is : room ≡ place_room (output_of c)
