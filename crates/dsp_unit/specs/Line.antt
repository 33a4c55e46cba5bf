-- Units in a line, each fed with what the one before it gives.
use Rattle.std.specs.Prelude.{◌≡◌, ℕ, ◌+◌, ◌*◌, ◌^◌, ◌<◌, ◌≤◌, ℤ, Bool, List, [], ◌∷◌, ◌++◌, map, length, false, ◌⊎◌}
use Rattle.dsp_defs.specs.Streaming.{Continues}
use Rattle.dsp_defs.specs.Block.{Frame, whole, live, live_chain, format_after, channels_after}
use Rattle.dsp_defs.specs.Shape.{whole_frames, live_frames, frames_behind}
use Rattle.dsp_defs.specs.Cost.{live_cost, unit_turns}
use Rattle.dsp_defs.specs.Kept.{IsTaken}
use Rattle.dsp_defs.specs.Measure.{block_measures}
use Rattle.dsp_defs.specs.Counts.{Counts}
use Rattle.dsp_unit.specs.Unit.{whole_products, UnitState, StandsFor, CountsFrames, TookFrames, given_so_far}
use Rattle.dsp_unit.specs.Unit.{made_so_far, turns_of, measures_of, most_frames, frames_in, IsSignal}
use Rattle.dsp_defs.specs.declared.format.Fmt.{Fmt}
use Rattle.dsp_defs.specs.declared.measure.Measure.{Measure}
use Rattle.dsp_defs.specs.declared.script.Block.{Block}

-- a place of a chain: the format, the channels, and the most frames that pass it in one call
pub record Place : Type 0 where
  pub format : Fmt
  pub channels : ℕ
  pub capacity : ℕ

abbrev pub place_after : Place → Block → Place
place_after p block = record {
  format = format_after p.format block;
  channels = channels_after p.channels block;
  capacity = most_frames block p.capacity;
}

abbrev pub place_behind : Place → List Block → Place
place_behind p [] = p
place_behind p (block ∷ blocks) = place_behind (place_after p block) blocks

-- the samples may pass the place in one call
pub record Passes (p : Place) (samples : List ℤ) : Type 0 where
  pub signal : IsSignal p.format p.channels samples
  pub at_most : length (frames_in p.channels samples) ≤ p.capacity

abbrev pub place_room : Place → ℕ
place_room p = p.capacity * p.channels

-- the unit was made for the place
pub record MadeFor (p : Place) (u : UnitState) : Type 0 where
  pub format : u.format ≡ p.format
  pub channels : u.channels ≡ p.channels
  pub capacity : u.capacity ≡ p.capacity

-- the blocks of the units
abbrev pub blocks_of : List UnitState → List Block
blocks_of us = map (λ (u : UnitState). u.block) us

-- each unit was made for its place
abbrev pub InLine : Place → List UnitState → Type 0
InLine p [] = Unit {0}
InLine p (u ∷ us) = MadeFor p u × InLine (place_after p u.block) us

abbrev pub AllRun : List UnitState → Type 0
AllRun [] = Unit {0}
AllRun (u ∷ us) = (u.ended ≡ false) × AllRun us

-- each unit stands for the live frames at its place, where the first stands for x
abbrev pub AllStand : Fmt → ℕ → List UnitState → List Frame → Type 0
AllStand format channels [] x = Unit {0}
AllStand format channels (u ∷ us) x =
    StandsFor u x × AllStand (format_after format u.block) (channels_after channels u.block) us
    (live format channels u.block x)

-- each unit counts the live frames at its place, where the first counts n
abbrev pub AllCount : List UnitState → ℕ → Type 0
AllCount [] n = Unit {0}
AllCount (u ∷ us) n = CountsFrames u n × AllCount us (live_frames u.block n)

-- the units have taken nothing, and each has the turn bound of its block, banked or not
abbrev pub AllNew : Bool → List UnitState → Type 0
AllNew banked [] = Unit {0}
AllNew banked (u ∷ us) =
    (StandsFor u [] × CountsFrames u 0 × ((m n : ℕ) → turns_of u m n ≡ unit_turns banked u.format u.channels u.block m
    n)) × AllNew banked us

-- each block can take the whole signal at its place, where the first takes n frames
abbrev pub AllTaken : List Block → ℕ → Type 0
AllTaken [] n = Unit {0}
AllTaken (block ∷ blocks) n = IsTaken block n × AllTaken blocks (whole_frames block n)

-- each place has fewer than 2^62 frames of the whole signal
abbrev pub AllFew : List Block → ℕ → Type 0
AllFew [] n = n < 2 ^ 62
AllFew (block ∷ blocks) n = (n < 2 ^ 62) × AllFew blocks (whole_frames block n)

-- the units can take so many frames more
abbrev pub AllAccept : List UnitState → ℕ → Type 0
AllAccept us more = (n : ℕ) × AllCount us n × AllTaken (blocks_of us) (n + more)

-- the measures of what the units have taken; the first has this number
abbrev pub measured_by : ℕ → List UnitState → List Measure
measured_by number [] = []
measured_by number (u ∷ us) = measures_of number u ++ measured_by (number + 1) us

-- the turn bound of a call that leads the line from m frames to n: the sum over its units
abbrev pub line_turns : List UnitState → ℕ → ℕ → ℕ
line_turns [] m n = 0
line_turns (u ∷ us) m n = turns_of u m n + line_turns us (live_frames u.block m) (live_frames u.block n)

-- the call took the frames `taken`, and gave the next live frames of the line
pub record FeedsLine (p : Place) (old new : List UnitState) (taken given : List Frame) (before after : Counts) : Type
    0 where
  pub blocks : blocks_of new ≡ blocks_of old
  pub in_line : InLine p new
  pub runs : AllRun new
  pub same_turns : (m n : ℕ) → line_turns new m n ≡ line_turns old m n
  pub values : (x : List Frame) → AllStand p.format p.channels old x →
      Continues (live_chain p.format p.channels (blocks_of old)) x taken given
  pub stands : (x : List Frame) → AllStand p.format p.channels old x → AllStand p.format p.channels new (x ++ taken)
  pub frames : (n : ℕ) → AllCount old n → frames_behind live_frames (blocks_of old) (n + length taken) ≡ frames_behind
      live_frames (blocks_of old) n + length given
  pub counts : (n : ℕ) → AllCount old n → AllCount new (n + length taken)
  pub multiplies : (n : ℕ) → AllCount old n → live_cost p.format p.channels (blocks_of old) (n + length taken) +
      before.multiplies ≡ live_cost p.format p.channels (blocks_of old) n + after.multiplies
  pub turns : (n : ℕ) → AllCount old n → after.turns ≤ before.turns + line_turns old n (n + length taken)

-- the line passes the samples on as the output of its last place
pub record IsFed (p : Place) (old new : List UnitState) (frames given : List ℤ) (before after : Counts) : Type 0 where
  pub passes : Passes (place_behind p (blocks_of old)) given
  pub feeds : FeedsLine p old new (frames_in p.channels frames)
      (frames_in (place_behind p (blocks_of old)).channels given) before after

-- ---- tails

-- the multiplies that a chain makes for n frames of a whole signal: its cost, where no window of it ends past the
-- full convolution
abbrev pub chain_products : Fmt → ℕ → List Block → ℕ → ℕ
chain_products format c [] n = 0
chain_products format c (block ∷ blocks) n =
    whole_products format c block n + chain_products (format_after format block) (channels_after c block) blocks
    (whole_frames block n)

-- the line took n frames, unit by unit what the one before has given; while a unit still has a tail, the ones behind
-- it run
abbrev pub AllTook : List UnitState → ℕ → Type 0
AllTook [] n = Unit {0}
AllTook (u ∷ us) n = TookFrames u n × (AllCount us (given_so_far u n) ⊎ ((u.tail ≡ []) × AllTook us (given_so_far u n)))

-- the frames that the line has given of n frames that it took
abbrev pub line_given : List UnitState → ℕ → ℕ
line_given [] n = n
line_given (u ∷ us) n = line_given us (given_so_far u n)

-- and the multiplies that its units have made
abbrev pub line_made : List UnitState → ℕ → ℕ
line_made [] n = 0
line_made (u ∷ us) n = made_so_far u n + line_made us (given_so_far u n)

-- the unit took x as a whole signal, has given ys of it, and has its measures
pub record Gave (u : UnitState) (x ys : List Frame) : Type 0 where
  pub given : whole u.format u.channels u.block x ≡ ys ++ u.tail
  pub measured : (number : ℕ) → measures_of number u ≡ block_measures u.format u.channels number u.block x

-- the line took x, and has given ys, which are its live frames
pub record GaveLive (p : Place) (us : List UnitState) (x ys : List Frame) : Type 0 where
  pub stands : AllStand p.format p.channels us x
  pub live : ys ≡ live_chain p.format p.channels (blocks_of us) x

-- the line took x as a whole signal, and has given ys of it
abbrev pub AllGave : Place → List UnitState → List Frame → List Frame → Type 0
AllGave p [] x ys = ys ≡ x
AllGave p (u ∷ us) x ys =
    (piece : List Frame) × Gave u x piece × (GaveLive (place_after p u.block) us piece ys ⊎
    ((u.tail ≡ []) × AllGave (place_after p u.block) us piece ys))

abbrev pub AllSpent : List UnitState → Type 0
AllSpent [] = Unit {0}
AllSpent (u ∷ us) = (u.tail ≡ []) × AllSpent us

abbrev pub FirstSpent : List UnitState → Type 0
FirstSpent [] = Unit {0}
FirstSpent (u ∷ us) = u.tail ≡ []

-- the frames that are left of the first unit's tail
abbrev pub first_tail : List UnitState → ℕ
first_tail [] = 0
first_tail (u ∷ us) = length u.tail

-- the call gave the next frames of the line's tail
pub record FinishesLine (p : Place) (old new : List UnitState) (given : List Frame) (before after : Counts) : Type 0
  where
    pub blocks : blocks_of new ≡ blocks_of old
    pub in_line : InLine p new
    pub same_turns : (m n : ℕ) → line_turns new m n ≡ line_turns old m n
    pub gave : (x ys : List Frame) → AllGave p old x ys → AllGave p new x (ys ++ given)
    pub took : (n : ℕ) → AllTook old n → AllTook new n
    pub frames : (n : ℕ) → AllTook old n → line_given new n ≡ line_given old n + length given
    pub multiplies : (n : ℕ) → AllTook old n → line_made new n + before.multiplies ≡ line_made old n + after.multiplies
    pub turns : (n : ℕ) → AllTook old n → after.turns + before.multiplies ≤ before.turns + after.multiplies

-- the same of samples
pub record IsFinished (p : Place) (old new : List UnitState) (given : List ℤ) (before after : Counts) : Type 0 where
  pub passes : Passes (place_behind p (blocks_of old)) given
  pub finishes : FinishesLine p old new (frames_in (place_behind p (blocks_of old)).channels given) before after
