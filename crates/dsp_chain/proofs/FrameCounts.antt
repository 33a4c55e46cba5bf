-- How many frames stand at the places of a chain, by its rules.
use Rattle.std.proofs.Common.{◌≡◌, refl, ℕ, ◌≤◌, true, false, List, [], ◌∷◌}
use Rattle.std.proofs.Common.{Option, Some, None, arith}
use Rattle.dsp_defs.specs.Shape.{group_of, whole_frames, live_frames, frames_behind, frames_at_correlate}
use Rattle.dsp_defs.specs.declared.script.Block.{Block}
use Rattle.dsp_defs.specs.declared.script.Block.TheVariants.{Interpolate, Conv, ConvPartial, Correlate}
use Rattle.dsp_unit.specs.Line.{AllFew}
use Rattle.dsp_unit.proofs.CostLaws.{live_within_whole}
use Rattle.dsp_unit.proofs.TurnLaws.{whole_frames_more}
use Rattle.dsp_shape.specs.FrameRule.{group_rule, rule_of, gathers}
use Rattle.dsp_chain.specs.Counting.{frames_of}
use Rattle.dsp_chain.specs.declared.signal.Signal.{Signal}
use Rattle.dsp_chain.specs.declared.signal.Signal.TheVariants.{Whole, Live}

-- ---- fewer frames

pub fewer : (blocks : List Block) (n m : ℕ) → n ≤ m → AllFew blocks m → AllFew blocks n
fewer [] n m h few = omega (arith, h, few)
fewer (b ∷ blocks) n m h few = (
  omega (arith, h, few.0),
  fewer blocks (whole_frames b n) (whole_frames b m) (whole_frames_more b n m h) few.1,
)

pub few-after : (signal : Signal) (b : Block) (blocks : List Block) (n : ℕ) → AllFew (b ∷ blocks) n →
    AllFew blocks (frames_of signal b n)
few-after Whole b blocks n few = few.1
few-after Live b blocks n few =
    fewer blocks (live_frames b n) (whole_frames b n) (live_within_whole b n n (omega arith)) few.1

-- a tail has no fewer frames than none
pub live-within : (blocks : List Block) (n m : ℕ) → n ≤ m →
    frames_behind live_frames blocks n ≤ frames_behind whole_frames blocks m
live-within [] n m h = h
live-within (b ∷ blocks) n m h = live-within blocks (live_frames b n) (whole_frames b m) (live_within_whole b n m h)

-- ---- the place of the correlation

groups-gather : (group : Option (ℕ × ℕ)) → gathers (group_rule group) ≡ true → ⊥
groups-gather None e = cc
groups-gather (Some g) e = cc

pub gathered-here : (gives : Block → ℕ → ℕ) (b : Block) (blocks : List Block) (n : ℕ) → gathers (rule_of b) ≡ true →
    frames_at_correlate gives (b ∷ blocks) n ≡ n
gathered-here gives (Correlate taps) blocks n e = refl
gathered-here gives (Interpolate factor taps) blocks n e = absurd cc
gathered-here gives (Conv taps) blocks n e = absurd cc
gathered-here gives (ConvPartial first count taps) blocks n e = absurd cc
gathered-here gives b blocks n e = absurd (groups-gather (group_of b) e)

pub gathered-later : (gives : Block → ℕ → ℕ) (b : Block) (blocks : List Block) (n : ℕ) → gathers (rule_of b) ≡ false →
    frames_at_correlate gives (b ∷ blocks) n ≡ frames_at_correlate gives blocks (gives b n)
gathered-later gives (Correlate taps) blocks n e = absurd cc
gathered-later gives b blocks n e = refl

pub held-fewer : (blocks : List Block) (n m : ℕ) → n ≤ m →
    frames_at_correlate live_frames blocks n ≤ frames_at_correlate whole_frames blocks m
held-fewer [] n m h = omega arith
held-fewer (Correlate taps ∷ blocks) n m h = h
held-fewer (b ∷ blocks) n m h = held-fewer blocks (live_frames b n) (whole_frames b m) (live_within_whole b n m h)
