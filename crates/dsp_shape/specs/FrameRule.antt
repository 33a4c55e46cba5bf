-- How the blocks of a chain count frames.
use Rattle.std.specs.Prelude.{ℕ, ◌+◌, ◌-◌, ◌*◌, ◌/◌, ◌^◌, ◌<◌, ◌≤◌, min, nat_lt, Bool, true, false, if◌then◌else◌}
use Rattle.std.specs.Prelude.{length, Option, Some, None}
use Rattle.std.specs.Int.{div_ceil}
use Rattle.dsp_defs.specs.Sums.{full_length}
use Rattle.dsp_defs.specs.Shape.{group_of, correlation_length}
use Rattle.dsp_defs.specs.declared.limits.TheConstants.{MAX_TAPS}
use Rattle.dsp_defs.specs.declared.script.Block.{Block}
use Rattle.dsp_defs.specs.declared.script.Block.TheVariants as block
use Rattle.dsp_shape.specs.declared.frame_rule.FrameRule.{FrameRule}
use Rattle.dsp_shape.specs.declared.frame_rule.FrameRule.TheVariants.{Groups, Conv, ConvPartial, Correlate}

-- a block that has no groups gives a frame for each
abbrev pub group_rule : Option (ℕ × ℕ) → FrameRule
group_rule None = Groups 1 1
group_rule (Some g) = Groups g.0 g.1

-- the rule of matrices that give so many columns
abbrev pub matrix_rule : ℕ → ℕ → ℕ → FrameRule
matrix_rule rows columns given = Groups (rows * columns) (rows * given)

-- the rule of a block
abbrev pub rule_of : Block → FrameRule
rule_of (block.Interpolate factor taps) = Groups 1 factor
rule_of (block.Conv taps) = Conv (length taps)
rule_of (block.ConvPartial first count taps) = ConvPartial first count (length taps)
rule_of (block.Correlate taps) = Correlate (length taps)
rule_of b = group_rule (group_of b)

-- the frames of a group and those that it gives for one, where a block without groups has one of a frame
abbrev pub groups_by : FrameRule → ℕ × ℕ
groups_by (Groups taken given) = (taken, given)
groups_by rule = (1, 1)

-- the frames of so many by its groups alone, and the most of a call with so many
abbrev pub steady_by : FrameRule → ℕ → ℕ
steady_by rule n = n / (groups_by rule).0 * (groups_by rule).1

abbrev pub most_by : FrameRule → ℕ → ℕ
most_by rule n = div_ceil n (groups_by rule).0 * (groups_by rule).1

-- the frames that it is to give
abbrev pub given_by : FrameRule → ℕ → ℕ
given_by (Groups taken given) n = n / taken * given
given_by (Conv taps) n = full_length n taps
given_by (ConvPartial first count taps) n = count
given_by (Correlate taps) n = correlation_length n taps

-- the frames of a whole signal, and those of one that may go on
abbrev pub whole_by : FrameRule → ℕ → ℕ
whole_by (ConvPartial first count taps) n = min count (full_length n taps - first)
whole_by rule n = given_by rule n

abbrev pub live_by : FrameRule → ℕ → ℕ
live_by (Groups taken given) n = n / taken * given
live_by (Conv taps) n = min n (full_length n taps)
live_by (ConvPartial first count taps) n = min (n - first) (min count (full_length n taps - first))
live_by (Correlate taps) n = 0

-- whether it gathers what comes
abbrev pub gathers : FrameRule → Bool
gathers (Correlate taps) = true
gathers rule = false

-- a window that ends past its convolution: its end, and the length of that
abbrev pub window_of : FrameRule → ℕ → Option (ℕ × ℕ)
window_of (ConvPartial first count taps) n = if nat_lt (full_length n taps) (first + count) then
    Some (first + count, full_length n taps) else None
window_of rule n = None

-- its groups have frames
abbrev pub HasGroup : FrameRule → Type 0
HasGroup rule = 0 < (groups_by rule).0

-- its groups also give some, and its numbers are within their limits
abbrev pub IsRule : FrameRule → Type 0
IsRule (Groups taken given) = (1 ≤ taken) × (1 ≤ given) × (taken < 2 ^ 16) × (given < 2 ^ 16)
IsRule (Conv taps) = taps ≤ MAX_TAPS
IsRule (ConvPartial first count taps) = (first < 2 ^ 32) × (count < 2 ^ 32) × (taps ≤ MAX_TAPS)
IsRule (Correlate taps) = taps ≤ MAX_TAPS
