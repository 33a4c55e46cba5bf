-- The rule of a block counts the frames that the block counts.
use Rattle.std.proofs.Common.{◌≡◌, ◌∙◌, ap, refl, ℕ, ◌*◌, ◌/◌, ◌%◌, ◌≤◌, Option, Some, None, arith}
use Rattle.std.specs.Int.{div_ceil}
use Rattle.std.proofs.lemmas.Nat.{mul-le}
use Rattle.std.proofs.Math.Nat.{mul-le-mul}
use Rattle.dsp_defs.specs.declared.limits.TheConstants.{MAX_MATRIX_SIDE}
use Rattle.dsp_defs.specs.declared.flow.Flow.{Flow}
use Rattle.dsp_defs.specs.declared.script.Block.{Block}
use Rattle.dsp_defs.specs.declared.script.Block.TheVariants.{Decimate, Interpolate, Conv, ConvPartial, Correlate}
use Rattle.dsp_defs.specs.declared.script.Block.TheVariants.{MatAdd, MatSub, MatScale, MatTrans, MatMult}
use Rattle.dsp_defs.specs.Grammar.{Suits}
use Rattle.dsp_defs.specs.Shape.{group_of, groups_after, steady_frames, given_frames}
use Rattle.dsp_defs.specs.Shape.{whole_frames, live_frames, window_end, Pace, euclid, gcd, grouped_pace, pace_after}
use Rattle.dsp_unit.specs.Unit.{most_groups, most_frames}
use Rattle.dsp_shape.specs.FrameRule.{group_rule, matrix_rule, rule_of, groups_by, steady_by, most_by, given_by}
use Rattle.dsp_shape.specs.FrameRule.{whole_by, live_by, window_of, IsRule}
use Rattle.dsp_shape.specs.declared.frame_rule.FrameRule.{FrameRule}
use Rattle.dsp_shape.specs.declared.frame_rule.FrameRule.TheVariants as rule

-- ---- what a rule counts is what its block counts

by-one : (n k : ℕ) → n / 1 * k ≡ n * k
by-one n k = (let same : n / 1 ≡ n = omega arith in ap (λ i. i * k) same)

group-steady : (group : Option (ℕ × ℕ)) (n : ℕ) → steady_by (group_rule group) n ≡ groups_after group n
group-steady None n = omega arith
group-steady (Some g) n = refl

pub steady-rule : (b : Block) (n : ℕ) → steady_by (rule_of b) n ≡ steady_frames b n
steady-rule (Interpolate factor taps) n = by-one n factor
steady-rule (Conv taps) n = omega arith
steady-rule (ConvPartial first count taps) n = omega arith
steady-rule (Correlate taps) n = omega arith
steady-rule b n = group-steady (group_of b) n

group-most : (group : Option (ℕ × ℕ)) (n : ℕ) → most_by (group_rule group) n ≡ most_groups group n
group-most None n = omega arith
group-most (Some g) n = refl

pub most-rule : (b : Block) (n : ℕ) → most_by (rule_of b) n ≡ most_frames b n
most-rule (Interpolate factor taps) n = (let same : div_ceil n 1 ≡ n = omega arith in ap (λ i. i * factor) same)
most-rule (Conv taps) n = omega arith
most-rule (ConvPartial first count taps) n = omega arith
most-rule (Correlate taps) n = omega arith
most-rule b n = group-most (group_of b) n

group-given : (group : Option (ℕ × ℕ)) (n : ℕ) → given_by (group_rule group) n ≡ groups_after group n
group-given None n = omega arith
group-given (Some g) n = refl

pub given-rule : (b : Block) (n : ℕ) → given_by (rule_of b) n ≡ given_frames b n
given-rule (Interpolate factor taps) n = by-one n factor
given-rule (Conv taps) n = refl
given-rule (ConvPartial first count taps) n = refl
given-rule (Correlate taps) n = refl
given-rule b n = group-given (group_of b) n

group-whole : (group : Option (ℕ × ℕ)) (n : ℕ) → whole_by (group_rule group) n ≡ groups_after group n
group-whole None n = omega arith
group-whole (Some g) n = refl

pub whole-rule : (b : Block) (n : ℕ) → whole_by (rule_of b) n ≡ whole_frames b n
whole-rule (Interpolate factor taps) n = by-one n factor
whole-rule (Conv taps) n = refl
whole-rule (ConvPartial first count taps) n = refl
whole-rule (Correlate taps) n = refl
whole-rule b n = group-whole (group_of b) n

group-live : (group : Option (ℕ × ℕ)) (n : ℕ) → live_by (group_rule group) n ≡ groups_after group n
group-live None n = omega arith
group-live (Some g) n = refl

pub live-rule : (b : Block) (n : ℕ) → live_by (rule_of b) n ≡ live_frames b n
live-rule (Interpolate factor taps) n = by-one n factor
live-rule (Conv taps) n = refl
live-rule (ConvPartial first count taps) n = refl
live-rule (Correlate taps) n = refl
live-rule b n = group-live (group_of b) n

group-window : (group : Option (ℕ × ℕ)) (n : ℕ) → window_of (group_rule group) n ≡ None
group-window None n = refl
group-window (Some g) n = refl

pub window-rule : (b : Block) (n : ℕ) → window_of (rule_of b) n ≡ window_end b n
window-rule (Interpolate factor taps) n = refl
window-rule (Conv taps) n = refl
window-rule (ConvPartial first count taps) n = refl
window-rule (Correlate taps) n = refl
window-rule b n = group-window (group_of b) n

-- groups of one frame leave the unit
gcd-one : (n : ℕ) → gcd n 1 ≡ 1
gcd-one n = (let none : n % 1 ≡ 0 = omega arith in ap (euclid 1 1) none)

pace-one : (pace : Pace) (k : ℕ) → grouped_pace pace (Some (1, k)) ≡ record
    { unit = pace.unit; frames = pace.frames * k }
pace-one pace k =
    let times : 1 / gcd pace.frames 1 ≡ 1 = ap (λ i. 1 / i) (gcd-one pace.frames) in
    let unit : pace.unit * (1 / gcd pace.frames 1) ≡ pace.unit = ap (λ i. pace.unit * i) times ∙ omega arith in
    let frames : pace.frames * (1 / gcd pace.frames 1) / 1 * k ≡ pace.frames * k =
    ap (λ i. pace.frames * i / 1 * k) times ∙ by-one (pace.frames * 1) k ∙ omega arith in
    λ i. record { unit = unit i; frames = frames i }

pace-same : (pace : Pace) → grouped_pace pace (Some (1, 1)) ≡ pace
pace-same pace = (let same : pace.frames * 1 ≡ pace.frames = omega arith in pace-one pace 1 ∙ (λ i. record
    { unit = pace.unit; frames = same i }))

group-pace : (pace : Pace) (group : Option (ℕ × ℕ)) → grouped_pace pace (Some (groups_by (group_rule group))) ≡
    grouped_pace pace group
group-pace pace None = pace-same pace
group-pace pace (Some g) = refl

pub pace-rule : (pace : Pace) (b : Block) → grouped_pace pace (Some (groups_by (rule_of b))) ≡ pace_after pace b
pace-rule pace (Interpolate factor taps) = pace-one pace factor
pace-rule pace (Conv taps) = pace-same pace
pace-rule pace (ConvPartial first count taps) = pace-same pace
pace-rule pace (Correlate taps) = pace-same pace
pace-rule pace b = group-pace pace (group_of b)

-- ---- the numbers of a rule

-- of matrices within their limits
matrix-is : (rows columns given : ℕ) → (1 ≤ rows) × (rows ≤ MAX_MATRIX_SIDE) → (1 ≤ columns) ×
    (columns ≤ MAX_MATRIX_SIDE) → (1 ≤ given) × (given ≤ MAX_MATRIX_SIDE) → IsRule (matrix_rule rows columns given)
matrix-is rows columns given r c g = (
  mul-le-mul r.0 c.0,
  mul-le-mul r.0 g.0,
  omega (arith, mul-le rows columns MAX_MATRIX_SIDE MAX_MATRIX_SIDE r.1 c.1),
  omega (arith, mul-le rows given MAX_MATRIX_SIDE MAX_MATRIX_SIDE r.1 g.1),
)

pub is-rule : (flow : Flow) (b : Block) → Suits flow b → IsRule (rule_of b)
is-rule flow (Interpolate factor taps) s =
    (omega arith, s.parameters.0, omega arith, omega (arith, s.parameters.1))
is-rule flow (Decimate factor taps) s = (s.parameters.0, omega arith, omega (arith, s.parameters.1), omega arith)
is-rule flow (Conv taps) s = s.parameters.0.limit
is-rule flow (ConvPartial first count taps) s = (
  omega (arith, s.parameters.1),
  omega (arith, s.parameters.2.1),
  s.parameters.2.2.0.limit,
)
is-rule flow (Correlate taps) s = s.parameters.0.limit
is-rule flow (MatAdd rows columns matrix) s = matrix-is rows columns columns (s.parameters.0, s.parameters.1)
    (s.parameters.2.0, s.parameters.2.1) (s.parameters.2.0, s.parameters.2.1)
is-rule flow (MatSub rows columns matrix) s = matrix-is rows columns columns (s.parameters.0, s.parameters.1)
    (s.parameters.2.0, s.parameters.2.1) (s.parameters.2.0, s.parameters.2.1)
is-rule flow (MatScale rows columns fract shift) s = matrix-is rows columns columns (s.parameters.0, s.parameters.1)
    (s.parameters.2.0, s.parameters.2.1) (s.parameters.2.0, s.parameters.2.1)
is-rule flow (MatTrans rows columns) s = matrix-is rows columns columns (s.parameters.0, s.parameters.1)
    (s.parameters.2.0, s.parameters.2.1) (s.parameters.2.0, s.parameters.2.1)
is-rule flow (MatMult rows columns given matrix) s = matrix-is rows columns given (s.parameters.0, s.parameters.1)
    (s.parameters.2.0, s.parameters.2.1) (s.parameters.2.2.0, s.parameters.2.2.1)
is-rule flow b s = (omega arith, omega arith, omega arith, omega arith)

-- its groups are a rule too
pub rule-groups : (r : FrameRule) → IsRule r → IsRule (rule.Groups (groups_by r).0 (groups_by r).1)
rule-groups (rule.Groups taken given) is = is
rule-groups r is = (omega arith, omega arith, omega arith, omega arith)

-- ---- fewer frames
