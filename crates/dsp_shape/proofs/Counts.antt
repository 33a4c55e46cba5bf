-- How many frames a chain gives, and how many products it takes.
use Rattle.std.proofs.Common.{◌≡◌, ℕ, ℤ, ◌+◌, ◌*◌, ◌/◌, ◌<◌, ◌≤◌, ◌^◌, Bool, true, List, [], ◌∷◌, length, refl}
use Rattle.std.proofs.Common.{sym, ◌∙◌, arith}
use Rattle.std.specs.Prelude.{nat_le}
use Rattle.std.proofs.lemmas.Bool.Decides.{nat_tests}
use Rattle.std.proofs.lemmas.Nat.{mul-le}
use Rattle.std.proofs.Math.Nat.{div-le_self, le-mul_of_pos_right}
use Rattle.dsp_defs.specs.declared.limits.TheConstants.{MAX_TAPS, MAX_SECTIONS, MAX_MATRIX_SIDE, MAX_CHANNELS}
use Rattle.dsp_defs.specs.declared.limits.TheConstants.{MAX_SAMPLES, MAX_INPUT}
use Rattle.dsp_defs.specs.declared.format.Fmt.{Fmt}
use Rattle.dsp_defs.specs.declared.format.Fmt.TheVariants.{Q7, Q15, Q31}
use Rattle.dsp_defs.specs.declared.flow.Flow.{Flow}
use Rattle.dsp_defs.specs.declared.script.Block.{Block}
use Rattle.dsp_defs.specs.declared.script.Block.TheVariants.{Scale, Mult, CmplxMult, CmplxMultReal, MagSquared, Fir}
use Rattle.dsp_defs.specs.declared.script.Block.TheVariants.{Sparse, Decimate, Interpolate, LatticeFir, LatticeIir}
use Rattle.dsp_defs.specs.declared.script.Block.TheVariants.{Biquad, Biquad64, Conv, ConvPartial, Correlate, Lms, Pid}
use Rattle.dsp_defs.specs.declared.script.Block.TheVariants.{MatScale, MatMult, Power, Dot, CmplxDot}
use Rattle.dsp_defs.specs.declared.script.Script.{Script}
use Rattle.dsp_defs.specs.Grammar.{Suits, IsSound, input_flow}
use Rattle.dsp_defs.specs.Table.{flow_after}
use Rattle.dsp_defs.specs.Block.{format_after, channels_after}
use Rattle.dsp_defs.specs.Parameters.{section_length}
use Rattle.dsp_defs.specs.Cost.{section_count, block_cost, cost}
use Rattle.dsp_defs.specs.Shape.{given_frames, frames_given, fits_everywhere}
use Rattle.dsp_shape.specs.FrameRule.{rule_of, groups_by, steady_by, HasGroup}
use Rattle.dsp_shape.specs.Lengths.{HasLegalBlock}
use Rattle.dsp_shape.proofs.FrameRules.{is-rule, rule-groups, steady-rule}
use Rattle.dsp_shape.proofs.Placed.{IsPlaced, few_here, placed_after, placed_sound}
use Rattle.dsp_shape.proofs.FewFrames.{FewBy, few-by-first, few_sound}

-- ---- samples of a block

-- what a block that fits here leads to: fewer than 2^36 frames at the next place, where the loop goes on
pub record FitsOn (flow : Flow) (n : ℕ) (b : Block) (blocks : List Block) (whole : Bool) : Type 0 where
  pub group : HasGroup (rule_of b)
  pub few : steady_by (rule_of b) n ≤ 2 ^ 36
  pub channels : channels_after flow.channels b < 2 ^ 8
  pub placed : IsPlaced (flow_after b flow) blocks
  pub same : fits_everywhere (channels_after flow.channels b) blocks (steady_by (rule_of b) n) ≡ whole

pub fits_on : (flow : Flow) (n : ℕ) (b : Block) (items blocks : List Block) (whole : Bool) → items ≡ b ∷ blocks →
    IsPlaced flow items → n * flow.channels ≤ MAX_SAMPLES → fits_everywhere flow.channels items n ≡ whole →
    FitsOn flow n b blocks whole
fits_on flow n b items blocks whole e placed few same =
    let p : IsPlaced flow (b ∷ blocks) = rw e at placed in
    let g = groups_by (rule_of b) in
    let is = rule-groups (rule_of b) (is-rule flow b p.chain.0) in
    let frames = le-mul_of_pos_right n p.channels.0 in
    let most : n / g.0 ≤ MAX_SAMPLES = omega (arith, div-le_self n g.0, frames, few) in
    let product = mul-le (n / g.0) g.1 MAX_SAMPLES (2 ^ 16) most (omega (arith, is.3)) in
    let fits : nat_le (n * flow.channels) MAX_SAMPLES ≡ true = grind (arith, nat_tests) in
    let now : fits_everywhere flow.channels items n ≡ fits_everywhere (channels_after flow.channels b) blocks
    (steady_by (rule_of b) n) = rw (e, fits, steady-rule b n) refl in
    record {
      group = is.0;
      few = omega (arith, product);
      channels = few_here flow b blocks p;
      placed = placed_after flow b blocks p;
      same = sym now ∙ same;
    }

-- ---- frames of a whole run

-- the loop goes on
pub frames_go_on : (n : ℕ) (b : Block) (items blocks : List Block) (whole : ℕ) → items ≡ b ∷ blocks →
    frames_given items n ≡ whole → frames_given blocks (given_frames b n) ≡ whole
frames_go_on n b items blocks whole e same = let now : frames_given items n ≡ frames_given blocks (given_frames b n) =
    rw e refl in sym now ∙ same

pub few_first : (n : ℕ) (b : Block) (items blocks : List Block) → items ≡ b ∷ blocks → FewBy given_frames items n →
    (given_frames b n < 2 ^ 63) × FewBy given_frames blocks (given_frames b n)
few_first n b items blocks e few =
    let parts : FewBy given_frames (b ∷ blocks) n = rw e at few in
    let first = few-by-first given_frames blocks (given_frames b n) parts.1 in
    (omega (arith, first), parts.1)

-- ---- products of a whole run

frames_product : (c n t : ℕ) → c ≤ MAX_CHANNELS → n < 2 ^ 63 → t ≤ MAX_TAPS → c * n * t ≤ 2 ^ 85
frames_product c n t channels few taps = omega (
  arith,
  mul-le (c * n) t (MAX_CHANNELS * 2 ^ 63) MAX_TAPS (mul-le c n MAX_CHANNELS (2 ^ 63) channels (omega arith)) taps,
)

channel_product : (c n : ℕ) → c ≤ MAX_CHANNELS → n < 2 ^ 63 → c * n ≤ 2 ^ 85
channel_product c n channels few = omega (arith, mul-le c n MAX_CHANNELS (2 ^ 63) channels (omega arith))

section_le : (f : Fmt) (coefficients : List ℤ) → section_count f coefficients ≤ length coefficients
section_le Q7 coefficients = div-le_self (length coefficients) 5
section_le Q15 coefficients = div-le_self (length coefficients) 6
section_le Q31 coefficients = div-le_self (length coefficients) 5

sections_few : (f : Fmt) (n : ℕ) → n ≤ MAX_SECTIONS * section_length f → 5 * n ≤ MAX_TAPS
sections_few Q7 n h = omega arith
sections_few Q15 n h = omega arith
sections_few Q31 n h = omega arith

sections_product : (flow : Flow) (coefficients : List ℤ) (c n : ℕ) →
    length coefficients ≤ MAX_SECTIONS * section_length flow.format → c ≤ MAX_CHANNELS → n < 2 ^ 63 →
    c * n * (5 * section_count flow.format coefficients) ≤ 2 ^ 85
sections_product flow coefficients c n limit channels few =
    frames_product c n (5 * section_count flow.format coefficients) channels few
    (omega (arith, section_le flow.format coefficients, sections_few flow.format (length coefficients) limit))

matrix_product : (c n rows columns given : ℕ) → c ≤ MAX_CHANNELS → n < 2 ^ 63 → rows ≤ MAX_MATRIX_SIDE →
    columns ≤ MAX_MATRIX_SIDE → given ≤ MAX_MATRIX_SIDE → c * (n / (rows * columns)) * rows * columns * given ≤ 2 ^ 85
matrix_product c n rows columns given channels few r k g =
    let q = n / (rows * columns) in
    let quotient : q ≤ 2 ^ 63 = omega (arith, div-le_self n (rows * columns)) in
    let (all, side) : ℕ × ℕ = (MAX_CHANNELS * 2 ^ 63, MAX_MATRIX_SIDE) in
    mul-le (c * q * rows * columns) given (all * side * side) side
    (mul-le (c * q * rows) columns (all * side) side (mul-le (c * q) rows all side
    (mul-le c q MAX_CHANNELS (2 ^ 63) channels quotient) r) k) g

block_few : (flow : Flow) (b : Block) (n given : ℕ) → Suits flow b → flow.channels ≤ MAX_CHANNELS → n < 2 ^ 63 →
    given < 2 ^ 63 → block_cost flow.format flow.channels b n given ≤ 2 ^ 85
block_few flow (Scale fract shift) n given s c few out = channel_product flow.channels n c few
block_few flow Mult n given s c few out = omega arith
block_few flow CmplxMult n given s c few out = omega arith
block_few flow CmplxMultReal n given s c few out = omega arith
block_few flow MagSquared n given s c few out = omega arith
block_few flow (Fir taps) n given s c few out = frames_product flow.channels n (length taps) c few
    (omega (arith, s.parameters.0.limit))
block_few flow (Sparse taps delays) n given s c few out =
    frames_product flow.channels n (length taps) c few (omega (arith, s.parameters.0.limit))
block_few flow (Decimate factor taps) n given s c few out =
    frames_product flow.channels given (length taps) c out (omega (arith, s.parameters.2.0.limit))
block_few flow (Interpolate factor taps) n given s c few out =
    frames_product flow.channels n (length taps) c few (omega (arith, s.parameters.2.0.limit))
block_few flow (LatticeFir k) n given s c few out = frames_product flow.channels n (2 * length k) c few
    (omega (arith, s.parameters.0.limit))
block_few flow (LatticeIir k v) n given s c few out =
    frames_product flow.channels n (3 * length k + 1) c few (omega (arith, s.parameters.0.limit))
block_few flow (Biquad post_shift coefficients) n given s c few out =
    sections_product flow coefficients flow.channels n s.parameters.2.0.limit c few
block_few flow (Biquad64 post_shift coefficients) n given s c few out =
    sections_product flow coefficients flow.channels n s.parameters.2.0.limit c few
block_few flow (Conv taps) n given s c few out = frames_product flow.channels given (length taps) c out
    (omega (arith, s.parameters.0.limit))
block_few flow (ConvPartial first count taps) n given s c few out =
    frames_product flow.channels given (length taps) c out (omega (arith, s.parameters.2.2.0.limit))
block_few flow (Correlate taps) n given s c few out =
    frames_product flow.channels n (length taps) c few (omega (arith, s.parameters.0.limit))
block_few flow (Lms post_shift mu taps) n given s c few out =
    omega (
      arith,
      mul-le n (2 * length taps + 1) (2 ^ 63) (2 * MAX_TAPS + 1) (omega arith)
          (omega (arith, s.parameters.2.1.0.limit)),
    )
block_few flow (Pid kp ki kd) n given s c few out = frames_product flow.channels n 3 c few (omega arith)
block_few flow (MatScale rows columns fract shift) n given s c few out = channel_product flow.channels given c out
block_few flow (MatMult rows columns given matrix) n out_frames s c few out =
    matrix_product flow.channels n rows columns given c few s.parameters.1 s.parameters.2.1 s.parameters.2.2.1
block_few flow Power n given s c few out = channel_product flow.channels n c few
block_few flow Dot n given s c few out = omega arith
block_few flow CmplxDot n given s c few out = omega arith
block_few flow b n given s c few out = omega arith

chain_few : (blocks : List Block) (flow : Flow) (n : ℕ) → IsPlaced flow blocks → FewBy given_frames blocks n →
    cost flow.format flow.channels blocks n ≤ 2 ^ 85 * length blocks
chain_few [] flow n p few = omega arith
chain_few (b ∷ blocks) flow n p few =
    let given = few-by-first given_frames blocks (given_frames b n) few.1 in
    omega (
      arith,
      block_few flow b n (given_frames b n) p.chain.0 p.channels.1 (omega (arith, few.0)) (omega (arith, given)),
      chain_few blocks (flow_after b flow) (given_frames b n) (placed_after flow b blocks p) few.1,
    )

-- a run takes fewer than 2^127 products
pub cost_sound : (s : Script) (n : ℕ) → IsSound s → HasLegalBlock s → n ≤ MAX_INPUT →
    cost s.input.format s.input.channels s.blocks n < 2 ^ 127
cost_sound s n sound legal few =
    omega (
      arith,
      chain_few s.blocks (input_flow s.input) n (placed_sound s sound) (few_sound s n sound legal few),
      sound.1.fit.blocks,
    )

-- the loop goes on
pub cost_goes_on : (f : Fmt) (c n total : ℕ) (b : Block) (items blocks : List Block) (whole : ℕ) →
    items ≡ b ∷ blocks → total + cost f c items n ≡ whole
    → total + block_cost f c b n (given_frames b n) + cost (format_after f b) (channels_after c b) blocks
    (given_frames b n) ≡ whole
cost_goes_on f c n total b items blocks whole e same =
    let now : cost f c items n ≡ block_cost f c b n (given_frames b n) + cost (format_after f b) (channels_after c b)
    blocks (given_frames b n) = rw e refl in
    omega arith
