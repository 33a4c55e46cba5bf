-- What a chain has cost so far is at most its cost for as many frames or more, and its products are its cost where no
-- window ends late.
use Rattle.std.proofs.Common.{◌≡◌, ◌⊎◌, ℕ, zero, suc, ◌+◌, ◌-◌, ◌*◌, ◌/◌, ◌<◌, ◌≤◌, min, max, List, [], ◌∷◌, length}
use Rattle.std.proofs.Common.{Option, Some, None, refl, ap₂, ◌∙◌, arith, subst, sym, ap, inl, inr}
use Rattle.std.proofs.lemmas.Grind.{common_steps}
use Rattle.std.proofs.Math.Nat.{mul-le-mul_left, mul-le-mul_right, zero-div}
use Rattle.dsp_defs.specs.Sums.{full_length}
use Rattle.dsp_defs.specs.Block.{format_after, channels_after}
use Rattle.dsp_defs.specs.Shape.{group_of, groups_after, correlation_length, given_frames, live_frames, whole_frames}
use Rattle.dsp_defs.specs.Shape.{window_at}
use Rattle.dsp_defs.specs.Cost.{section_count, block_cost, whole_block_cost, live_block_cost, cost, live_cost}
use Rattle.dsp_defs.specs.Cost.{correlation_products, cost_so_far}
use Rattle.dsp_unit.specs.Unit.{whole_products}
use Rattle.dsp_unit.specs.Line.{chain_products}
use Rattle.dsp_defs.specs.declared.format.Fmt.{Fmt}
use Rattle.dsp_defs.specs.declared.script.Block.{Block}
use Rattle.dsp_defs.specs.declared.script.Block.TheVariants.{Scale, Mult, CmplxMult, CmplxMultReal, MagSquared, Fir}
use Rattle.dsp_defs.specs.declared.script.Block.TheVariants.{Sparse, Decimate, Interpolate, LatticeFir, LatticeIir}
use Rattle.dsp_defs.specs.declared.script.Block.TheVariants.{Biquad, Biquad64, Conv, ConvPartial, Correlate, Lms, Pid}
use Rattle.dsp_defs.specs.declared.script.Block.TheVariants.{MatScale, MatMult, Power, Dot, CmplxDot}
use Rattle.dsp_defs.proofs.BlockLaws.{quotient_grows}
use Rattle.dsp_defs.proofs.FrameLaws.{whole_frames_are_given, window_cases}

-- ---- more frames

pub quotient_more : (n m k : ℕ) → n ≤ m → n / k ≤ m / k
quotient_more n m k h =
    let more : m ≡ n + (m - n) = omega arith in
    subst (λ (i : ℕ). n / k ≤ i / k) (sym more) (quotient_grows n (m - n) k)

pub groups_more : (group : Option (ℕ × ℕ)) (n m : ℕ) → n ≤ m → groups_after group n ≤ groups_after group m
groups_more None n m h = h
groups_more (Some g) n m h = mul-le-mul_right g.1 (quotient_more n m g.0 h)

live_conv_given : (n m t : ℕ) → n ≤ m → min n (full_length n t) ≤ full_length m t
live_conv_given n m t h = grind (arith, common_steps)

window_given : (live count rest : ℕ) → min live (min count rest) ≤ count
window_given live count rest = omega arith

-- what is given so far of n frames is at most what is given of n or more
live_within_given : (block : Block) (n m : ℕ) → n ≤ m → live_frames block n ≤ given_frames block m
live_within_given (Interpolate factor taps) n m h = mul-le-mul_right factor h
live_within_given (Conv taps) n m h = live_conv_given n m (length taps) h
live_within_given (ConvPartial first count taps) n m h =
    window_given (n - first) count (full_length n (length taps) - first)
live_within_given (Correlate taps) n m h = omega arith
live_within_given block n m h = groups_more (group_of block) n m h

-- ---- the cost of a block

times_more : (c n m k : ℕ) → n ≤ m → c * n * k ≤ c * m * k
times_more c n m k h = mul-le-mul_right k (mul-le-mul_left c h)

pub block_cost_grows : (format : Fmt) (c : ℕ) (block : Block) (n m n' m' : ℕ) → n ≤ m → n' ≤ m' →
    block_cost format c block n n' ≤ block_cost format c block m m'
block_cost_grows format c (Scale fract shift) n m n' m' h h' = mul-le-mul_left c h
block_cost_grows format c Mult n m n' m' h h' = h
block_cost_grows format c CmplxMult n m n' m' h h' = mul-le-mul_left 4 h
block_cost_grows format c CmplxMultReal n m n' m' h h' = mul-le-mul_left 2 h
block_cost_grows format c MagSquared n m n' m' h h' = mul-le-mul_left 2 h
block_cost_grows format c (Fir taps) n m n' m' h h' = times_more c n m (length taps) h
block_cost_grows format c (Sparse taps delays) n m n' m' h h' = times_more c n m (length taps) h
block_cost_grows format c (Decimate factor taps) n m n' m' h h' = times_more c n' m' (length taps) h'
block_cost_grows format c (Interpolate factor taps) n m n' m' h h' = times_more c n m (length taps) h
block_cost_grows format c (LatticeFir k) n m n' m' h h' = times_more c n m (2 * length k) h
block_cost_grows format c (LatticeIir k v) n m n' m' h h' = times_more c n m (3 * length k + 1) h
block_cost_grows format c (Biquad post_shift coefficients) n m n' m' h h' =
    times_more c n m (5 * section_count format coefficients) h
block_cost_grows format c (Biquad64 post_shift coefficients) n m n' m' h h' =
    times_more c n m (5 * section_count format coefficients) h
block_cost_grows format c (Conv taps) n m n' m' h h' = times_more c n' m' (length taps) h'
block_cost_grows format c (ConvPartial first count taps) n m n' m' h h' = times_more c n' m' (length taps) h'
block_cost_grows format c (Correlate taps) n m n' m' h h' = times_more c n m (length taps) h
block_cost_grows format c (Lms post_shift mu taps) n m n' m' h h' = mul-le-mul_right (2 * length taps + 1) h
block_cost_grows format c (Pid kp ki kd) n m n' m' h h' = times_more c n m 3 h
block_cost_grows format c (MatScale rows columns fract shift) n m n' m' h h' = mul-le-mul_left c h'
block_cost_grows format c (MatMult rows columns given matrix) n m n' m' h h' =
    mul-le-mul_right given (mul-le-mul_right columns (mul-le-mul_right rows
    (mul-le-mul_left c (quotient_more n m (rows * columns) h))))
block_cost_grows format c Power n m n' m' h h' = mul-le-mul_left c h
block_cost_grows format c Dot n m n' m' h h' = h
block_cost_grows format c CmplxDot n m n' m' h h' = mul-le-mul_left 4 h
block_cost_grows format c block n m n' m' h h' = omega arith

live_block_cost_within : (format : Fmt) (c : ℕ) (block : Block) (n m : ℕ) → n ≤ m →
    live_block_cost format c block n ≤ whole_block_cost format c block m
live_block_cost_within format c (Correlate taps) n m h = omega arith
live_block_cost_within format c block n m h = block_cost_grows format c block n m (live_frames block n)
    (given_frames block m) h (live_within_given block n m h)

-- ---- the cost of a chain

pub live_cost_within : (format : Fmt) (channels : ℕ) (blocks : List Block) (n m : ℕ) → n ≤ m →
    live_cost format channels blocks n ≤ cost format channels blocks m
live_cost_within format channels [] n m h = omega arith
live_cost_within format channels (block ∷ blocks) n m h =
    let here = live_block_cost_within format channels block n m h in
    let later = live_cost_within (format_after format block) (channels_after channels block) blocks
    (live_frames block n) (given_frames block m) (live_within_given block n m h) in
    omega (arith, here, later)

-- ---- the products of a correlation

-- those of its first values, where the greater length is m
abbrev products_at : ℕ → ℕ → ℕ → ℕ → ℕ
products_at m n t zero = 0
products_at m n t (suc i) = products_at m n t i + (min n (t + i + 1 - m) - (i + 1 - m))

products_are_at : (n t given : ℕ) → correlation_products n t given ≡ products_at (max n t) n t given
products_are_at n t zero = refl
products_are_at n t (suc i) = ap (λ k. k + (min n (t + i + 1 - max n t) - (i + 1 - max n t))) (products_are_at n t i)

-- one number more has a product in t of the values
next_number : (m n t i : ℕ) → t ≤ m → n < m → min (suc n) (t + i + 1 - m) - (i + 1 - m) + min (suc i) (n + m - t) +
    min i (n + m) ≡ min n (t + i + 1 - m) - (i + 1 - m) + min (suc i) (n + m) + min i (n + m - t)
next_number m n t i h k = omega (arith, h, k)

one_number : (m n t given : ℕ) → t ≤ m → n < m → products_at m (suc n) t given + min given (n + m - t) ≡ products_at m
    n t given + min given (n + m)
one_number m n t zero h k = omega arith
one_number m n t (suc i) h k =
    let earlier = one_number m n t i h k in
    let next = next_number m n t i h k in
    omega (arith, earlier, next)

no_number : (m t given : ℕ) → products_at m 0 t given ≡ 0
no_number m t zero = refl
no_number m t (suc i) = let earlier = no_number m t i in omega (arith, earlier)

all_numbers : (m n t : ℕ) → t ≤ m → n ≤ m → products_at m n t (2 * m - 1) ≡ n * t
all_numbers m zero t h k = no_number m t (2 * m - 1) ∙ omega arith
all_numbers m (suc n) t h k =
    let earlier = all_numbers m n t h (omega (arith, k)) in
    let next = one_number m n t (2 * m - 1) h (omega (arith, k)) in
    omega (arith, earlier, next, h, k)

some_values : (n t : ℕ) → correlation_length (suc n) t ≡ 2 * max (suc n) t - 1
some_values n t = grind (arith, common_steps)

-- all the values of a correlation have a product of each number with each tap
pub correlation_whole : (n t : ℕ) → correlation_products n t (correlation_length n t) ≡ n * t
correlation_whole zero t = (let none : 0 ≡ 0 * t = omega arith in none)
correlation_whole (suc n) t = ap (correlation_products (suc n) t) (some_values n t) ∙
    products_are_at (suc n) t (2 * max (suc n) t - 1) ∙ all_numbers (max (suc n) t) (suc n) t (omega arith)
    (omega arith)

correlation_grows : (n t given more : ℕ) → given ≤ more →
    correlation_products n t given ≤ correlation_products n t more
correlation_grows n t given zero h = subst (λ (k : ℕ). correlation_products n t k ≤ 0)
    (let none : 0 ≡ given = omega (arith, h) in none) (omega arith)
correlation_grows n t given (suc i) h = elim (nat_cases given i h) [
  | inl e ↦ subst (λ (k : ℕ). correlation_products n t k ≤ correlation_products n t (suc i)) (sym e) (omega arith)
  | inr fewer ↦ (let earlier = correlation_grows n t given i fewer in omega (arith, earlier))
]
  where
    nat_cases : (a b : ℕ) → a ≤ suc b → (a ≡ suc b) ⊎ (a ≤ b)
    nat_cases zero b h = inr (omega arith)
    nat_cases (suc a) zero h = inl (omega (arith, h))
    nat_cases (suc a) (suc b) h = elim (nat_cases a b (omega (arith, h))) [
      | inl e ↦ inl (ap suc e)
      | inr fewer ↦ inr (omega (arith, fewer))
    ]

-- ---- the cost so far

-- what a block has cost while its signal goes on
pub live_is_so_far : (format : Fmt) (c : ℕ) (block : Block) (n : ℕ) →
    cost_so_far format c block n n (live_frames block n) ≡ live_block_cost format c block n
live_is_so_far format c (Correlate taps) n = omega arith
live_is_so_far format c block n = refl

-- it grows with the values given
pub so_far_grows : (format : Fmt) (c : ℕ) (block : Block) (n given more : ℕ) → given ≤ more →
    cost_so_far format c block n n given ≤ cost_so_far format c block n n more
so_far_grows format c (Correlate taps) n given more h =
    mul-le-mul_left c (correlation_grows n (length taps) given more h)
so_far_grows format c block n given more h = block_cost_grows format c block n n given more (omega arith) h

-- and ends at the cost, where as many values are given as there are to be
whole_is_cost : (format : Fmt) (c : ℕ) (block : Block) (n : ℕ) → whole_frames block n ≡ given_frames block n →
    whole_products format c block n ≡ whole_block_cost format c block n
whole_is_cost format c (Correlate taps) n e = ap (λ k. c * k) (correlation_whole n (length taps)) ∙ omega arith
whole_is_cost format c block n e = ap (block_cost format c block n) e

pub products_are_cost : (format : Fmt) (channels : ℕ) (blocks : List Block) (n : ℕ) → window_at blocks n ≡ None →
    chain_products format channels blocks n ≡ cost format channels blocks n
products_are_cost format channels [] n none = refl
products_are_cost format channels (block ∷ blocks) n none =
    let cases = window_cases block blocks n none in
    let frames = whole_frames_are_given block n cases.0 in
    ap₂ (λ (here later : ℕ). here + later) (whole_is_cost format channels block n frames)
    (products_are_cost (format_after format block) (channels_after channels block) blocks (whole_frames block n) cases.1
    ∙ ap (cost (format_after format block) (channels_after channels block) blocks) frames)

-- ---- and of its products

pub full_more : (n m t : ℕ) → n ≤ m → full_length n t ≤ full_length m t
full_more n m t h = grind (arith, common_steps)

window_whole : (live count rest more : ℕ) → rest ≤ more → min live (min count rest) ≤ min count more
window_whole live count rest more h = omega (arith, h)

pub live_within_whole : (block : Block) (n m : ℕ) → n ≤ m → live_frames block n ≤ whole_frames block m
live_within_whole (Interpolate factor taps) n m h = mul-le-mul_right factor h
live_within_whole (Conv taps) n m h = live_conv_given n m (length taps) h
live_within_whole (ConvPartial first count taps) n m h =
    window_whole (n - first) count (full_length n (length taps) - first) (full_length m (length taps) - first)
    (omega (arith, full_more n m (length taps) h))
live_within_whole (Correlate taps) n m h = omega arith
live_within_whole block n m h = groups_more (group_of block) n m h

live_block_within_products : (format : Fmt) (c : ℕ) (block : Block) (n m : ℕ) → n ≤ m →
    live_block_cost format c block n ≤ whole_products format c block m
live_block_within_products format c (Correlate taps) n m h = omega arith
live_block_within_products format c block n m h = block_cost_grows format c block n m (live_frames block n)
    (whole_frames block m) h (live_within_whole block n m h)

pub live_cost_within_products : (format : Fmt) (channels : ℕ) (blocks : List Block) (n m : ℕ) → n ≤ m →
    live_cost format channels blocks n ≤ chain_products format channels blocks m
live_cost_within_products format channels [] n m h = omega arith
live_cost_within_products format channels (block ∷ blocks) n m h =
    let here = live_block_within_products format channels block n m h in
    let later = live_cost_within_products (format_after format block) (channels_after channels block) blocks
    (live_frames block n) (whole_frames block m) (live_within_whole block n m h) in
    omega (arith, here, later)

-- ---- no frames cost nothing

no_groups : (group : Option (ℕ × ℕ)) → groups_after group 0 ≡ 0
no_groups None = refl
no_groups (Some g) = ap (λ (n : ℕ). n * g.1) (zero-div g.0) ∙ omega arith

pub live_frames-zero : (block : Block) → live_frames block 0 ≡ 0
live_frames-zero (Interpolate factor taps) = omega arith
live_frames-zero (Conv taps) = omega arith
live_frames-zero (ConvPartial first count taps) = omega arith
live_frames-zero (Correlate taps) = refl
live_frames-zero block = no_groups (group_of block)

no_product : (c k : ℕ) → c * 0 * k ≡ 0
no_product c k = grind arith

block_cost-zero : (format : Fmt) (c : ℕ) (block : Block) → block_cost format c block 0 0 ≡ 0
block_cost-zero format c (Fir taps) = no_product c (length taps)
block_cost-zero format c (Sparse taps delays) = no_product c (length taps)
block_cost-zero format c (Decimate factor taps) = no_product c (length taps)
block_cost-zero format c (Interpolate factor taps) = no_product c (length taps)
block_cost-zero format c (LatticeFir k) = no_product c (2 * length k)
block_cost-zero format c (LatticeIir k v) = no_product c (3 * length k + 1)
block_cost-zero format c (Biquad post_shift coefficients) = no_product c (5 * section_count format coefficients)
block_cost-zero format c (Biquad64 post_shift coefficients) = no_product c (5 * section_count format coefficients)
block_cost-zero format c (Conv taps) = no_product c (length taps)
block_cost-zero format c (ConvPartial first count taps) = no_product c (length taps)
block_cost-zero format c (Correlate taps) = no_product c (length taps)
block_cost-zero format c (Lms post_shift mu taps) = omega arith
block_cost-zero format c (Pid kp ki kd) = no_product c 3
block_cost-zero format c (MatMult rows columns given matrix) =
    ap (λ (n : ℕ). c * n * rows * columns * given) (zero-div (rows * columns)) ∙ grind arith
block_cost-zero format c block = omega arith

live_block_cost-zero : (format : Fmt) (c : ℕ) (block : Block) → live_block_cost format c block 0 ≡ 0
live_block_cost-zero format c (Correlate taps) = refl
live_block_cost-zero format c block = ap (block_cost format c block 0) (live_frames-zero block) ∙
    block_cost-zero format c block

pub live_cost-zero : (format : Fmt) (channels : ℕ) (blocks : List Block) → live_cost format channels blocks 0 ≡ 0
live_cost-zero format channels [] = refl
live_cost-zero format channels (block ∷ blocks) =
    ap₂ (λ (here later : ℕ). here + later) (live_block_cost-zero format channels block)
    (ap (live_cost (format_after format block) (channels_after channels block) blocks) (live_frames-zero block) ∙
    live_cost-zero (format_after format block) (channels_after channels block) blocks)
