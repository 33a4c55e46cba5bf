-- More frames give more and take no fewer products, and a turn of a loop makes a product at least.
use Rattle.std.proofs.Common.{◌≡◌, ℕ, ◌+◌, ◌-◌, ◌*◌, ◌/◌, ◌≤◌, min, Bool, true, List, [], ◌∷◌, length, sym, subst}
use Rattle.std.proofs.Common.{arith}
use Rattle.std.proofs.lemmas.Grind.{common_steps}
use Rattle.std.proofs.Math.Nat.{mul-le-mul_left, mul-le-mul_right}
use Rattle.dsp_defs.specs.Sums.{full_length}
use Rattle.dsp_defs.specs.Shape.{group_of, correlation_length, live_frames, whole_frames}
use Rattle.dsp_defs.specs.Cost.{section_count, live_block_cost, live_cost, lane_turns, block_turns, unit_turns}
use Rattle.dsp_defs.specs.Kept.{IsTaken}
use Rattle.dsp_unit.specs.Unit.{UnitState, turns_of}
use Rattle.dsp_unit.specs.Line.{Place, place_after, blocks_of, InLine, AllTaken, line_turns}
use Rattle.dsp_defs.specs.declared.format.Fmt.{Fmt}
use Rattle.dsp_defs.specs.declared.format.Fmt.TheVariants.{Q7, Q15, Q31}
use Rattle.dsp_defs.specs.declared.script.Block.{Block}
use Rattle.dsp_defs.specs.declared.script.Block.TheVariants.{Fir, Sparse, Decimate, Interpolate, Biquad, Conv}
use Rattle.dsp_defs.specs.declared.script.Block.TheVariants.{ConvPartial, Correlate, Max, Min}
use Rattle.dsp_unit.proofs.CostLaws.{quotient_more, groups_more, full_more, live_within_whole, block_cost_grows}

-- ---- more frames

correlation_more : (n m t : ℕ) → n ≤ m → correlation_length n t ≤ correlation_length m t
correlation_more n m t h = grind (arith, common_steps)

window_more : (count rest more : ℕ) → rest ≤ more → min count rest ≤ min count more
window_more count rest more h = omega (arith, h)

pub whole_frames_more : (block : Block) (n m : ℕ) → n ≤ m → whole_frames block n ≤ whole_frames block m
whole_frames_more (Interpolate factor taps) n m h = mul-le-mul_right factor h
whole_frames_more (Conv taps) n m h = full_more n m (length taps) h
whole_frames_more (ConvPartial first count taps) n m h =
    window_more count (full_length n (length taps) - first) (full_length m (length taps) - first)
    (omega (arith, full_more n m (length taps) h))
whole_frames_more (Correlate taps) n m h = correlation_more n m (length taps) h
whole_frames_more block n m h = groups_more (group_of block) n m h

live_conv_more : (n m given more : ℕ) → n ≤ m → given ≤ more → min n given ≤ min m more
live_conv_more n m given more h k = omega (arith, h, k)

pub live_frames_more : (block : Block) (n m : ℕ) → n ≤ m → live_frames block n ≤ live_frames block m
live_frames_more (Interpolate factor taps) n m h = mul-le-mul_right factor h
live_frames_more (Conv taps) n m h = live_conv_more n m (full_length n (length taps)) (full_length m (length taps)) h
    (full_more n m (length taps) h)
live_frames_more (ConvPartial first count taps) n m h =
    live_conv_more (n - first) (m - first) (min count (full_length n (length taps) - first))
    (min count (full_length m (length taps) - first)) (omega (arith, h))
    (window_more count (full_length n (length taps) - first) (full_length m (length taps) - first)
    (omega (arith, full_more n m (length taps) h)))
live_frames_more (Correlate taps) n m h = omega arith
live_frames_more block n m h = groups_more (group_of block) n m h

-- ---- the limits of what is taken

taken_fewer : (block : Block) (n m : ℕ) → n ≤ m → IsTaken block m → IsTaken block n
taken_fewer (Correlate taps) n m h taken = omega (arith, h, taken)
taken_fewer Max n m h taken = omega (arith, h, taken)
taken_fewer Min n m h taken = omega (arith, h, taken)
taken_fewer block n m h taken = tt

pub all_taken_fewer : (blocks : List Block) (n m : ℕ) → n ≤ m → AllTaken blocks m → AllTaken blocks n
all_taken_fewer [] n m h taken = tt
all_taken_fewer (block ∷ blocks) n m h taken = (
  taken_fewer block n m h taken.0,
  all_taken_fewer blocks (whole_frames block n) (whole_frames block m)
      (whole_frames_more block n m h) taken.1,
)

-- what is given while a signal goes on is within the limits of the whole one
pub taken_live : (block : Block) (blocks : List Block) (n : ℕ) → AllTaken (block ∷ blocks) n →
    AllTaken blocks (live_frames block n)
taken_live block blocks n taken = all_taken_fewer blocks (live_frames block n) (whole_frames block n)
    (live_within_whole block n n (omega arith)) taken.1

-- ---- turns

lane_turns_within : (format : Fmt) (n : ℕ) → lane_turns format n ≤ n
lane_turns_within Q7 n = omega arith
lane_turns_within Q15 n = omega arith
lane_turns_within Q31 n = omega arith

live_block_cost_more : (format : Fmt) (c : ℕ) (block : Block) (n m : ℕ) → n ≤ m →
    live_block_cost format c block n ≤ live_block_cost format c block m
live_block_cost_more format c (Correlate taps) n m h = omega arith
live_block_cost_more format c block n m h = block_cost_grows format c block n m (live_frames block n)
    (live_frames block m) h (live_frames_more block n m h)

split_cost : (c t m k : ℕ) → c * (m + k) * t ≡ c * t * k + c * m * t
split_cost c t m k = omega arith

-- turns of so many taps over at most n - m values
of_values : (c t m n turns : ℕ) → m ≤ n → turns ≤ n - m → c * t * turns + c * m * t ≤ c * n * t
of_values c t m n turns h few =
    let more : n ≡ m + (n - m) = omega (arith, h) in
    let bound : c * t * turns ≤ c * t * (n - m) = mul-le-mul_left (c * t) few in
    let cost : c * (m + (n - m)) * t ≡ c * t * (n - m) + c * m * t = split_cost c t m (n - m) in
    subst (λ (k : ℕ). c * t * turns + c * m * t ≤ c * k * t) (sym more) (omega (arith, bound, cost))

-- turns of so many values over the taps
of_taps : (c t m n turns : ℕ) → m ≤ n → turns ≤ t → c * (n - m) * turns + c * (m * 1) * t ≤ c * (n * 1) * t
of_taps c t m n turns h few =
    let more : n ≡ m + (n - m) = omega (arith, h) in
    let bound : c * (n - m) * turns ≤ c * (n - m) * t = mul-le-mul_left (c * (n - m)) few in
    let cost : c * ((m + (n - m)) * 1) * t ≡ c * (n - m) * t + c * (m * 1) * t = parts c t m (n - m) in
    subst (λ (k : ℕ). c * (n - m) * turns + c * (m * 1) * t ≤ c * (k * 1) * t) (sym more) (omega (arith, bound, cost))
  where
    parts : (c t m k : ℕ) → c * ((m + k) * 1) * t ≡ c * k * t + c * (m * 1) * t
    parts c t m k = omega arith

block_turns_within : (format : Fmt) (c : ℕ) (block : Block) (m n : ℕ) → m ≤ n →
    block_turns format c block m n + live_block_cost format c block m ≤ live_block_cost format c block n
block_turns_within format c (Fir taps) m n h = of_values c (length taps) m n (lane_turns format (n - m)) h
    (lane_turns_within format (n - m))
block_turns_within format c (Sparse taps delays) m n h =
    of_values c (length taps) m n (lane_turns format (n - m)) h (lane_turns_within format (n - m))
block_turns_within format c (Conv taps) m n h =
    let given = live_frames (Conv taps) in
    of_values c (length taps) (given m) (given n) (lane_turns format (given n - given m))
    (live_frames_more (Conv taps) m n h) (lane_turns_within format (given n - given m))
block_turns_within format c (Interpolate factor taps) m n h =
    of_values c (length taps) m n (lane_turns format (n - m)) h (lane_turns_within format (n - m))
block_turns_within format c (Decimate factor taps) m n h =
    of_taps c (length taps) (m / factor) (n / factor) (lane_turns format (length taps)) (quotient_more m n factor h)
    (lane_turns_within format (length taps))
block_turns_within format c block m n h = omega (arith, live_block_cost_more format c block m n h)

-- a bank takes no more turns than it makes products
bank_turns : (s k t c : ℕ) → t ≤ c → 5 * s * k * t ≤ c * k * (5 * s)
bank_turns s k t c h =
    let bound : 5 * s * k * t ≤ 5 * s * k * c = mul-le-mul_left (5 * s * k) h in
    omega (arith, bound)

pub unit_turns_within : (banked : Bool) (format : Fmt) (c : ℕ) (block : Block) (m n : ℕ) → m ≤ n →
    unit_turns banked format c block m n + live_block_cost format c block m ≤ live_block_cost format c block n
unit_turns_within true format c (Biquad post_shift coefficients) m n h =
    let bound = bank_turns (section_count format coefficients) (n - m) (lane_turns format c) c
    (lane_turns_within format c) in
    let more : n ≡ m + (n - m) = omega (arith, h) in
    let cost : c * (m + (n - m)) * (5 * section_count format coefficients) ≡ c * (n - m) *
    (5 * section_count format coefficients) + c * m * (5 * section_count format coefficients) = omega arith in
    subst (λ (k : ℕ). 5 * section_count format coefficients * (n - m) * lane_turns format c + c * m *
    (5 * section_count format coefficients) ≤ c * k * (5 * section_count format coefficients)) (sym more)
    (omega (arith, bound, cost))
unit_turns_within banked format c block m n h = block_turns_within format c block m n h

-- the turns of a line are no more than its products
pub line_turns_within : (p : Place) (us : List UnitState) (m n : ℕ) → InLine p us → m ≤ n →
    line_turns us m n + live_cost p.format p.channels (blocks_of us) m ≤ live_cost p.format p.channels (blocks_of us) n
line_turns_within p [] m n line h = omega arith
line_turns_within p (u ∷ us) m n line h =
    let here : turns_of u m n + live_block_cost p.format p.channels u.block m ≤ live_block_cost p.format p.channels
    u.block n = rw (line.0.format, line.0.channels) (unit_turns_within u.banked p.format p.channels u.block m n h)
    in
    let later = line_turns_within (place_after p u.block) us (live_frames u.block m) (live_frames u.block n) line.1
    (live_frames_more u.block m n h) in
    omega (arith, here, later)
