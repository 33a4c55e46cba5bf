-- Numbers of 32 bits times a power of two, saturated, in lanes: what is too great becomes the least number, less 1.
use Rattle.std.proofs.Common.{ℕ, ◌≡◌, ◌<◌, ◌≤◌, ◌+◌, ◌-◌, ◌*◌, ◌/◌, ◌^◌, suc, List, length, map, replicate, refl, sym}
use Rattle.std.proofs.Common.{ap}
use Rattle.std.proofs.Common.{◌∙◌, arith, w32, zero, Bool, true, false, cond, pow_mono}
use Rattle.std.proofs.lemmas.Int.{ints, to_z-of_z, int_wrap_fits, SFits-int_wrap, int_wrap-mul_right}
use Rattle.std.proofs.lemmas.Simd.{map-map, Each1-replicate, zip2_splat_left, zip2-map}
use Rattle.std.proofs.Math.Nat.{mul-le-mul_right, mul-le-mul_left}
use Rattle.std.specs.Prelude.{ℤ, pos, negsuc, ◌+ℤ◌, ◌-ℤ◌, ◌*ℤ◌, ◌≤ℤ◌, nat_lt}
use Rattle.std.specs.Int.{int_wrap, saturate_to_bits}
use native.Mathlib.Nat.{suc-mul}
use lib.Lanes.{zip2, Each1}
use lib.Signed.{shr_z, lt_z}
use mir.Syntax.{wrap_sub}
use mir.Val.{SFits, to_z, of_z}
use borrow.Table.Row.{s_int}
use borrow.Rule.Simd.Lanes.{act2}
use Rattle.dsp_lanes.proofs.LaneOps.{bits_of, splat_bits, ints_of_bits, lesser, greater, least_are, most_are, least}
use Rattle.dsp_lanes.proofs.LaneOps.{most}
use Rattle.dsp_lanes.proofs.LaneOps.{added, subtracted, shifted, shifted_up_by, least_fits, saturated_fits, length-map}
use Rattle.dsp_lanes.proofs.LaneOps.{Each1-map, map-same, each_shift_fits, shift_fits}
use Rattle.dsp_defs.specs.Elementwise.{shift_in, IsScaleShift}
use Rattle.dsp_defs.specs.declared.format.Fmt.TheVariants.{Q31}
use Rattle.dsp_lanes.proofs.LaneSums.{plus_in}
use Rattle.dsp_lanes.proofs.LaneClosings.{down_in, up_in}
use Rattle.dsp_lanes.proofs.HighProducts.{high_fits}

-- ---- one number
abbrev kept : ℕ → ℤ → ℤ
kept m h = most (least h (pos (suc m))) (negsuc m)

abbrev closed : ℕ → ℕ → ℤ → ℤ
closed k m u = int_wrap w32 (int_wrap w32 (u *ℤ pos (2 ^ k)) +ℤ shr_z (int_wrap w32 (pos m -ℤ u)) (2 ^ 31))

greatest_is : int_wrap w32 (int_wrap w32 (pos (2 ^ 31)) +ℤ shr_z (int_wrap w32 (negsuc 0)) (2 ^ 31)) ≡ pos (2 ^ 31 - 1)
unfolding int_wrap
greatest_is = refl

module _ (k m : ℕ) (some : 1 ≤ k) (room : suc m * 2 ^ k ≡ 2 ^ 31) where
  too_great : closed k m (pos (suc m)) ≡ pos (2 ^ 31 - 1)
  too_great =
      let below : pos m -ℤ pos (suc m) ≡ negsuc 0 = omega (arith, ints) in
      (λ i. int_wrap w32 (int_wrap w32 (pos (room i)) +ℤ shr_z (int_wrap w32 (below i)) (2 ^ 31))) ∙ greatest_is

  pub small : suc m ≤ 2 ^ 30
  small =
      let two : 2 ^ 1 ≤ 2 ^ k = pow_mono some in
      let twice = mul-le-mul_left (suc m) two in
      omega (arith, room, twice)

  within : (u : ℤ) → SFits w32 (u *ℤ pos (2 ^ k)) → (d : ℕ) → pos m -ℤ u ≡ pos d → d < 2 ^ 31 → closed k m u ≡ u *ℤ
      pos (2 ^ k)
  within u f d far few =
      let p = u *ℤ pos (2 ^ k) in
      let fit : SFits w32 (pos d) = omega (arith, ints) in
      let none : d / 2 ^ 31 ≡ 0 = omega arith in
      let end : p +ℤ pos 0 ≡ p = omega (arith, ints) in
      (λ i. int_wrap w32 (int_wrap_fits w32 p f i +ℤ shr_z (int_wrap w32 (far i)) (2 ^ 31)))
      ∙ ap (λ z. int_wrap w32 (p +ℤ shr_z z (2 ^ 31))) (int_wrap_fits w32 (pos d) fit)
      ∙ ap (λ q. int_wrap w32 (p +ℤ pos q)) none
      ∙ ap (int_wrap w32) end
      ∙ int_wrap_fits w32 p f

  -- the number by its sign
  closes : (h : ℤ) → SFits w32 h → closed k m (kept m h) ≡ saturate_to_bits 31 (h *ℤ pos (2 ^ k))
  closes (pos a) f = by (nat_lt a (suc m)) refl
    where
      by : (t : Bool) → nat_lt a (suc m) ≡ t → closed k m (kept m (pos a)) ≡ saturate_to_bits 31 (pos a *ℤ pos (2 ^ k))
      by true e =
          let is : kept m (pos a) ≡ pos a = grind (arith, ints, e) in
          let less : suc a ≤ suc m = grind (arith, e) in
          let more = mul-le-mul_right (2 ^ k) less in
          let next = suc-mul a (2 ^ k) in
          let one : 2 ^ 1 ≤ 2 ^ k = pow_mono some in
          let fit : SFits w32 (pos (a * 2 ^ k)) = omega (arith, ints, more, room, next, one) in
          ap (closed k m) is ∙ within (pos a) fit (m - a) (omega (arith, ints, less)) (omega (arith, small)) ∙
          grind (arith, ints, more, room, next, one)
      by false e =
          let is : kept m (pos a) ≡ pos (suc m) = grind (arith, ints, e) in
          let less : suc m ≤ a = grind (arith, e) in
          let more = mul-le-mul_right (2 ^ k) less in
          ap (closed k m) is ∙ too_great ∙ grind (arith, ints, more, room)
  closes (negsuc a) f = by (nat_lt m a) refl
    where
      by : (t : Bool) → nat_lt m a ≡ t → closed k m (kept m (negsuc a)) ≡ saturate_to_bits 31
          (negsuc a *ℤ pos (2 ^ k))
      by true e =
          let is : kept m (negsuc a) ≡ negsuc m = grind (arith, ints, e) in
          let less : suc m ≤ suc a = grind (arith, e) in
          let more = mul-le-mul_right (2 ^ k) less in
          let least_is : negsuc m *ℤ pos (2 ^ k) ≡ negsuc (2 ^ 31 - 1) = omega (arith, ints, room) in
          let fit : SFits w32 (negsuc m *ℤ pos (2 ^ k)) = omega (arith, ints, room) in
          ap (closed k m) is ∙ within (negsuc m) fit (m + suc m) (omega (arith, ints)) (omega (arith, small)) ∙
          least_is ∙ grind (arith, ints, more, room)
      by false e =
          let is : kept m (negsuc a) ≡ negsuc a = grind (arith, ints, e) in
          let less : suc a ≤ suc m = grind (arith, e) in
          let more = mul-le-mul_right (2 ^ k) less in
          let fit : SFits w32 (negsuc a *ℤ pos (2 ^ k)) = omega (arith, ints, more, room) in
          ap (closed k m) is ∙ within (negsuc a) fit (m + suc a) (omega (arith, ints)) (omega (arith, small, less)) ∙
          grind (arith, ints, more, room)

-- ---- the bits of the power
top_bit : of_z w32 (int_wrap w32 (pos (2 ^ 31))) ≡ 2 ^ 31
unfolding int_wrap
top_bit = refl

power_bits : (k : ℕ) → k ≤ 31 → of_z w32 (int_wrap w32 (pos (2 ^ k))) ≡ 2 ^ k
power_bits k few = by (nat_lt k 31) refl
  where
    by : (t : Bool) → nat_lt k 31 ≡ t → of_z w32 (int_wrap w32 (pos (2 ^ k))) ≡ 2 ^ k
    by true e =
        let less : k ≤ 30 = grind (arith, e) in
        let power : 2 ^ k ≤ 2 ^ 30 = pow_mono less in
        ap (of_z w32) (int_wrap_fits w32 (pos (2 ^ k)) (omega (arith, ints, power)))
    by false e =
        let is : k ≡ 31 = grind (arith, e) in
        ap (λ n. of_z w32 (int_wrap w32 (pos (2 ^ n)))) is ∙ top_bit ∙ ap (λ n. 2 ^ n) (sym is)

-- ---- lanes
abbrev pub minus_in : ℕ → ℕ → ℕ
minus_in = act2 wrap_sub (s_int w32) (s_int w32) (s_int w32)

abbrev kept_lanes : ℕ → ℕ → List ℤ → List ℕ
kept_lanes n m xs = greater w32 (lesser w32 (bits_of w32 xs) (replicate n (of_z w32 (to_z w32 m +ℤ pos 1))))
    (replicate n (2 ^ 32 - suc m))

abbrev grown_lanes : ℕ → ℕ → ℕ → List ℤ → List ℕ
grown_lanes n k m xs = zip2 (plus_in w32) (zip2 (up_in w32) (kept_lanes n m xs) (replicate n k))
    (zip2 (down_in w32) (zip2 minus_in (replicate n m) (kept_lanes n m xs)) (replicate n 31))

pub most_fits : (w c : ℤ) → SFits w32 w → SFits w32 c → SFits w32 (most w c)
most_fits w c f g = by (lt_z w c)
  where
    by : (t : Bool) → SFits w32 (cond t c w)
    by true = g
    by false = f

module _ (n k m : ℕ) (xs : List ℤ) (some : 1 ≤ k) (few : k ≤ 31) (room : suc m * 2 ^ k ≡ 2 ^ 31)
    (long : length xs ≡ n) (f : Each1 (SFits w32) xs) where
  abbrev us : List ℤ
  us = map (kept m) xs

  top_fits : SFits w32 (pos (suc m))
  top_fits = omega (arith, ints, small k m some room)

  end_fits : SFits w32 (negsuc m)
  end_fits = omega (arith, ints, small k m some room)

  us_fit : Each1 (SFits w32) us
  us_fit = Each1-map (SFits w32) (SFits w32) (kept m) (λ h q. most_fits (least h (pos (suc m))) (negsuc m)
      (least_fits w32 (pos (suc m)) h top_fits q) end_fits) xs f

  us_long : length us ≡ n
  us_long = length-map (kept m) xs ∙ long

  kept_are : kept_lanes n m xs ≡ bits_of w32 us
  kept_are =
      let low = small k m some room in
      let next : to_z w32 m +ℤ pos 1 ≡ pos (suc m) = omega (arith, ints, low) in
      let cut : ℤ → ℤ = λ x. least x (pos (suc m)) in
      (λ i. greater w32 (lesser w32 (bits_of w32 xs) (replicate n (of_z w32 (next i)))) (replicate n (2 ^ 32 - suc m)))
      ∙ ap (λ l. greater w32 l (replicate n (2 ^ 32 - suc m))) (least_are w32 n (pos (suc m)) xs long f top_fits)
      ∙ most_are w32 n (negsuc m) (map cut xs) (length-map cut xs ∙ long)
      (Each1-map (SFits w32) (SFits w32) cut (λ h q. least_fits w32 (pos (suc m)) h top_fits q) xs f) end_fits
      ∙ ap (bits_of w32) (map-map (λ x. most x (negsuc m)) cut xs)

  abbrev ups : ℤ → ℤ
  ups u = int_wrap w32 (u *ℤ pos (2 ^ k))

  abbrev gaps : ℤ → ℤ
  gaps u = int_wrap w32 (pos m -ℤ u)

  raised_are : zip2 (up_in w32) (bits_of w32 us) (replicate n k) ≡ bits_of w32 (map ups us)
  raised_are =
      let b = int_wrap w32 (pos (2 ^ k)) in
      shifted_up_by w32 b n k us us_long us_fit (SFits-int_wrap w32 (pos (2 ^ k))) (power_bits k few)
      ∙ ap (bits_of w32) (map-same (SFits w32) (λ u. int_wrap w32 (u *ℤ b)) ups
      (λ u q. int_wrap-mul_right w32 u (pos (2 ^ k))) us us_fit)

  signs_are : zip2 (down_in w32) (zip2 minus_in (replicate n m) (bits_of w32 us)) (replicate n 31) ≡ bits_of w32
      (map (λ u. shr_z (gaps u) (2 ^ 31)) us)
  signs_are =
      let m_fits : SFits w32 (pos m) = omega (arith, ints, small k m some room) in
      let apart : zip2 minus_in (replicate n m) (bits_of w32 us) ≡ bits_of w32 (map gaps us) =
      ap (λ l. zip2 minus_in l (bits_of w32 us)) (splat_bits w32 n (pos m))
      ∙ subtracted w32 (replicate n (pos m)) us (Each1-replicate (SFits w32) n (pos m) m_fits) us_fit
      ∙ ap (bits_of w32) (zip2_splat_left (λ a b. int_wrap w32 (a -ℤ b)) (pos m) n us us_long) in
      ap (λ l. zip2 (down_in w32) l (replicate n 31)) apart
      ∙ shifted w32 n 31 (map gaps us) (length-map gaps us ∙ us_long)
      (Each1-map (SFits w32) (SFits w32) gaps (λ u q. SFits-int_wrap w32 (pos m -ℤ u)) us us_fit)
      ∙ ap (bits_of w32) (map-map (λ z. shr_z z (2 ^ 31)) gaps us)

  abbrev grown : ℤ → ℤ
  grown h = saturate_to_bits 31 (h *ℤ pos (2 ^ k))

  pub grown_are : map (to_z w32) (grown_lanes n k m xs) ≡ map (λ h. saturate_to_bits 31 (h *ℤ pos (2 ^ k))) xs
  grown_are =
      let downs : ℤ → ℤ = λ u. shr_z (gaps u) (2 ^ 31) in
      let downs_fit = Each1-map (SFits w32) (SFits w32) downs (λ u q. shift_fits w32 31 (gaps u)
      (SFits-int_wrap w32 (pos m -ℤ u))) us us_fit in
      let ups_fit = Each1-map (SFits w32) (SFits w32) ups (λ u q. SFits-int_wrap w32 (u *ℤ pos (2 ^ k))) us us_fit in
      ap (map (to_z w32)) (
      (λ i. zip2 (plus_in w32) (zip2 (up_in w32) (kept_are i) (replicate n k))
      (zip2 (down_in w32) (zip2 minus_in (replicate n m) (kept_are i)) (replicate n 31)))
      ∙ (λ i. zip2 (plus_in w32) (raised_are i) (signs_are i))
      ∙ added w32 (map ups us) (map downs us) ups_fit downs_fit
      ∙ ap (bits_of w32) (zip2-map (λ a b. int_wrap w32 (a +ℤ b)) ups downs us ∙ map-map (closed k m) (kept m) xs ∙
      map-same (SFits w32) (λ h. closed k m (kept m h)) grown (closes k m some room) xs f))
      ∙ ints_of_bits w32 (map grown xs)
      (Each1-map (SFits w32) (SFits w32) grown (λ h q. saturated_fits w32 (h *ℤ pos (2 ^ k))) xs f)

  pub grown_fit : Each1 (SFits w32) (map (λ h. saturate_to_bits 31 (h *ℤ pos (2 ^ k))) xs)
  grown_fit = Each1-map (SFits w32) (SFits w32) grown (λ h q. saturated_fits w32 (h *ℤ pos (2 ^ k))) xs f

-- ---- down
pub lowered_are : (n : ℕ) (s : ℤ) (xs : List ℤ) → negsuc 29 ≤ℤ s → s ≤ℤ pos 0 → length xs ≡ n → Each1 (SFits w32) xs
    → map (to_z w32) (zip2 (down_in w32) (bits_of w32 xs) (replicate n (of_z w32 (pos 0 -ℤ s)))) ≡ map
    (λ h. shift_in 32 h s) xs
lowered_are n (pos zero) xs low high long f =
    ap (map (to_z w32)) (shifted w32 n 0 xs long f)
    ∙ ints_of_bits w32 (map (λ h. shr_z h (2 ^ 0)) xs) (each_shift_fits w32 0 xs f)
    ∙ map-same (SFits w32) (λ h. shr_z h (2 ^ 0)) (λ h. shift_in 32 h (pos zero)) same xs f
  where
    same : (h : ℤ) → SFits w32 h → shr_z h (2 ^ 0) ≡ saturate_to_bits 31 (h *ℤ pos (2 ^ 0))
    same (pos a) q = grind (arith, ints)
    same (negsuc a) q = grind (arith, ints)
lowered_are n (pos (suc a)) xs low high long f = absurd (omega (arith, ints, high))
lowered_are n (negsuc a) xs low high long f =
    let places : 0 + suc a ≡ suc a = omega arith in
    ap (λ k. map (to_z w32) (zip2 (down_in w32) (bits_of w32 xs) (replicate n k))) places
    ∙ ap (map (to_z w32)) (shifted w32 n (suc a) xs long f)
    ∙ ints_of_bits w32 (map (λ h. shr_z h (2 ^ suc a)) xs) (each_shift_fits w32 (suc a) xs f)

-- ---- either way
moved_fit : (s : ℤ) (xs : List ℤ) → Each1 (SFits w32) xs → Each1 (SFits w32) (map (λ h. shift_in 32 h s) xs)
moved_fit s xs f = Each1-map (SFits w32) (SFits w32) (λ h. shift_in 32 h s) (one s) xs f
  where
    one : (s h : ℤ) → SFits w32 h → SFits w32 (shift_in 32 h s)
    one (pos k) h q = saturated_fits w32 (h *ℤ pos (2 ^ k))
    one (negsuc k) h q = shift_fits w32 (suc k) h q

-- the high words hs of the products of xs and a number, moved, as they are stored
pub scaled_are : (s t : ℤ) (xs hs ms : List ℤ) → Each1 (SFits w32) xs → SFits w32 t →
    hs ≡ map (λ x. shr_z (x *ℤ t) (2 ^ 32)) xs → ms ≡ map (λ h. shift_in 32 h s) hs
    → map (to_z w32) (bits_of w32 ms) ≡ map (λ x. shift_in 32 (shr_z (x *ℤ t) (2 ^ 32)) s) xs
scaled_are s t xs hs ms f g high_is is =
    let high : ℤ → ℤ = λ x. shr_z (x *ℤ t) (2 ^ 32) in
    let fit = Each1-map (SFits w32) (SFits w32) high (λ x q. high_fits x t q g) xs f in
    let all : ms ≡ map (λ h. shift_in 32 h s) (map high xs) = is ∙ ap (map (λ h. shift_in 32 h s)) high_is in
    ap (λ l. map (to_z w32) (bits_of w32 l)) all
    ∙ ints_of_bits w32 (map (λ h. shift_in 32 h s) (map high xs)) (moved_fit s (map high xs) fit)
    ∙ map-map (λ h. shift_in 32 h s) high xs

-- the places of `scale`, for the high word of a product
pub next_is : (s : ℤ) → SFits w32 s → IsScaleShift Q31 s →
    to_z w32 (of_z w32 (to_z w32 (of_z w32 s) +ℤ pos 1)) ≡ s +ℤ pos 1
next_is s f r = grind (arith, ints, to_z-of_z)
