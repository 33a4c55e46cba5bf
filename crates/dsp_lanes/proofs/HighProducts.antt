-- The high 32 bits of products of 32-bit samples, in lanes of 64 bits.
use Rattle.std.proofs.Common.{ℕ, zero, suc, ◌≡◌, ◌≤◌, ◌+◌, ◌-◌, ◌^◌, List, [], ◌∷◌, length, map, replicate, refl, sym}
use Rattle.std.proofs.Common.{ap, subst, ◌∙◌, arith, w32, w64, lit<}
use Rattle.std.proofs.lemmas.Int.{ints, int_wrap_fits}
use Rattle.std.proofs.lemmas.Simd.{length-chunk, length-zip2, zip2_splat, map-map, Each1-replicate, length-replicate}
use Rattle.std.proofs.lemmas.List.{map-id}
use Rattle.std.specs.Prelude.{ℤ, pos, negsuc, ◌+ℤ◌, ◌*ℤ◌}
use Rattle.std.specs.Int.{int_wrap, saturate_to_bits}
use Rattle.std.specs.List.{All}
use lib.Lanes.{zip2, chunk, Each1}
use lib.Signed.{shr_z}
use mir.Val.{SFits, to_z, of_z}
use Rattle.dsp_sat.proofs.Words.{product_shift_fits}
use Rattle.dsp_lanes.proofs.LaneOps.{splat_bits, bits_of, ints_of_bits, cast_lanes, widened, casts_asked, casts_are}
use Rattle.dsp_lanes.proofs.LaneOps.{each_widens, each_pair, group_fits, lesser, greater, saturates_to}
use Rattle.dsp_lanes.proofs.LaneOps.{shifted, added, each_shift_fits, Each1-map}
use Rattle.dsp_lanes.proofs.LaneOps.{map-same, map-zip2, length-map}
use Rattle.dsp_lanes.proofs.LaneSums.{plus_in, times_in, products_in, raised_fit}
use Rattle.dsp_lanes.proofs.LaneClosings.{Castable, down_in, low_lanes, low_lanes_are, words_fit}

abbrev pub high_lanes : ℕ → List ℤ → List ℤ → List ℕ
high_lanes n xs ys = zip2 (down_in w64) (zip2 (times_in w64) (widened w32 w64 xs) (widened w32 w64 ys)) (replicate n 32)

abbrev pub high : ℤ → ℤ → ℤ
high x y = shr_z (x *ℤ y) (2 ^ 32)

pub high_fits : (x y : ℤ) → SFits w32 x → SFits w32 y → SFits w32 (high x y)
high_fits x y f g = product_shift_fits w32 w32 w32 x y 32 f g (lit< tt)

pub highs_are : (n : ℕ) (xs ys : List ℤ) → length xs ≡ n → length ys ≡ n → Each1 (SFits w32) xs → Each1 (SFits w32) ys
    → (high_lanes n xs ys ≡ bits_of w64 (zip2 high xs ys)) × Each1 (SFits w32) (zip2 high xs ys)
highs_are n xs ys long_x long_y f g =
    let made = products_in w32 w64 (omega arith) (omega arith) xs ys f g in
    let long : length (zip2 (λ x y. x *ℤ y) xs ys) ≡ n = length-zip2 (λ x y. x *ℤ y) xs ys (omega arith) ∙ long_x in (
      ap (λ l. zip2 (down_in w64) l (replicate n 32)) made.0
          ∙ shifted w64 n 32 (zip2 (λ x y. x *ℤ y) xs ys) long made.1
          ∙ ap (bits_of w64) (map-zip2 (λ z. shr_z z (2 ^ 32)) (λ x y. x *ℤ y) xs ys),
      each_pair (SFits w32) (SFits w32) high high_fits xs ys f g,
    )

-- numbers of 32 bits, in lanes of 64, that are cast
pub casts_down : (lanes : List ℕ) (xs : List ℤ) → lanes ≡ bits_of w64 xs → Each1 (SFits w32) xs
    → Castable w64 w32 lanes × (map (to_z w32) (cast_lanes w64 w32 lanes) ≡ xs)
casts_down lanes xs e f =
    let wide = each_widens w32 w64 (omega arith) xs f in (
      subst (λ (l : List ℕ). Castable w64 w32 l) (sym e) (casts_asked w64 w32 xs wide f),
      ap (λ l. map (to_z w32) (cast_lanes w64 w32 l)) e ∙ ap (map (to_z w32)) (casts_are w64 w32 xs wide) ∙
          ints_of_bits w32 xs f,
    )

-- ---- closing
pub closes_31 : (n : ℕ) (xs : List ℤ) → length xs ≡ n → Each1 (SFits w64) xs
    → Castable w64 w32 (low_lanes n (zip2 (down_in w64) (bits_of w64 xs) (replicate n 31)))
    × (map (to_z w32) (cast_lanes w64 w32 (low_lanes n (zip2 (down_in w64) (bits_of w64 xs) (replicate n 31)))) ≡ map
    (λ x. int_wrap w32 (shr_z (int_wrap w64 x) (2 ^ 31))) xs)
closes_31 n xs long f =
    let down : ℤ → ℤ = λ x. shr_z x (2 ^ 31) in
    let moved = map down xs in
    let low = low_lanes_are n (zip2 (down_in w64) (bits_of w64 xs) (replicate n 31)) moved
    (shifted w64 n 31 xs long f) (length-map down xs ∙ long) (each_shift_fits w64 31 xs f) in
    let cast = casts_down _ (map (int_wrap w32) moved) low (words_fit moved) in (
      cast.0,
      cast.1 ∙ map-map (int_wrap w32) down xs ∙ map-same (SFits w64) (λ x. int_wrap w32 (down x))
          (λ x. int_wrap w32 (down (int_wrap w64 x))) (λ x h. ap (λ z. int_wrap w32 (down z))
          (sym (int_wrap_fits w64 x h))) xs f,
    )

-- ---- `mult`
doubled_fits : (h : ℤ) → SFits w32 (pos 2 *ℤ saturate_to_bits 30 h)
doubled_fits (pos n) = grind (arith, ints)
doubled_fits (negsuc n) = grind (arith, ints)

doubled_is : (h : ℤ) → int_wrap w32 (saturate_to_bits 30 h +ℤ saturate_to_bits 30 h) ≡ pos 2 *ℤ saturate_to_bits 30 h
doubled_is h =
    let z = saturate_to_bits 30 h in
    ap (int_wrap w32) (twice_is z) ∙ int_wrap_fits w32 (pos 2 *ℤ z) (doubled_fits h)
  where
    twice_is : (z : ℤ) → z +ℤ z ≡ pos 2 *ℤ z
    twice_is z = omega (arith, ints)

pub zip2-self : (f : ℤ → ℤ → ℤ) (xs : List ℤ) → zip2 f xs xs ≡ map (λ x. f x x) xs
zip2-self f [] = refl
zip2-self f (x ∷ xs) = ap (λ l. f x x ∷ l) (zip2-self f xs)

each_doubled : (xs : List ℤ) → Each1 (SFits w32) (map (λ h. pos 2 *ℤ saturate_to_bits 30 h) xs)
each_doubled [] = tt
each_doubled (x ∷ xs) = (doubled_fits x, each_doubled xs)

each_saturated : (xs : List ℤ) → Each1 (SFits w32) (map (saturate_to_bits 30) xs)
each_saturated [] = tt
each_saturated (x ∷ xs) = (fits_30 x, each_saturated xs)
  where
    fits_30 : (h : ℤ) → SFits w32 (saturate_to_bits 30 h)
    fits_30 (pos n) = grind (arith, ints)
    fits_30 (negsuc n) = grind (arith, ints)

abbrev limited : ℕ → List ℕ → List ℕ
limited n lanes = greater w32 (lesser w32 lanes (replicate n (of_z w32 (pos (2 ^ 30 - 1)))))
    (replicate n (of_z w32 (negsuc (2 ^ 30 - 1))))

abbrev doubled_lanes : ℕ → List ℕ → List ℕ
doubled_lanes n lanes = zip2 (plus_in w32) (limited n lanes) (limited n lanes)

doubles : (n : ℕ) (lanes : List ℕ) (xs : List ℤ) → lanes ≡ bits_of w32 xs → length xs ≡ n → Each1 (SFits w32) xs
    → doubled_lanes n lanes ≡ bits_of w32 (map (λ h. pos 2 *ℤ saturate_to_bits 30 h) xs)
doubles n lanes xs e long f =
    let kept = map (saturate_to_bits 30) xs in
    let is : limited n lanes ≡ bits_of w32 kept = ap (limited n) e ∙
    saturates_to w32 30 n xs long f (omega (arith, ints)) (omega (arith, ints)) in
    (λ i. zip2 (plus_in w32) (is i) (is i))
    ∙ added w32 kept kept (each_saturated xs) (each_saturated xs)
    ∙ ap (bits_of w32) (zip2-self (λ a b. int_wrap w32 (a +ℤ b)) kept ∙
    map-map (λ z. int_wrap w32 (z +ℤ z)) (saturate_to_bits 30) xs ∙
    map-same (SFits w32) (λ h. int_wrap w32 (saturate_to_bits 30 h +ℤ saturate_to_bits 30 h))
    (λ h. pos 2 *ℤ saturate_to_bits 30 h) (λ h q. doubled_is h) xs f)

pub mult_31 : (at n : ℕ) (a b : List ℤ) → All (SFits w32) a → All (SFits w32) b → at + n ≤ length a → at + n ≤ length b
    → Castable w64 w32 (high_lanes n (chunk at n a) (chunk at n b))
    × (map (to_z w32) (doubled_lanes n (cast_lanes w64 w32 (high_lanes n (chunk at n a) (chunk at n b))))
    ≡ zip2 (λ x y. pos 2 *ℤ saturate_to_bits 30 (shr_z (x *ℤ y) (2 ^ 32))) (chunk at n (map (λ x. x) a))
    (chunk at n (map (λ x. x) b)))
mult_31 at n a b f g room_a room_b =
    let xs = chunk at n a in
    let ys = chunk at n b in
    let long_x : length xs ≡ n = length-chunk at n a room_a in
    let long_y : length ys ≡ n = length-chunk at n b room_b in
    let made = highs_are n xs ys long_x long_y (group_fits w32 at n a f room_a) (group_fits w32 at n b g room_b) in
    let hs = zip2 high xs ys in
    let long : length hs ≡ n = length-zip2 high xs ys (omega arith) ∙ long_x in
    let wide = each_widens w32 w64 (omega arith) hs made.1 in
    let cast : cast_lanes w64 w32 (high_lanes n xs ys) ≡ bits_of w32 hs = ap (cast_lanes w64 w32) made.0 ∙
    casts_are w64 w32 hs wide in
    let twice = map (λ h. pos 2 *ℤ saturate_to_bits 30 h) hs in (
      (casts_down (high_lanes n xs ys) hs made.0 made.1).0,
      ap (map (to_z w32)) (doubles n (cast_lanes w64 w32 (high_lanes n xs ys)) hs cast long made.1)
          ∙ ints_of_bits w32 twice (each_doubled hs)
          ∙ map-zip2 (λ h. pos 2 *ℤ saturate_to_bits 30 h) high xs ys
          ∙ (λ i. zip2 (λ x y. pos 2 *ℤ saturate_to_bits 30 (high x y)) (chunk at n (sym (map-id a) i))
          (chunk at n (sym (map-id b) i))),
    )

-- ---- `scale`
abbrev pub scaled_highs : ℕ → List ℤ → ℤ → List ℕ
scaled_highs n xs t = zip2 (down_in w64) (zip2 (times_in w64) (widened w32 w64 xs)
    (cast_lanes w32 w64 (replicate n (of_z w32 t)))) (replicate n 32)

pub scaled_highs_are : (n : ℕ) (xs : List ℤ) (t : ℤ) → length xs ≡ n → Each1 (SFits w32) xs → SFits w32 t
    → (scaled_highs n xs t ≡ bits_of w64 (map (λ x. high x t) xs)) × Each1 (SFits w32) (map (λ x. high x t) xs)
scaled_highs_are n xs t long f g =
    let made = highs_are n xs (replicate n t) long (length-replicate n t) f (Each1-replicate (SFits w32) n t g) in (
      ap (λ l. zip2 (down_in w64) (zip2 (times_in w64) (widened w32 w64 xs) (cast_lanes w32 w64 l)) (replicate n 32))
          (splat_bits w32 n t)
          ∙ made.0
          ∙ ap (bits_of w64) (zip2_splat high xs n t long),
      Each1-map (SFits w32) (SFits w32) (λ x. high x t) (λ x h. high_fits x t h g) xs f,
    )

-- ---- the sparse filter
abbrev delay_highs : ℕ → ℤ → List ℤ → List ℕ
delay_highs n t xs = zip2 (down_in w64)
    (zip2 (times_in w64) (cast_lanes w32 w64 (replicate n (of_z w32 t))) (widened w32 w64 xs)) (replicate n 32)

raised_highs : (n : ℕ) (t : ℤ) (ss xs : List ℤ) → length xs ≡ n →
    zip2 (λ s p. int_wrap w32 (s +ℤ p)) ss (zip2 high (replicate n t) xs) ≡ zip2 (λ s x. int_wrap w32 (s +ℤ high t x))
    ss xs
raised_highs n t [] xs e = refl
raised_highs zero t (s ∷ ss) [] e = refl
raised_highs zero t (s ∷ ss) (x ∷ xs) e = absurd (omega (arith, e))
raised_highs (suc n) t (s ∷ ss) [] e = absurd (omega (arith, e))
raised_highs (suc n) t (s ∷ ss) (x ∷ xs) e = ap (λ l. int_wrap w32 (s +ℤ high t x) ∷ l)
    (raised_highs n t ss xs (omega arith))

module _ (n : ℕ) (t : ℤ) (xs : List ℤ) (long : length xs ≡ n) (f : SFits w32 t) (g : Each1 (SFits w32) xs) where
  abbrev terms : List ℤ
  terms = zip2 high (replicate n t) xs

  terms-are : (delay_highs n t xs ≡ bits_of w64 terms) × Each1 (SFits w32) terms
  terms-are =
      let made = highs_are n (replicate n t) xs (length-replicate n t) long (Each1-replicate (SFits w32) n t f) g in (
        ap (λ l. zip2 (down_in w64) (zip2 (times_in w64) (cast_lanes w32 w64 l) (widened w32 w64 xs)) (replicate n 32))
            (splat_bits w32 n t) ∙ made.0,
        made.1,
      )

  pub delay_asked : Castable w64 w32 (delay_highs n t xs)
  delay_asked = (casts_down (delay_highs n t xs) terms terms-are.0 terms-are.1).0

  pub delay_31 : (ss : List ℤ) → Each1 (SFits w32) ss
      → map (to_z w32) (zip2 (plus_in w32) (bits_of w32 ss) (cast_lanes w64 w32 (delay_highs n t xs)))
      ≡ zip2 (λ s x. int_wrap w32 (s +ℤ high t x)) ss xs
  delay_31 ss h =
      let wide = each_widens w32 w64 (omega arith) terms terms-are.1 in
      let cast : cast_lanes w64 w32 (delay_highs n t xs) ≡ bits_of w32 terms =
      ap (cast_lanes w64 w32) terms-are.0 ∙ casts_are w64 w32 terms wide in
      ap (λ l. map (to_z w32) (zip2 (plus_in w32) (bits_of w32 ss) l)) cast
      ∙ ap (map (to_z w32)) (added w32 ss terms h terms-are.1)
      ∙ ints_of_bits w32 _ (raised_fit w32 ss terms)
      ∙ raised_highs n t ss xs long
