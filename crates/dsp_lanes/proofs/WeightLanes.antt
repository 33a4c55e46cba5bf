-- The next weights of an adaptive filter, in lanes.
use Rattle.std.proofs.Common.{ℕ, ◌≡◌, ◌≤◌, ◌-◌, ◌*◌, ◌^◌, List, [], ◌∷◌, ◌++◌, length, map, replicate, refl, sym, ap}
use Rattle.std.proofs.Common.{ap₂, subst, ◌∙◌, arith, w16, w32, w64}
use Rattle.std.proofs.lemmas.Int.{ints, int_wrap_fits, SFits-int_wrap, to_z-of_z, unsigned_abs-mul}
use Rattle.std.proofs.lemmas.Simd.{length-zip2, Each1-replicate, length-replicate, map-map, zip2_splat_left}
use Rattle.std.proofs.Math.Nat.{mul-le-mul}
use Rattle.std.specs.Prelude.{ℤ, pos, negsuc, ◌+ℤ◌, ◌-ℤ◌, ◌*ℤ◌, unsigned_abs}
use Rattle.std.specs.Int.{int_wrap, saturate_to_bits}
use lib.Lanes.{zip2, pick_l, Each1}
use lib.Signed.{shr_z, mag, mag_shr}
use mir.Val.{SFits, to_z, of_z}
use Rattle.dsp_sat.proofs.Words.{abs_within}
use Rattle.dsp_lanes.proofs.LaneOps.{bits_of, splat_bits, ints_of_bits, cast_lanes, widened, narrowed, narrow_asked}
use Rattle.dsp_lanes.proofs.LaneOps.{narrow_is, lesser, greater, lesser_is, greater_is, least_are, most_are, least}
use Rattle.dsp_lanes.proofs.LaneOps.{most, added, subtracted, casts_are, each_widens, each_shift_fits, each_pair}
use Rattle.dsp_lanes.proofs.LaneOps.{saturated_fits, least_fits, shifted, map-zip2, zip2-right, zip2-same, length-map}
use Rattle.dsp_lanes.proofs.LaneOps.{Each1-map}
use Rattle.dsp_lanes.proofs.LaneSums.{plus_in, times_in, products_in, summed_fit, lanes_read}
use Rattle.dsp_lanes.proofs.LaneClosings.{Castable, down_in}
use Rattle.dsp_lanes.proofs.HighProducts.{high, high_fits, highs_are, casts_down, zip2-self}
use Rattle.dsp_lanes.proofs.HalfSums.{picked, evens, odds, by_four, evens_of_four, odds_of_four, each_even, each_odd}
use Rattle.dsp_lanes.proofs.HalfSums.{length-evens, length-odds}
use Rattle.dsp_lanes.proofs.Moves.{most_fits, minus_in}

-- ---- weights of 16 bits
small_sum : (a z : ℤ) → SFits w16 a → mag z ≤ 2 ^ 30 → SFits w32 (a +ℤ z)
small_sum a z f small = omega (arith, ints)

change_small : (t x : ℤ) → SFits w16 t → SFits w16 x → mag (shr_z (t *ℤ x) (2 ^ 15)) ≤ 2 ^ 30
change_small t x f g =
    let size : unsigned_abs (t *ℤ x) ≤ 2 ^ 15 * 2 ^ 15 =
    rw unsigned_abs-mul (mul-le-mul (abs_within w16 t f) (abs_within w16 x g)) in
    let less = mag_shr (t *ℤ x) (2 ^ 15) in
    let near : mag (t *ℤ x) ≤ 2 ^ 30 = mag_near (t *ℤ x) size in
    omega arith
  where
    mag_near : (z : ℤ) → unsigned_abs z ≤ 2 ^ 15 * 2 ^ 15 → mag z ≤ 2 ^ 30
    mag_near (pos k) h = omega arith
    mag_near (negsuc k) h = omega arith

abbrev grown_15 : List ℤ → ℤ → List ℤ → List ℕ
grown_15 ws t xs =
    narrowed w32 w16 8 (zip2 (plus_in w32) (widened w16 w32 ws)
    (zip2 (down_in w32) (zip2 (times_in w32) (cast_lanes w16 w32 (replicate 8 (of_z w16 t))) (widened w16 w32 xs))
    (replicate 8 15)))

pub grown_15_is : (ws xs : List ℤ) (t : ℤ) → length ws ≡ 8 → length xs ≡ 8 → SFits w16 t → Each1 (SFits w16) ws →
    Each1 (SFits w16) xs
    → Castable w32 w16 (grown_15 ws t xs)
    × (map (to_z w16) (cast_lanes w32 w16 (grown_15 ws t xs)) ≡ zip2
    (λ w x. saturate_to_bits 15 (w +ℤ shr_z (t *ℤ x) (2 ^ 15))) ws xs)
grown_15_is ws xs t long_w long_x f h g =
    let ts = replicate 8 t in
    let made = products_in w16 w32 (omega arith) (omega arith) ts xs (Each1-replicate (SFits w16) 8 t f) g in
    let ps = zip2 (λ x y. x *ℤ y) ts xs in
    let down : ℤ → ℤ = λ p. shr_z p (2 ^ 15) in
    let long_p : length ps ≡ 8 = length-zip2 (λ x y. x *ℤ y) ts xs (length-replicate 8 t ∙ sym long_x) ∙
    length-replicate 8 t in
    let ds = map down ps in
    let long_d : length ds ≡ 8 = length-map down ps ∙ long_p in
    let changes : zip2 (down_in w32) (zip2 (times_in w32) (cast_lanes w16 w32 (replicate 8 (of_z w16 t)))
    (widened w16 w32 xs)) (replicate 8 15) ≡ bits_of w32 ds =
    ap (λ l. zip2 (down_in w32) (zip2 (times_in w32) (cast_lanes w16 w32 l) (widened w16 w32 xs)) (replicate 8 15))
    (splat_bits w16 8 t)
    ∙ ap (λ l. zip2 (down_in w32) l (replicate 8 15)) made.0
    ∙ shifted w32 8 15 ps long_p made.1 in
    let total = zip2 (λ a b. int_wrap w32 (a +ℤ b)) ws ds in
    let long : length total ≡ 8 = length-zip2 (λ a b. int_wrap w32 (a +ℤ b)) ws ds (long_w ∙ sym long_d) ∙ long_w in
    let sums : zip2 (plus_in w32) (widened w16 w32 ws) (zip2 (down_in w32)
    (zip2 (times_in w32) (cast_lanes w16 w32 (replicate 8 (of_z w16 t))) (widened w16 w32 xs)) (replicate 8 15)) ≡
    bits_of w32 total =
    (λ i. zip2 (plus_in w32) (casts_are w16 w32 ws h i) (changes i))
    ∙ added w32 ws ds (each_widens w16 w32 (omega arith) ws h) (each_shift_fits w32 15 ps made.1) in
    let fit : Each1 (SFits w32) total = summed_fit w32 (λ a b. a +ℤ b) ws ds in
    let cut : ℤ → ℤ → ℤ = λ a b. saturate_to_bits 15 (int_wrap w32 (a +ℤ b)) in (
      subst (λ (l : List ℕ). Castable w32 w16 (narrowed w32 w16 8 l)) (sym sums)
          (narrow_asked w32 w16 (omega arith) 8 total long fit),
      ap (λ l. map (to_z w16) (cast_lanes w32 w16 (narrowed w32 w16 8 l))) sums
          ∙ narrow_is w32 w16 (omega arith) 8 total long fit
          ∙ map-zip2 (saturate_to_bits 15) (λ a b. int_wrap w32 (a +ℤ b)) ws ds
          ∙ ap (λ l. zip2 cut ws (map down l)) (zip2_splat_left (λ x y. x *ℤ y) t 8 xs long_x)
          ∙ zip2-right cut down ws (map (λ x. t *ℤ x) xs)
          ∙ zip2-right (λ a p. cut a (down p)) (λ x. t *ℤ x) ws xs
          ∙ zip2-same (SFits w16) (λ a x. cut a (down (t *ℤ x))) (λ a x. saturate_to_bits 15 (a +ℤ down (t *ℤ x)))
          (λ a x p q. ap (saturate_to_bits 15) (int_wrap_fits w32 (a +ℤ down (t *ℤ x))
          (small_sum a (down (t *ℤ x)) p (change_small t x f q)))) ws xs h g,
    )

-- ---- high words of products with one number
abbrev half_lanes : ℤ → List ℤ → List ℕ → List ℕ
half_lanes t xs places = zip2 (down_in w64) (zip2 (times_in w64) (cast_lanes w32 w64 (replicate 2 (of_z w32 t)))
    (cast_lanes w32 w64 (picked (bits_of w32 xs) places))) (replicate 2 32)

half_is : (t : ℤ) (xs half : List ℤ) (places : List ℕ) → picked (bits_of w32 xs) places ≡ bits_of w32 half →
    length half ≡ 2 → SFits w32 t → Each1 (SFits w32) half
    → (half_lanes t xs places ≡ bits_of w64 (map (high t) half)) × Each1 (SFits w32) (map (high t) half)
half_is t xs half places is long f g =
    let ts = replicate 2 t in
    let made = highs_are 2 ts half (length-replicate 2 t) long (Each1-replicate (SFits w32) 2 t f) g in (
      (λ i. zip2 (down_in w64) (zip2 (times_in w64) (cast_lanes w32 w64 (splat_bits w32 2 t i))
          (cast_lanes w32 w64 (is i))) (replicate 2 32))
          ∙ made.0
          ∙ ap (bits_of w64) (zip2_splat_left high t 2 half long),
      Each1-map (SFits w32) (SFits w32) (high t) (λ x q. high_fits t x f q) half g,
    )

abbrev pub high_words : ℤ → List ℤ → List ℕ
high_words t xs = pick_l 0 (cast_lanes w64 w32 (half_lanes t xs (0 ∷ 2 ∷ [])) ++ cast_lanes w64 w32
    (half_lanes t xs (1 ∷ 3 ∷ []))) (0 ∷ 2 ∷ 1 ∷ 3 ∷ [])

in_order : (h : ℤ → ℤ) (xs : List ℤ) → length xs ≡ 4 →
    pick_l 0 (bits_of w32 (map h (evens xs)) ++ bits_of w32 (map h (odds xs))) (0 ∷ 2 ∷ 1 ∷ 3 ∷ []) ≡ bits_of w32
    (map h xs)
in_order h xs long = by_four (λ xs. pick_l 0 (bits_of w32 (map h (evens xs)) ++ bits_of w32 (map h (odds xs)))
    (0 ∷ 2 ∷ 1 ∷ 3 ∷ []) ≡ bits_of w32 (map h xs)) (λ a b c d. refl) xs long

pub high_words_are : (t : ℤ) (xs : List ℤ) → length xs ≡ 4 → SFits w32 t → Each1 (SFits w32) xs
    → Castable w64 w32 (half_lanes t xs (0 ∷ 2 ∷ []))
    × Castable w64 w32 (half_lanes t xs (1 ∷ 3 ∷ []))
    × (map (to_z w32) (high_words t xs) ≡ map (high t) xs)
    × Each1 (SFits w32) (map (to_z w32) (high_words t xs))
high_words_are t xs long f g =
    let even = half_is t xs (evens xs) (0 ∷ 2 ∷ []) (evens_of_four w32 xs long) (length-evens 2 xs long) f
    (each_even (SFits w32) xs g) in
    let odd = half_is t xs (odds xs) (1 ∷ 3 ∷ []) (odds_of_four w32 xs long) (length-odds 2 xs long) f
    (each_odd (SFits w32) xs g) in
    let even_is : cast_lanes w64 w32 (half_lanes t xs (0 ∷ 2 ∷ [])) ≡ bits_of w32 (map (high t) (evens xs)) =
    ap (cast_lanes w64 w32) even.0 ∙ casts_are w64 w32 (map (high t) (evens xs))
    (each_widens w32 w64 (omega arith) (map (high t) (evens xs)) even.1) in
    let odd_is : cast_lanes w64 w32 (half_lanes t xs (1 ∷ 3 ∷ [])) ≡ bits_of w32 (map (high t) (odds xs)) =
    ap (cast_lanes w64 w32) odd.0 ∙ casts_are w64 w32 (map (high t) (odds xs))
    (each_widens w32 w64 (omega arith) (map (high t) (odds xs)) odd.1) in
    let read = lanes_read w32 (high_words t xs) (map (high t) xs)
    ((λ i. pick_l 0 (even_is i ++ odd_is i) (0 ∷ 2 ∷ 1 ∷ 3 ∷ [])) ∙ in_order (high t) xs long)
    (Each1-map (SFits w32) (SFits w32) (high t) (λ x q. high_fits t x f q) xs g) in
    ((casts_down _ _ even.0 even.1).0, (casts_down _ _ odd.0 odd.1).0, read.0, read.1)

-- ---- saturated sums of 32 bits
abbrev greatest : ℤ
greatest = pos (2 ^ 31 - 1)

abbrev smallest : ℤ
smallest = negsuc (2 ^ 31 - 1)

abbrev saturated_lanes : ℕ → List ℤ → List ℤ → List ℕ
saturated_lanes n ws ds =
    zip2 (plus_in w32) (bits_of w32 ws)
    (greater w32
    (lesser w32 (bits_of w32 ds) (zip2 minus_in (replicate n (of_z w32 greatest))
    (greater w32 (bits_of w32 ws) (replicate n (of_z w32 (pos 0))))))
    (zip2 minus_in (replicate n (of_z w32 smallest)) (lesser w32 (bits_of w32 ws) (replicate n (of_z w32 (pos 0))))))

-- how far a number is from the ends
abbrev above : ℤ → ℤ
above w = int_wrap w32 (greatest -ℤ most w (pos 0))

abbrev below : ℤ → ℤ
below w = int_wrap w32 (smallest -ℤ least w (pos 0))

above_fits : (w : ℤ) → SFits w32 w → SFits w32 (greatest -ℤ most w (pos 0))
above_fits (pos n) f = grind (arith, ints)
above_fits (negsuc n) f = grind (arith, ints)

below_fits : (w : ℤ) → SFits w32 w → SFits w32 (smallest -ℤ least w (pos 0))
below_fits (pos n) f = grind (arith, ints)
below_fits (negsuc n) f = grind (arith, ints)

-- one lane
cut_is : (w d : ℤ) → SFits w32 w → SFits w32 d → w +ℤ most (least d (greatest -ℤ most w (pos 0)))
    (smallest -ℤ least w (pos 0)) ≡ saturate_to_bits 31 (w +ℤ d)
cut_is (pos a) (pos b) f g = grind (arith, ints)
cut_is (pos a) (negsuc b) f g = grind (arith, ints)
cut_is (negsuc a) (pos b) f g = grind (arith, ints)
cut_is (negsuc a) (negsuc b) f g = grind (arith, ints)

saturates : (w d : ℤ) → SFits w32 w → SFits w32 d → int_wrap w32 (w +ℤ most (least d (above w)) (below w)) ≡
    saturate_to_bits 31 (w +ℤ d)
saturates w d f g =
    let is = cut_is w d f g in
    ap₂ (λ p q. int_wrap w32 (w +ℤ most (least d p) q)) (int_wrap_fits w32 _ (above_fits w f))
    (int_wrap_fits w32 _ (below_fits w f))
    ∙ ap (int_wrap w32) is
    ∙ int_wrap_fits w32 (saturate_to_bits 31 (w +ℤ d)) (saturated_fits w32 (w +ℤ d))

lanes_saturate : (ws ds : List ℤ) → Each1 (SFits w32) ws → Each1 (SFits w32) ds
    → zip2 (λ a b. int_wrap w32 (a +ℤ b)) ws (zip2 most (zip2 least ds (map above ws)) (map below ws)) ≡ zip2
    (λ w d. saturate_to_bits 31 (w +ℤ d)) ws ds
lanes_saturate [] ds f g = refl
lanes_saturate (w ∷ ws) [] f g = refl
lanes_saturate (w ∷ ws) (d ∷ ds) f g = ap₂ (λ a l. a ∷ l) (saturates w d f.0 g.0) (lanes_saturate ws ds f.1 g.1)

-- the ends less a number that is cut at 0
room_lanes : (n : ℕ) (e : ℤ) (ms : List ℤ) (lanes : List ℕ) → lanes ≡ bits_of w32 ms → length ms ≡ n → SFits w32 e →
    Each1 (SFits w32) ms
    → zip2 minus_in (replicate n (of_z w32 e)) lanes ≡ bits_of w32 (map (λ m. int_wrap w32 (e -ℤ m)) ms)
room_lanes n e ms lanes is long f g =
    (λ i. zip2 minus_in (splat_bits w32 n e i) (is i))
    ∙ subtracted w32 (replicate n e) ms (Each1-replicate (SFits w32) n e f) g
    ∙ ap (bits_of w32) (zip2_splat_left (λ a b. int_wrap w32 (a -ℤ b)) e n ms long)

pub saturated_are : (n : ℕ) (ws ds : List ℤ) → length ws ≡ n → Each1 (SFits w32) ws → Each1 (SFits w32) ds →
    map (to_z w32) (saturated_lanes n ws ds) ≡ zip2 (λ w d. saturate_to_bits 31 (w +ℤ d)) ws ds
saturated_are n ws ds long f g =
    let zero_fits : SFits w32 (pos 0) = omega (arith, ints) in
    let ups = map (λ x. most x (pos 0)) ws in
    let downs = map (λ x. least x (pos 0)) ws in
    let ups_fit = Each1-map (SFits w32) (SFits w32) (λ x. most x (pos 0)) (λ x q. most_fits x (pos 0) q zero_fits) ws
    f in
    let downs_fit = Each1-map (SFits w32) (SFits w32) (λ x. least x (pos 0))
    (λ x q. least_fits w32 (pos 0) x zero_fits q) ws f in
    let tops = room_lanes n greatest ups _ (most_are w32 n (pos 0) ws long f zero_fits)
    (length-map (λ x. most x (pos 0)) ws ∙ long) (omega (arith, ints)) ups_fit
    ∙ ap (bits_of w32) (map-map (λ m. int_wrap w32 (greatest -ℤ m)) (λ x. most x (pos 0)) ws) in
    let bottoms = room_lanes n smallest downs _ (least_are w32 n (pos 0) ws long f zero_fits)
    (length-map (λ x. least x (pos 0)) ws ∙ long) (omega (arith, ints)) downs_fit
    ∙ ap (bits_of w32) (map-map (λ m. int_wrap w32 (smallest -ℤ m)) (λ x. least x (pos 0)) ws) in
    let above_fit = Each1-map (SFits w32) (SFits w32) above (λ x q. SFits-int_wrap w32 (greatest -ℤ most x (pos 0)))
    ws f in
    let below_fit = Each1-map (SFits w32) (SFits w32) below (λ x q. SFits-int_wrap w32 (smallest -ℤ least x (pos 0)))
    ws f in
    let mids = zip2 least ds (map above ws) in
    let mids_fit = each_pair (SFits w32) (SFits w32) least (λ x y p q. least_fits w32 y x q p) ds (map above ws) g
    above_fit in
    let ends = zip2 most mids (map below ws) in
    let ends_fit = each_pair (SFits w32) (SFits w32) most most_fits mids (map below ws) mids_fit below_fit in
    let lanes : saturated_lanes n ws ds ≡ bits_of w32 (zip2 (λ a b. int_wrap w32 (a +ℤ b)) ws ends) =
    (λ i. zip2 (plus_in w32) (bits_of w32 ws) (greater w32 (lesser w32 (bits_of w32 ds) (tops i)) (bottoms i)))
    ∙ ap (λ l. zip2 (plus_in w32) (bits_of w32 ws) (greater w32 l (bits_of w32 (map below ws))))
    (lesser_is w32 ds (map above ws) g above_fit)
    ∙ ap (zip2 (plus_in w32) (bits_of w32 ws)) (greater_is w32 mids (map below ws) mids_fit below_fit)
    ∙ added w32 ws ends f ends_fit in
    (lanes_read w32 (saturated_lanes n ws ds) (zip2 (λ a b. int_wrap w32 (a +ℤ b)) ws ends) lanes
    (summed_fit w32 (λ a b. a +ℤ b) ws ends)).0
    ∙ lanes_saturate ws ds f g

pub saturated_fit : (ws ds : List ℤ) → Each1 (SFits w32) (zip2 (λ w d. saturate_to_bits 31 (w +ℤ d)) ws ds)
saturated_fit [] ds = tt
saturated_fit (w ∷ ws) [] = tt
saturated_fit (w ∷ ws) (d ∷ ds) = (saturated_fits w32 (w +ℤ d), saturated_fit ws ds)

-- ---- weights of 32 bits
twice : (z : ℤ) → z +ℤ z ≡ pos 2 *ℤ z
twice z = omega (arith, ints)

pub grown_31_is : (ws xs hs new : List ℤ) (t : ℤ) → SFits w32 t → Each1 (SFits w32) ws → Each1 (SFits w32) xs →
    Each1 (SFits w32) hs → hs ≡ map (high (to_z w32 (of_z w32 t))) (map (to_z w32) (bits_of w32 xs))
    → new ≡ zip2 (λ w d. saturate_to_bits 31 (w +ℤ d)) (map (to_z w32) (bits_of w32 ws))
    (map (to_z w32) (zip2 (plus_in w32) (bits_of w32 hs) (bits_of w32 hs)))
    → new ≡ zip2 (λ w x. saturate_to_bits 31 (w +ℤ int_wrap w32 (pos 2 *ℤ high t x))) ws xs
grown_31_is ws xs hs new t e f g h high_is is =
    let cut : ℤ → ℤ → ℤ = λ w d. saturate_to_bits 31 (w +ℤ d) in
    let sum : ℤ → ℤ → ℤ = λ a b. int_wrap w32 (a +ℤ b) in
    let words : hs ≡ map (high t) xs = high_is ∙ (λ i. map (high (to_z-of_z w32 t e i)) (ints_of_bits w32 xs g i)) in
    let changes : map (to_z w32) (zip2 (plus_in w32) (bits_of w32 hs) (bits_of w32 hs)) ≡ map
    (λ x. int_wrap w32 (pos 2 *ℤ high t x)) xs =
    (lanes_read w32 (zip2 (plus_in w32) (bits_of w32 hs) (bits_of w32 hs)) (zip2 sum hs hs) (added w32 hs hs h h)
    (summed_fit w32 (λ a b. a +ℤ b) hs hs)).0
    ∙ zip2-self sum hs
    ∙ ap (map (λ a. sum a a)) words
    ∙ map-map (λ a. sum a a) (high t) xs
    ∙ (λ i. map (λ x. int_wrap w32 (twice (high t x) i)) xs) in
    is
    ∙ (λ i. zip2 cut (ints_of_bits w32 ws f i) (changes i))
    ∙ zip2-right cut (λ x. int_wrap w32 (pos 2 *ℤ high t x)) ws xs

-- the sums of numbers with themselves, as they are passed on
pub doubled_fit : (hs : List ℤ) → Each1 (SFits w32) hs →
    Each1 (SFits w32) (map (to_z w32) (zip2 (plus_in w32) (bits_of w32 hs) (bits_of w32 hs)))
doubled_fit hs h = (lanes_read w32 (zip2 (plus_in w32) (bits_of w32 hs) (bits_of w32 hs))
    (zip2 (λ a b. int_wrap w32 (a +ℤ b)) hs hs) (added w32 hs hs h h) (summed_fit w32 (λ a b. a +ℤ b) hs hs)).1
