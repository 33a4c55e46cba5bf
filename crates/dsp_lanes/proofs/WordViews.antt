-- Eight words of 32 bits that are read as four of 64, and back.
use Rattle.std.proofs.Common.{ℕ, ◌≡◌, ◌<◌, ◌+◌, ◌-◌, ◌*◌, ◌/◌, ◌%◌, ◌^◌, zero, suc, List, [], ◌∷◌, ◌++◌}
use Rattle.std.proofs.Common.{length, map, replicate, refl}
use Rattle.std.proofs.Common.{sym}
use Rattle.std.proofs.Common.{ap, subst, ◌∙◌, arith, w32, w64}
use Rattle.std.proofs.lemmas.Int.{ints, of_z-to_z, to_z-of_z, int_wrap_fits}
use Rattle.std.proofs.lemmas.Simd.{Each1-replicate, zip2_splat}
use Rattle.std.proofs.lemmas.List.{length-map}
use Rattle.std.proofs.Math.Facts.{Fits-of_z}
use Rattle.std.specs.Prelude.{ℤ, pos, negsuc, ◌+ℤ◌, ◌*ℤ◌}
use Rattle.std.specs.Int.{int_wrap}
use native.Mathlib.Nat.{pow-suc}
use lib.Lanes.{Each1, zip2, pick_l, digits_l, number_l}
use lib.Signed.{shr_z}
use mir.Syntax.{Width}
use mir.Val.{SFits, to_z, of_z, bits}
use Rattle.dsp_lanes.proofs.LaneOps.{bits_of, shifted, ints_of_bits, each_widens, Each1-map, casts_are}
use Rattle.dsp_lanes.specs.Pairs.{in_turn}
use Rattle.dsp_lanes.proofs.HalfSums.{by_four, by_eight, evens, odds, each_even, each_odd, each_in_turn, length-evens}
use Rattle.dsp_lanes.proofs.HalfSums.{length-odds}
use Rattle.dsp_lanes.proofs.LaneSums.{times_in, products_in, lanes_read}
use Rattle.dsp_lanes.proofs.LaneClosings.{low_lanes, low_lanes_are, down_in}
use Rattle.dsp_lanes.proofs.WordLemmas.{wrap_bits-is, wrap_bits-congruent}
use Rattle.dsp_defs.specs.Signal.{sample, values}

-- ---- digits and their number
number_digits : (n x : ℕ) → x < 256 ^ n → number_l 256 (digits_l 256 n x) ≡ x
number_digits zero x h = omega arith
number_digits (suc n) x h =
    let power = pow-suc 256 n in
    let rest = number_digits n (x / 256) (omega (arith, h, power)) in
    omega (arith, rest)

number_small : (xs : List ℕ) → Each1 (λ x. x < 2 ^ 64) xs → number_l (2 ^ 64) xs < (2 ^ 64) ^ length xs
number_small [] f = omega arith
number_small (x ∷ xs) f =
    let rest = number_small xs f.1 in
    let first = f.0 in
    let more = pow-suc (2 ^ 64) (length xs) in
    omega (arith, rest, first, more)

digits_number_64 : (xs : List ℕ) → Each1 (λ x. x < 2 ^ 64) xs →
    digits_l (2 ^ 64) (length xs) (number_l (2 ^ 64) xs) ≡ xs
digits_number_64 [] f = refl
digits_number_64 (x ∷ xs) f =
    let first = f.0 in
    let low : (x + 2 ^ 64 * number_l (2 ^ 64) xs) % 2 ^ 64 ≡ x = omega arith in
    let high : (x + 2 ^ 64 * number_l (2 ^ 64) xs) / 2 ^ 64 ≡ number_l (2 ^ 64) xs = omega arith in
    (λ i. low i ∷ digits_l (2 ^ 64) (length xs) (high i)) ∙ ap (λ l. x ∷ l) (digits_number_64 xs f.1)

digits_number_32 : (xs : List ℕ) → Each1 (λ x. x < 2 ^ 32) xs →
    digits_l (2 ^ 32) (length xs) (number_l (2 ^ 32) xs) ≡ xs
digits_number_32 [] f = refl
digits_number_32 (x ∷ xs) f =
    let first = f.0 in
    let low : (x + 2 ^ 32 * number_l (2 ^ 32) xs) % 2 ^ 32 ≡ x = omega arith in
    let high : (x + 2 ^ 32 * number_l (2 ^ 32) xs) / 2 ^ 32 ≡ number_l (2 ^ 32) xs = omega arith in
    (λ i. low i ∷ digits_l (2 ^ 32) (length xs) (high i)) ∙ ap (λ l. x ∷ l) (digits_number_32 xs f.1)

-- ---- pairs of words
abbrev pair : ℤ → ℤ → ℤ
pair x y = pos (of_z w32 x) +ℤ (y *ℤ pos (2 ^ 32))

abbrev pub pairs : List ℤ → List ℤ
pairs [] = []
pairs (x ∷ []) = []
pairs (x ∷ y ∷ xs) = pair x y ∷ pairs xs

pair_bits : (x y : ℤ) → SFits w32 x → SFits w32 y → of_z w32 x + 2 ^ 32 * of_z w32 y ≡ of_z w64 (pair x y)
pair_bits (pos a) (pos b) f g = omega (arith, ints, f, g)
pair_bits (pos a) (negsuc b) f g = omega (arith, ints, f, g)
pair_bits (negsuc a) (pos b) f g = omega (arith, ints, f, g)
pair_bits (negsuc a) (negsuc b) f g = omega (arith, ints, f, g)

pair_fits : (x y : ℤ) → SFits w32 x → SFits w32 y → SFits w64 (pair x y)
pair_fits (pos a) (pos b) f g = omega (arith, ints, f, g)
pair_fits (pos a) (negsuc b) f g = omega (arith, ints, f, g)
pair_fits (negsuc a) (pos b) f g = omega (arith, ints, f, g)
pair_fits (negsuc a) (negsuc b) f g = omega (arith, ints, f, g)

number_pairs : (n : ℕ) (xs : List ℤ) → length xs ≡ n + n → Each1 (SFits w32) xs →
    number_l (2 ^ 64) (bits_of w64 (pairs xs)) ≡ number_l (2 ^ 32) (bits_of w32 xs)
number_pairs n [] long f = refl
number_pairs zero (x ∷ []) long f = absurd (omega (arith, long))
number_pairs (suc n) (x ∷ []) long f = absurd (omega (arith, long))
number_pairs zero (x ∷ y ∷ xs) long f = absurd (omega (arith, long))
number_pairs (suc n) (x ∷ y ∷ xs) long f =
    let rest = number_pairs n xs (omega arith) f.1.1 in
    let first = pair_bits x y f.0 f.1.0 in
    omega (arith, rest, first)

bits-small : (w : Width) (xs : List ℤ) → Each1 (SFits w) xs → Each1 (λ x. x < 2 ^ bits w) (bits_of w xs)
bits-small w [] f = tt
bits-small w (x ∷ xs) f = ((Fits-of_z f.0).fits, bits-small w xs f.1)

pairs_fit : (xs : List ℤ) → Each1 (SFits w32) xs → Each1 (SFits w64) (pairs xs)
pairs_fit [] f = tt
pairs_fit (x ∷ []) f = tt
pairs_fit (x ∷ y ∷ xs) f = (pair_fits x y f.0 f.1.0, pairs_fit xs f.1.1)

-- the bytes of words, as lanes of 64 bits
abbrev pub wide_lanes : List ℕ → List ℕ
wide_lanes lanes = digits_l (2 ^ 64) 4 (number_l 256 (digits_l 256 32 (number_l (2 ^ 32) lanes)))

pub wide_are : (xs : List ℤ) → length xs ≡ 8 → Each1 (SFits w32) xs →
    (wide_lanes (bits_of w32 xs) ≡ bits_of w64 (pairs xs)) × (length (pairs xs) ≡ 4) × Each1 (SFits w64) (pairs xs)
wide_are xs long f =
    let four : length (pairs xs) ≡ 4 = by_eight (λ xs. length (pairs xs) ≡ 4) (λ a b c d e f x y. refl) xs long in
    let four_bits : length (bits_of w64 (pairs xs)) ≡ 4 = length-map (pairs xs) (of_z w64) ∙ four in
    let fit = pairs_fit xs f in
    let small = bits-small w64 (pairs xs) fit in
    let same = number_pairs 4 xs long f in
    let below = number_small (bits_of w64 (pairs xs)) small in
    let power : (2 ^ 64) ^ length (bits_of w64 (pairs xs)) ≡ 256 ^ 32 = ap (λ n. (2 ^ 64) ^ n) four_bits in
    let number = number_digits 32 (number_l (2 ^ 32) (bits_of w32 xs)) (omega (arith, same, below, power)) in (
      ap (digits_l (2 ^ 64) 4) (number ∙ sym same)
          ∙ ap (λ n. digits_l (2 ^ 64) n (number_l (2 ^ 64) (bits_of w64 (pairs xs)))) (sym four_bits)
          ∙ digits_number_64 (bits_of w64 (pairs xs)) small,
      four,
      fit,
    )

-- ---- the words of lanes of 64 bits
abbrev low : ℤ → ℤ
low z = to_z w32 (of_z w64 z % 2 ^ 32)

abbrev pub halves : List ℤ → List ℤ
halves [] = []
halves (z ∷ zs) = low z ∷ shr_z z (2 ^ 32) ∷ halves zs

whole : (z : ℤ) → SFits w64 z → pair (low z) (shr_z z (2 ^ 32)) ≡ z
whole (pos n) f =
    let is = of_z-to_z w32 (n % 2 ^ 32) (omega arith) in
    omega (arith, ints, f, is)
whole (negsuc n) f =
    let is = of_z-to_z w32 ((2 ^ 64 - suc n) % 2 ^ 32) (omega arith) in
    omega (arith, ints, f, is)

low_fits : (z : ℤ) → SFits w32 (low z)
low_fits z = let m = of_z w64 z % 2 ^ 32 in omega (arith, ints)

pub high_fits : (z : ℤ) → SFits w64 z → SFits w32 (shr_z z (2 ^ 32))
high_fits (pos n) f = omega (arith, ints, f)
high_fits (negsuc n) f = omega (arith, ints, f)

pairs_halves : (zs : List ℤ) → Each1 (SFits w64) zs → pairs (halves zs) ≡ zs
pairs_halves [] f = refl
pairs_halves (z ∷ zs) f = (λ i. whole z f.0 i ∷ pairs_halves zs f.1 i)

pub halves_fit : (zs : List ℤ) → Each1 (SFits w64) zs → Each1 (SFits w32) (halves zs)
halves_fit [] f = tt
halves_fit (z ∷ zs) f = (low_fits z, (high_fits z f.0, halves_fit zs f.1))

abbrev pub narrow_lanes : List ℕ → List ℕ
narrow_lanes lanes = digits_l (2 ^ 32) 8 (number_l 256 (digits_l 256 32 (number_l (2 ^ 64) lanes)))

pub narrow_are : (zs : List ℤ) → length zs ≡ 4 → Each1 (SFits w64) zs →
    narrow_lanes (bits_of w64 zs) ≡ bits_of w32 (halves zs)
narrow_are zs long f =
    let words = halves zs in
    let eight : length words ≡ 8 = by_four (λ zs. length (halves zs) ≡ 8) (λ a b c d. refl) zs long in
    let eight_bits : length (bits_of w32 words) ≡ 8 = length-map words (of_z w32) ∙ eight in
    let fit = halves_fit zs f in
    let same : number_l (2 ^ 64) (bits_of w64 zs) ≡ number_l (2 ^ 32) (bits_of w32 words) =
    ap (λ l. number_l (2 ^ 64) (bits_of w64 l)) (sym (pairs_halves zs f)) ∙ number_pairs 4 words eight fit in
    let below = number_small (bits_of w64 zs) (bits-small w64 zs f) in
    let power : (2 ^ 64) ^ length (bits_of w64 zs) ≡ 256 ^ 32 =
    ap (λ n. (2 ^ 64) ^ n) (length-map zs (of_z w64) ∙ long) in
    let number = number_digits 32 (number_l (2 ^ 64) (bits_of w64 zs)) (omega (arith, below, power)) in
    ap (digits_l (2 ^ 32) 8) (number ∙ same)
    ∙ ap (λ n. digits_l (2 ^ 32) n (number_l (2 ^ 32) (bits_of w32 words))) (sym eight_bits)
    ∙ digits_number_32 (bits_of w32 words) (bits-small w32 words fit)

-- ---- the even and the odd words
pair_low : (x y : ℤ) → SFits w32 x → int_wrap w32 (pair x y) ≡ x
pair_low (pos a) (pos b) f = sym (wrap_bits-is w32 _) ∙ wrap_bits-congruent 32 _ (pos a) 0 b (omega (arith, ints)) ∙
    wrap_bits-is w32 _ ∙ int_wrap_fits w32 _ f
pair_low (pos a) (negsuc b) f = sym (wrap_bits-is w32 _) ∙
    wrap_bits-congruent 32 _ (pos a) (suc b) 0 (omega (arith, ints)) ∙ wrap_bits-is w32 _ ∙ int_wrap_fits w32 _ f
pair_low (negsuc a) (pos b) f = sym (wrap_bits-is w32 _) ∙
    wrap_bits-congruent 32 _ (negsuc a) 0 (suc b) (omega (arith, ints, f)) ∙ wrap_bits-is w32 _ ∙ int_wrap_fits w32 _ f
pair_low (negsuc a) (negsuc b) f = sym (wrap_bits-is w32 _) ∙
    wrap_bits-congruent 32 _ (negsuc a) b 0 (omega (arith, ints, f)) ∙ wrap_bits-is w32 _ ∙ int_wrap_fits w32 _ f

pair_high : (x y : ℤ) → SFits w32 x → shr_z (pair x y) (2 ^ 32) ≡ y
pair_high (pos a) (pos b) f = omega (arith, ints, f)
pair_high (pos a) (negsuc b) f =
    let is : pair (pos a) (negsuc b) ≡ negsuc (b * 2 ^ 32 + (2 ^ 32 - suc a)) = omega (arith, ints, f) in
    let part : (b * 2 ^ 32 + (2 ^ 32 - suc a)) / 2 ^ 32 ≡ b = omega (arith, ints, f) in
    ap (λ z. shr_z z (2 ^ 32)) is ∙ ap negsuc part
pair_high (negsuc a) (pos b) f = omega (arith, ints, f)
pair_high (negsuc a) (negsuc b) f =
    let is : pair (negsuc a) (negsuc b) ≡ negsuc (b * 2 ^ 32 + a) = omega (arith, ints, f) in
    let part : (b * 2 ^ 32 + a) / 2 ^ 32 ≡ b = omega (arith, ints, f) in
    ap (λ z. shr_z z (2 ^ 32)) is ∙ ap negsuc part

pub pairs_low : (xs : List ℤ) → Each1 (SFits w32) xs → map (int_wrap w32) (pairs xs) ≡ evens xs
pairs_low [] f = refl
pairs_low (x ∷ []) f = refl
pairs_low (x ∷ y ∷ xs) f = (λ i. pair_low x y f.0 i ∷ pairs_low xs f.1.1 i)

pairs_high : (xs : List ℤ) → Each1 (SFits w32) xs → map (λ z. shr_z z (2 ^ 32)) (pairs xs) ≡ odds xs
pairs_high [] f = refl
pairs_high (x ∷ []) f = refl
pairs_high (x ∷ y ∷ xs) f = (λ i. pair_high x y f.0 i ∷ pairs_high xs f.1.1 i)

pub even_words_are : (xs : List ℤ) → length xs ≡ 8 → Each1 (SFits w32) xs →
    map (to_z w64) (low_lanes 4 (wide_lanes (bits_of w32 xs))) ≡ values 4 (λ i. sample xs (2 * i))
even_words_are xs long f =
    let h = wide_are xs long f in
    ap (map (to_z w64)) (low_lanes_are 4 _ (pairs xs) h.0 h.1 h.2 ∙ ap (bits_of w64) (pairs_low xs f))
    ∙ ints_of_bits w64 (evens xs) (each_widens w32 w64 (omega arith) (evens xs) (each_even (SFits w32) xs f))
    ∙ by_eight (λ xs. evens xs ≡ values 4 (λ i. sample xs (2 * i))) (λ a b c d e f x y. refl) xs long

pub odd_words_are : (xs : List ℤ) → length xs ≡ 8 → Each1 (SFits w32) xs →
    map (to_z w64) (zip2 (down_in w64) (wide_lanes (bits_of w32 xs)) (replicate 4 32)) ≡ values 4
    (λ i. sample xs (2 * i + 1))
odd_words_are xs long f =
    let h = wide_are xs long f in
    ap (map (to_z w64)) (ap (λ l. zip2 (down_in w64) l (replicate 4 32)) h.0 ∙ shifted w64 4 32 (pairs xs) h.1 h.2 ∙
    ap (bits_of w64) (pairs_high xs f))
    ∙ ints_of_bits w64 (odds xs) (each_widens w32 w64 (omega arith) (odds xs) (each_odd (SFits w32) xs f))
    ∙ by_eight (λ xs. odds xs ≡ values 4 (λ i. sample xs (2 * i + 1))) (λ a b c d e f x y. refl) xs long

-- ---- the high words of two vectors, in turn
abbrev high_places : List ℕ
high_places = 1 ∷ 9 ∷ 3 ∷ 11 ∷ 5 ∷ 13 ∷ 7 ∷ 15 ∷ []

abbrev shifted_down : List ℤ → List ℤ
shifted_down zs = map (λ z. shr_z z (2 ^ 32)) zs

picked_high : (even odd : List ℤ) → length even ≡ 4 → length odd ≡ 4 →
    pick_l 0 (bits_of w32 (halves even) ++ bits_of w32 (halves odd)) high_places ≡ bits_of w32
    (shifted_down (in_turn even odd))
picked_high even odd long_even long_odd =
    by_four (λ even. pick_l 0 (bits_of w32 (halves even) ++ bits_of w32 (halves odd)) high_places ≡ bits_of w32
    (shifted_down (in_turn even odd)))
    (λ a b c d. by_four (λ odd. pick_l 0 (bits_of w32 (halves (a ∷ b ∷ c ∷ d ∷ [])) ++ bits_of w32 (halves odd))
    high_places ≡ bits_of w32 (shifted_down (in_turn (a ∷ b ∷ c ∷ d ∷ []) odd))) (λ e f x y. refl) odd long_odd)
    even
    long_even

pub high_words_are : (even odd : List ℤ) → length even ≡ 4 → length odd ≡ 4 → Each1 (SFits w64) even →
    Each1 (SFits w64) odd
    → (map (to_z w32) (pick_l 0 (narrow_lanes (bits_of w64 even) ++ narrow_lanes (bits_of w64 odd)) high_places)
    ≡ shifted_down (in_turn even odd)) × Each1 (SFits w32) (shifted_down (in_turn even odd))
high_words_are even odd long_even long_odd f g =
    let fit = Each1-map (SFits w64) (SFits w32) (λ z. shr_z z (2 ^ 32)) high_fits (in_turn even odd)
    (each_in_turn (SFits w64) even odd f g) in (
      ap (map (to_z w32)) ((λ i. pick_l 0 (narrow_are even long_even f i ++ narrow_are odd long_odd g i) high_places)
          ∙ picked_high even odd long_even long_odd)
          ∙ ints_of_bits w32 (shifted_down (in_turn even odd)) fit,
      fit,
    )

-- ---- products of the words and one number
pub read_fit : (w : Width) (xs : List ℤ) → Each1 (SFits w) xs → Each1 (SFits w) (map (to_z w) (bits_of w xs))
read_fit w xs f = (lanes_read w (bits_of w xs) xs refl f).1

pub read_long : (w : Width) (n : ℕ) (xs : List ℤ) → length xs ≡ n → length (map (to_z w) (bits_of w xs)) ≡ n
read_long w n xs long = length-map (bits_of w xs) (to_z w) ∙ length-map xs (of_z w) ∙ long

abbrev product_words : List ℤ → List ℤ → List ℤ
product_words xs ts = map (to_z w64) (zip2 (times_in w64) (bits_of w64 xs) (bits_of w64 ts))

products_are : (xs : List ℤ) (t : ℤ) → length xs ≡ 4 → Each1 (SFits w32) xs → SFits w32 t →
    (product_words xs (replicate 4 t) ≡ map (λ x. x *ℤ t) xs) × Each1 (SFits w64) (product_words xs (replicate 4 t))
products_are xs t long f g =
    let ts = replicate 4 t in
    let fit = Each1-replicate (SFits w32) 4 t g in
    let made = products_in w32 w64 (omega arith) (omega arith) xs ts f fit in
    let read = lanes_read w64 (zip2 (times_in w64) (bits_of w64 xs) (bits_of w64 ts)) (zip2 (λ x y. x *ℤ y) xs ts)
    ((λ i. zip2 (times_in w64) (sym (casts_are w32 w64 xs f) i) (sym (casts_are w32 w64 ts fit) i)) ∙ made.0) made.1 in
    (read.0 ∙ zip2_splat (λ x y. x *ℤ y) xs 4 t long, read.1)

abbrev pub read_words : List ℤ → List ℤ
read_words xs = map (to_z w32) (bits_of w32 xs)

pub factors : (fs : List ℤ) (t : ℤ) → SFits w32 t →
    fs ≡ values 4 (λ i. sample (map (to_z w32) (replicate 8 (of_z w32 t))) (2 * i)) → fs ≡ replicate 4 t
factors fs t g is = is ∙ (λ i. replicate 4 (to_z-of_z w32 t g i))

pub evens_are : (xs es : List ℤ) → length xs ≡ 8 → Each1 (SFits w32) xs →
    es ≡ values 4 (λ i. sample (read_words xs) (2 * i)) → es ≡ evens xs
evens_are xs es long f is = is ∙ (λ i. values 4 (λ k. sample (ints_of_bits w32 xs f i) (2 * k))) ∙
    by_eight (λ xs. values 4 (λ i. sample xs (2 * i)) ≡ evens xs) (λ a b c d e f x y. refl) xs long

pub odds_are : (xs os : List ℤ) → length xs ≡ 8 → Each1 (SFits w32) xs →
    os ≡ values 4 (λ i. sample (read_words xs) (2 * i + 1)) → os ≡ odds xs
odds_are xs os long f is = is ∙ (λ i. values 4 (λ k. sample (ints_of_bits w32 xs f i) (2 * k + 1))) ∙
    by_eight (λ xs. values 4 (λ i. sample xs (2 * i + 1)) ≡ odds xs) (λ a b c d e f x y. refl) xs long

module _ (xs fs es os : List ℤ) (t : ℤ) (long : length xs ≡ 8) (f : Each1 (SFits w32) xs) (g : SFits w32 t)
    (fs_is : fs ≡ values 4 (λ i. sample (map (to_z w32) (replicate 8 (of_z w32 t))) (2 * i)))
    (es_is : es ≡ values 4 (λ i. sample (read_words xs) (2 * i)))
    (os_is : os ≡ values 4 (λ i. sample (read_words xs) (2 * i + 1))) where
  even_products : (product_words es fs ≡ map (λ x. x *ℤ t) (evens xs)) × Each1 (SFits w64) (product_words es fs)
  even_products =
      let made = products_are (evens xs) t (length-evens 4 xs long) (each_even (SFits w32) xs f) g in
      let same : product_words es fs ≡ product_words (evens xs) (replicate 4 t) =
      λ i. product_words (evens_are xs es long f es_is i) (factors fs t g fs_is i) in
      (same ∙ made.0, subst (λ (l : List ℤ). Each1 (SFits w64) l) (sym same) made.1)

  odd_products : (product_words os fs ≡ map (λ x. x *ℤ t) (odds xs)) × Each1 (SFits w64) (product_words os fs)
  odd_products =
      let made = products_are (odds xs) t (length-odds 4 xs long) (each_odd (SFits w32) xs f) g in
      let same : product_words os fs ≡ product_words (odds xs) (replicate 4 t) =
      λ i. product_words (odds_are xs os long f os_is i) (factors fs t g fs_is i) in
      (same ∙ made.0, subst (λ (l : List ℤ). Each1 (SFits w64) l) (sym same) made.1)

  pub even_products_fit : Each1 (SFits w64) (product_words es fs)
  even_products_fit = even_products.1

  pub odd_products_fit : Each1 (SFits w64) (product_words os fs)
  odd_products_fit = odd_products.1

  pub high_products_are : shifted_down (in_turn (product_words es fs) (product_words os fs)) ≡ map
      (λ x. shr_z (x *ℤ t) (2 ^ 32)) xs
  high_products_are =
      (λ i. shifted_down (in_turn (even_products.0 i) (odd_products.0 i)))
      ∙ by_eight (λ xs. shifted_down (in_turn (map (λ x. x *ℤ t) (evens xs)) (map (λ x. x *ℤ t) (odds xs))) ≡ map
      (λ x. shr_z (x *ℤ t) (2 ^ 32)) xs) (λ a b c d e f x y. refl) xs long
