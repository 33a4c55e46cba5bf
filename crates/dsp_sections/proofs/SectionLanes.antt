-- The next outputs of a section in lanes: in Q15 of 32 bits, in Q31 of 64 bits, of which the low word counts.
use Rattle.std.proofs.Common.{ℕ, ◌≡◌, ◌<◌, ◌≤◌, ◌*◌, ◌%◌, ◌^◌, List, length, map, replicate, sym, ap, ◌∙◌, arith, w16}
use Rattle.std.proofs.Common.{w32, w64}
use Rattle.std.proofs.lemmas.Int.{ints, int_wrap_fits, SFits-int_wrap, int_wrap-add_left}
use Rattle.std.proofs.lemmas.Nat.{and_mask, mod_below}
use Rattle.std.proofs.lemmas.Simd.{map-map, zip2_splat}
use Rattle.std.specs.Prelude.{ℤ, pos, negsuc, ◌+ℤ◌, ◌*ℤ◌}
use Rattle.std.specs.List.{range_with_len}
use Rattle.std.specs.Int.{int_wrap, saturate_to_bits}
use Rattle.std.proofs.lemmas.List.FromFn.{length-map-range_with_len}
use lib.Lanes.{zip2, Each1}
use lib.Pow.{pow_pos}
use lib.Signed.{shr_z, mag_shr}
use native.Mathlib.Nat.{lt_of_le_of_lt}
use mir.Syntax.{bit_and}
use mir.Val.{SFits, to_z, of_z}
use borrow.Table.Row.{s_int}
use borrow.Rule.Simd.Lanes.{act2}
use Rattle.dsp_sat.proofs.Words.{product_fits}
use Rattle.dsp_defs.specs.Signal.{sample, values}
use Rattle.dsp_lanes.proofs.LaneOps.{bits_of, cast_lanes, widened, narrowed}
use Rattle.dsp_lanes.proofs.LaneSums.{plus_in, times_in}
use Rattle.dsp_lanes.proofs.LaneClosings.{Castable, down_in, up_in, low_lanes, low_word}
use Rattle.dsp_lanes.proofs.ProductPairs.{IsSmall, product_small}
use Rattle.dsp_lanes.proofs.Fractions.{less_in}
use Rattle.dsp_sections.proofs.LaneValues.{AreValues, listed, of_list, of_splat, same_values, sums}
use Rattle.dsp_sections.proofs.LaneValues.{differences, multiples, downs, ups, wides, products, narrows_asked, narrows}
use Rattle.dsp_sections.proofs.LaneValues.{read_values, sample_fits}
use Rattle.dsp_sections.proofs.FloorShifts.{upper_word, unsigned_word}
use Rattle.dsp_sections.proofs.SectionHalves.{five_shifted}

-- ---- Q15
module _ (n : ℕ) where
  abbrev product_16 : ℤ → List ℤ → List ℕ
  product_16 f xs = zip2 (times_in w32) (cast_lanes w16 w32 (replicate n (of_z w16 f))) (widened w16 w32 xs)

  product_16_is : (f : ℤ) (xs : List ℤ) → length xs ≡ n → SFits w16 f → Each1 (SFits w16) xs
      → AreValues w32 n (product_16 f xs) (λ i. f *ℤ sample xs i)
  product_16_is f xs long g h = products w16 w32 n (omega arith) (omega arith) (of_splat w16 n f g)
      (of_list w16 n xs long h (omega (arith, ints)))

  abbrev ones : List ℕ
  ones = replicate n (of_z w32 (negsuc 0))

  abbrev sum_lanes : List ℕ → List ℕ → List ℕ
  sum_lanes xs ys = zip2 (plus_in w32) xs ys

  abbrev down_lanes : ℕ → List ℕ → List ℕ
  down_lanes k xs = zip2 (down_in w32) xs (replicate n k)

  abbrev high_halves : List ℕ → List ℕ → List ℕ → List ℕ
  high_halves first second p3 = sum_lanes (sum_lanes (down_lanes 16 (sum_lanes first ones))
      (down_lanes 16 (sum_lanes second ones))) (down_lanes 16 p3)

  abbrev parts_16 : ℕ → ℕ → List ℕ → List ℕ → List ℕ
  parts_16 k e low high = sum_lanes (zip2 (up_in w32) high (replicate n e))
      (down_lanes k (zip2 (less_in w32) low (zip2 (up_in w32) high (replicate n 16))))

  abbrev lanes_16 : ℕ → ℕ → List ℕ → List ℕ → List ℕ → List ℕ → List ℕ → List ℕ
  lanes_16 k e p0 p1 p2 p3 p4 = parts_16 k e (sum_lanes (sum_lanes (sum_lanes p0 p1) (sum_lanes p2 p4)) p3)
      (high_halves (sum_lanes p0 p1) (sum_lanes p2 p4) p3)

  module _ (x x1 x2 y1 y2 : List ℤ) (b0 b1 b2 a1 a2 : ℤ)
      (long : length x ≡ n) (long1 : length x1 ≡ n) (long2 : length x2 ≡ n) (long3 : length y1 ≡ n)
      (long4 : length y2 ≡ n)
      (fit : Each1 (SFits w16) x) (fit1 : Each1 (SFits w16) x1) (fit2 : Each1 (SFits w16) x2)
      (fit3 : Each1 (SFits w16) y1) (fit4 : Each1 (SFits w16) y2)
      (g0 : SFits w16 b0) (g1 : SFits w16 b1) (g2 : SFits w16 b2) (g3 : SFits w16 a1) (g4 : SFits w16 a2)
      (k e : ℕ) (both : 2 ^ e * 2 ^ k ≡ 65536) (some : 4 ≤ 2 ^ k) (power : SFits w32 (pos (2 ^ e))) where
    abbrev next_16 : List ℕ
    next_16 = lanes_16 k e (product_16 b0 x) (product_16 b1 x1) (product_16 b2 x2) (product_16 a1 y1) (product_16 a2 y2)

    abbrev sum_16 : ℕ → ℤ
    sum_16 i = b0 *ℤ sample x i +ℤ b1 *ℤ sample x1 i +ℤ b2 *ℤ sample x2 i +ℤ (a1 *ℤ sample y1 i +ℤ a2 *ℤ sample y2 i)

    small : (f : ℤ) (xs : List ℤ) → SFits w16 f → Each1 (SFits w16) xs → (i : ℕ) → IsSmall (f *ℤ sample xs i)
    small f xs g h i = product_small f (sample xs i) g (sample_fits w16 xs h (omega (arith, ints)) i)

    next_16_is : AreValues w32 n next_16 (λ i. shr_z (sum_16 i) (2 ^ k))
    next_16_is =
        let p0 = product_16_is b0 x long g0 fit in
        let p1 = product_16_is b1 x1 long1 g1 fit1 in
        let p2 = product_16_is b2 x2 long2 g2 fit2 in
        let p3 = product_16_is a1 y1 long3 g3 fit3 in
        let p4 = product_16_is a2 y2 long4 g4 fit4 in
        let one = of_splat w32 n (negsuc 0) (omega (arith, ints)) in
        let first = sums w32 n p0 p1 in
        let second = sums w32 n p2 p4 in
        let low = sums w32 n (sums w32 n first second) p3 in
        let high = sums w32 n (sums w32 n (downs w32 n 16 (sums w32 n first one))
        (downs w32 n 16 (sums w32 n second one))) (downs w32 n 16 p3) in
        let rest = differences w32 n low (ups w32 n 16 (omega (arith, ints)) high) in
        same_values w32 n (λ i. shr_z (sum_16 i) (2 ^ k)) (sums w32 n (ups w32 n e power high) (downs w32 n k rest))
        (λ i. five_shifted (b0 *ℤ sample x i) (b1 *ℤ sample x1 i) (b2 *ℤ sample x2 i) (a1 *ℤ sample y1 i)
        (a2 *ℤ sample y2 i)
        (small b0 x g0 fit i) (small b1 x1 g1 fit1 i) (small b2 x2 g2 fit2 i) (small a1 y1 g3 fit3 i)
        (small a2 y2 g4 fit4 i) k e both some)

    pub next_16_cast : Castable w32 w16 (narrowed w32 w16 n next_16)
    next_16_cast = narrows_asked w16 w32 n (omega arith) next_16_is

    pub next_16_read : (map (to_z w16) (cast_lanes w32 w16 (narrowed w32 w16 n next_16)) ≡ values n
        (λ i. saturate_to_bits 15 (shr_z (sum_16 i) (2 ^ k))))
        × Each1 (SFits w16) (map (to_z w16) (cast_lanes w32 w16 (narrowed w32 w16 n next_16)))
    next_16_read = narrows w16 w32 n (omega arith) next_16_is

-- ---- Q31
-- wrapped additions, one after another, are the wrapped sum
in_turn : (p0 p1 p2 p3 p4 : ℤ) → int_wrap w64 (int_wrap w64 (int_wrap w64 (int_wrap w64 (p0 +ℤ p1) +ℤ p2) +ℤ p4) +ℤ p3)
    ≡ int_wrap w64 (p0 +ℤ p1 +ℤ p2 +ℤ (p3 +ℤ p4))
in_turn p0 p1 p2 p3 p4 =
    let three = int_wrap-add_left w64 (p0 +ℤ p1) p2 in
    let four = ap (λ v. int_wrap w64 (v +ℤ p4)) three ∙ int_wrap-add_left w64 (p0 +ℤ p1 +ℤ p2) p4 in
    let five = ap (λ v. int_wrap w64 (v +ℤ p3)) four ∙ int_wrap-add_left w64 (p0 +ℤ p1 +ℤ p2 +ℤ p4) p3 in
    five ∙ ap (int_wrap w64) (order p0 p1 p2 p3 p4)
  where
    order : (p0 p1 p2 p3 p4 : ℤ) → p0 +ℤ p1 +ℤ p2 +ℤ p4 +ℤ p3 ≡ p0 +ℤ p1 +ℤ p2 +ℤ (p3 +ℤ p4)
    order p0 p1 p2 p3 p4 = omega (arith, ints)

abbrev pub and_in : ℕ → ℕ → ℕ
and_in = act2 bit_and (s_int w64) (s_int w64) (s_int w64)

and_lane : (a : ℕ) → and_in a 4294967295 ≡ a % 2 ^ 32
and_lane a = and_mask a 32

module _ (n : ℕ) where
  -- lanes of which the low word stays
  pub masks : {A : List ℕ} {f : ℕ → ℤ} → AreValues w64 n A f
      → AreValues w64 n (zip2 and_in A (replicate n 4294967295)) (λ i. pos (of_z w64 (f i) % 2 ^ 32))
  masks {f = f} a = record {
    are = ap (λ l. zip2 and_in l (replicate n 4294967295)) (a.are ∙ map-map (of_z w64) f (range_with_len 0 n))
        ∙ zip2_splat and_in (map (λ i. of_z w64 (f i)) (range_with_len 0 n)) n 4294967295
        (length-map-range_with_len (λ i. of_z w64 (f i)) 0 n)
        ∙ map-map (λ b. and_in b 4294967295) (λ i. of_z w64 (f i)) (range_with_len 0 n)
        ∙ (λ t. map (λ i. and_lane (of_z w64 (f i)) t) (range_with_len 0 n))
        ∙ sym (map-map (of_z w64) (λ i. pos (of_z w64 (f i) % 2 ^ 32)) (range_with_len 0 n));
    fit = λ i. record { sfits = word_below (of_z w64 (f i)) };
  }
    where
      word_below : (a : ℕ) → a % 2 ^ 32 < 2 ^ 63
      word_below a = let h : a % 2 ^ 32 < 2 ^ 32 = mod_below a (2 ^ 32) (omega arith) in omega (arith, h)

  -- numbers of 32 bits in the low words of their lanes
  pub masked_read : (xs : List ℤ) → length xs ≡ n → Each1 (SFits w32) xs
      → (map (int_wrap w32) (map (to_z w64) (zip2 and_in (widened w32 w64 xs) (replicate n 4294967295))) ≡ xs)
      × Each1 (SFits w64) (map (to_z w64) (zip2 and_in (widened w32 w64 xs) (replicate n 4294967295)))
  masked_read xs long h =
      let wide = wides w32 w64 n (omega arith) (of_list w32 n xs long h (omega (arith, ints))) in
      let read = read_values w64 n (masks wide) in (
        ap (map (int_wrap w32)) read.0
            ∙ map-map (int_wrap w32) (λ i. pos (of_z w64 (sample xs i) % 2 ^ 32)) (range_with_len 0 n)
            ∙ (λ t. map (λ i. (unsigned_word (sample xs i) (wide.fit i)
            ∙ int_wrap_fits w32 (sample xs i) (sample_fits w32 xs h (omega (arith, ints)) i)) t) (range_with_len 0 n))
            ∙ sym (listed n xs long),
        read.1,
      )

  abbrev product_32 : ℤ → List ℤ → List ℕ
  product_32 f xs = zip2 (times_in w64) (cast_lanes w32 w64 (replicate n (of_z w32 f))) (low_lanes n (bits_of w64 xs))

  product_32_is : (f : ℤ) (xs : List ℤ) → length xs ≡ n → SFits w32 f → Each1 (SFits w64) xs
      → AreValues w64 n (product_32 f xs) (λ i. f *ℤ int_wrap w32 (sample xs i))
  product_32_is f xs long g h =
      let factors = wides w32 w64 n (omega arith) (of_splat w32 n f g) in
      let given = of_list w64 n xs long h (omega (arith, ints)) in
      let low = same_values w64 n (λ i. int_wrap w32 (sample xs i))
      (downs w64 n 32 (ups w64 n 32 (omega (arith, ints)) given)) (λ i. low_word (sample xs i)) in
      same_values w64 n (λ i. f *ℤ int_wrap w32 (sample xs i)) (multiples w64 n factors low)
      (λ i. int_wrap_fits w64 (f *ℤ int_wrap w32 (sample xs i))
      (product_fits w64 w32 w32 f (int_wrap w32 (sample xs i)) g (SFits-int_wrap w32 (sample xs i)) (omega arith)))

  module _ (x x1 x2 y1 y2 : List ℤ) (b0 b1 b2 a1 a2 : ℤ)
      (long : length x ≡ n) (long1 : length x1 ≡ n) (long2 : length x2 ≡ n) (long3 : length y1 ≡ n)
      (long4 : length y2 ≡ n)
      (fit : Each1 (SFits w64) x) (fit1 : Each1 (SFits w64) x1) (fit2 : Each1 (SFits w64) x2)
      (fit3 : Each1 (SFits w64) y1) (fit4 : Each1 (SFits w64) y2)
      (g0 : SFits w32 b0) (g1 : SFits w32 b1) (g2 : SFits w32 b2) (g3 : SFits w32 a1) (g4 : SFits w32 a2)
      (k e : ℕ) (both : 2 ^ k * 2 ^ e ≡ 2 ^ 32) (power : SFits w64 (pos (2 ^ e))) where
    abbrev sum_32 : ℕ → ℤ
    sum_32 i = b0 *ℤ int_wrap w32 (sample x i) +ℤ b1 *ℤ int_wrap w32 (sample x1 i) +ℤ b2 *ℤ int_wrap w32 (sample x2 i)
        +ℤ (a1 *ℤ int_wrap w32 (sample y1 i) +ℤ a2 *ℤ int_wrap w32 (sample y2 i))

    abbrev sum_lanes_32 : List ℕ
    sum_lanes_32 = zip2 (plus_in w64) (zip2 (plus_in w64)
        (zip2 (plus_in w64) (zip2 (plus_in w64) (product_32 b0 x) (product_32 b1 x1)) (product_32 b2 x2))
        (product_32 a2 y2)) (product_32 a1 y1)

    abbrev next_32 : List ℕ
    next_32 = zip2 and_in (zip2 (down_in w64) (zip2 (up_in w64) sum_lanes_32 (replicate n e)) (replicate n 32))
        (replicate n 4294967295)

    abbrev upper : ℕ → ℤ
    upper i = shr_z (int_wrap w64 (int_wrap w64 (sum_32 i) *ℤ pos (2 ^ e))) (2 ^ 32)

    next_32_is : AreValues w64 n next_32 (λ i. pos (of_z w64 (upper i) % 2 ^ 32))
    next_32_is =
        let p0 = product_32_is b0 x long g0 fit in
        let p1 = product_32_is b1 x1 long1 g1 fit1 in
        let p2 = product_32_is b2 x2 long2 g2 fit2 in
        let p3 = product_32_is a1 y1 long3 g3 fit3 in
        let p4 = product_32_is a2 y2 long4 g4 fit4 in
        let sum = same_values w64 n (λ i. int_wrap w64 (sum_32 i))
        (sums w64 n (sums w64 n (sums w64 n (sums w64 n p0 p1) p2) p4) p3)
        (λ i. in_turn (b0 *ℤ int_wrap w32 (sample x i)) (b1 *ℤ int_wrap w32 (sample x1 i))
        (b2 *ℤ int_wrap w32 (sample x2 i)) (a1 *ℤ int_wrap w32 (sample y1 i)) (a2 *ℤ int_wrap w32 (sample y2 i))) in
        masks (downs w64 n 32 (ups w64 n e power sum))

    -- the low words are the outputs
    pub next_32_read : (map (int_wrap w32) (map (to_z w64) next_32) ≡ values n
        (λ i. int_wrap w32 (shr_z (int_wrap w64 (sum_32 i)) (2 ^ k)))) × Each1 (SFits w64) (map (to_z w64) next_32)
    next_32_read =
        let read = read_values w64 n next_32_is in (
          ap (map (int_wrap w32)) read.0
              ∙ map-map (int_wrap w32) (λ i. pos (of_z w64 (upper i) % 2 ^ 32)) (range_with_len 0 n)
              ∙ (λ t. map (λ i. (unsigned_word (upper i) (upper_fits i)
              ∙ upper_word (int_wrap w64 (sum_32 i)) (2 ^ e) (2 ^ k) (pow_pos e) (pow_pos k) both) t)
              (range_with_len 0 n)),
          read.1,
        )
      where
        upper_fits : (i : ℕ) → SFits w64 (upper i)
        upper_fits i = let less = mag_shr (int_wrap w64 (int_wrap w64 (sum_32 i) *ℤ pos (2 ^ e))) (2 ^ 32) in
            record { sfits = lt_of_le_of_lt less (SFits-int_wrap w64 (int_wrap w64 (sum_32 i) *ℤ pos (2 ^ e))).sfits }
