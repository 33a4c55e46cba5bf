-- Eight outputs whose sums lie in two parts.
use Rattle.std.proofs.Common.{ℕ, ◌≡◌, ◌≤◌, ◌<◌, ◌+◌, ◌^◌, zero, suc, List, [], ◌∷◌, length, map, replicate, refl, sym}
use Rattle.std.proofs.Common.{ap, subst, ◌∙◌, arith, w16, w32, w64}
use Rattle.std.proofs.lemmas.Int.{ints, int_wrap_fits}
use Rattle.std.proofs.lemmas.Simd.{length-zip2, Each1-replicate, length-replicate, zip2_splat_left, map-map}
use Rattle.std.specs.List.{All}
use Rattle.std.specs.Prelude.{ℤ, pos, negsuc, ◌+ℤ◌, ◌*ℤ◌}
use Rattle.std.specs.Int.{int_wrap, saturate_to_bits}
use lib.IntN.{+ℤ_idr}
use lib.Lanes.{zip2, Each1, Each2}
use lib.Signed.{shr_z}
use mir.Val.{SFits, to_z, of_z}
use Rattle.dsp_defs.specs.Formats.{close}
use Rattle.dsp_defs.specs.Signal.{sample}
use Rattle.dsp_defs.specs.declared.format.Fmt.TheVariants.{Q15}
use Rattle.dsp_lanes.specs.HighSums.{AreParts, AreHighSums, whole_of, wholes}
use Rattle.dsp_lanes.specs.Pairs.{four, in_turn}
use Rattle.dsp_lanes.proofs.LaneOps.{bits_of, splat_bits, cast_lanes, widened, narrowed, narrow_asked, narrow_is}
use Rattle.dsp_lanes.proofs.LaneOps.{each_pair, map-same, zip2-right, length-map}
use Rattle.dsp_lanes.proofs.LaneSums.{times_in, raised, lanes_read, products_in}
use Rattle.dsp_lanes.proofs.LaneClosings.{Castable}
use Rattle.dsp_lanes.proofs.HalfSums.{picked, evens, odds, products, evens_of_eight, odds_of_eight, each_even}
use Rattle.dsp_lanes.proofs.HalfSums.{each_odd, length-evens, length-odds, in_turn-zip2, in_turn_of_eight}
use Rattle.dsp_lanes.proofs.HalfSums.{turned_eight, each_in_turn}
use Rattle.dsp_lanes.proofs.PairSums.{pair_at}
use Rattle.dsp_lanes.proofs.ProductPairs.{IsSmall, product_small, less_fits}
use Rattle.dsp_lanes.proofs.HighSums.{IsNear, whole_fits}

-- ---- two taps
pub four_near : (taps window : List ℤ) (j at : ℕ) → All (SFits w16) taps → All (SFits w16) window →
    j + 2 ≤ length taps → at + 8 ≤ length window → Each1 IsNear (four (pair_at taps window j) at)
four_near taps window j at f g room_t room = (
  near at (omega arith),
  (near (at + 2) (omega arith), (near (at + 4) (omega arith), (near (at + 6) (omega arith), tt))),
)
  where
    near : (p : ℕ) → p + 2 ≤ length window → IsNear (pair_at taps window j p)
    near p inside =
        less_fits (sample window p *ℤ sample taps j) (sample window (p + 1) *ℤ sample taps (j + 1))
        (product_small (sample window p) (sample taps j) (g p (pos 0) (omega arith)) (f j (pos 0) (omega arith)))
        (product_small (sample window (p + 1)) (sample taps (j + 1)) (g (p + 1) (pos 0) (omega arith))
        (f (j + 1) (pos 0) (omega arith)))

-- ---- one tap
small_near : (p : ℤ) → IsSmall p → IsNear p
small_near (pos a) f = omega (arith, ints, f)
small_near (negsuc a) f = omega (arith, ints, f)

each_wrapped : (xs : List ℤ) → Each1 (SFits w32) xs → map (int_wrap w32) xs ≡ xs
each_wrapped [] f = refl
each_wrapped (x ∷ xs) f = (λ i. int_wrap_fits w32 x f.0 i ∷ each_wrapped xs f.1 i)

abbrev tap_products : ℤ → List ℤ → List ℕ
tap_products t xs = zip2 (times_in w32) (cast_lanes w16 w32 (replicate 8 (of_z w16 t))) (widened w16 w32 xs)

-- half of the products of a tap
abbrev half_products : ℤ → List ℤ → List ℕ → List ℤ
half_products t xs places = map (to_z w32) (picked (tap_products t xs) places)

module _ (t : ℤ) (xs : List ℤ) (long : length xs ≡ 8) (f : SFits w16 t) (g : Each1 (SFits w16) xs) where
  ps : List ℤ
  ps = products (replicate 8 t) xs

  long_ps : length ps ≡ 8
  unfolding ps
  long_ps = length-zip2 (λ t x. t *ℤ x) (replicate 8 t) xs (length-replicate 8 t ∙ sym long) ∙ length-replicate 8 t

  made : (tap_products t xs ≡ bits_of w32 ps) × Each1 (SFits w32) ps
  unfolding ps
  made =
      let both = products_in w16 w32 (omega arith) (omega arith) (replicate 8 t) xs
      (Each1-replicate (SFits w16) 8 t f) g in
      (ap (λ l. zip2 (times_in w32) (cast_lanes w16 w32 l) (widened w16 w32 xs)) (splat_bits w16 8 t) ∙ both.0, both.1)

  near : Each1 IsNear ps
  unfolding ps
  near = each_pair (SFits w16) IsNear (λ t x. t *ℤ x) (λ t x p q. small_near (t *ℤ x) (product_small t x p q))
      (replicate 8 t) xs (Each1-replicate (SFits w16) 8 t f) g

  pub even_products : List ℤ
  even_products = evens ps

  pub odd_products : List ℤ
  odd_products = odds ps

  pub even_read : (half_products t xs (0 ∷ 2 ∷ 4 ∷ 6 ∷ []) ≡ map (int_wrap w32) even_products) ×
      Each1 (SFits w32) (half_products t xs (0 ∷ 2 ∷ 4 ∷ 6 ∷ []))
  unfolding even_products
  even_read =
      let fit = each_even (SFits w32) ps made.1 in
      let read = lanes_read w32 _ (evens ps) (ap (λ l. picked l (0 ∷ 2 ∷ 4 ∷ 6 ∷ [])) made.0 ∙
      evens_of_eight w32 ps long_ps) fit in
      (read.0 ∙ sym (each_wrapped (evens ps) fit), read.1)

  pub odd_read : (half_products t xs (1 ∷ 3 ∷ 5 ∷ 7 ∷ []) ≡ map (int_wrap w32) odd_products) ×
      Each1 (SFits w32) (half_products t xs (1 ∷ 3 ∷ 5 ∷ 7 ∷ []))
  unfolding odd_products
  odd_read =
      let fit = each_odd (SFits w32) ps made.1 in
      let read = lanes_read w32 _ (odds ps) (ap (λ l. picked l (1 ∷ 3 ∷ 5 ∷ 7 ∷ [])) made.0 ∙
      odds_of_eight w32 ps long_ps) fit in
      (read.0 ∙ sym (each_wrapped (odds ps) fit), read.1)

  pub even_near : Each1 IsNear even_products × (length even_products ≡ 4)
  unfolding even_products
  even_near = (each_even IsNear ps near, length-evens 4 ps long_ps)

  pub odd_near : Each1 IsNear odd_products × (length odd_products ≡ 4)
  unfolding odd_products
  odd_near = (each_odd IsNear ps near, length-odds 4 ps long_ps)

  pub tap_raises : (even odd : List ℤ) → length even ≡ 4 → length odd ≡ 4
      → in_turn (raised w64 even even_products) (raised w64 odd odd_products) ≡ zip2
      (λ s x. int_wrap w64 (s +ℤ (t *ℤ x))) (in_turn even odd) xs
  unfolding ps even_products odd_products
  tap_raises even odd long_even long_odd =
      in_turn-zip2 (λ s p. int_wrap w64 (s +ℤ p)) even odd ps
      (long_ps ∙ sym (ap (λ n. n + length odd) long_even ∙ ap (λ n. 4 + n) long_odd))
      ∙ ap (zip2 (λ s p. int_wrap w64 (s +ℤ p)) (in_turn even odd)) (zip2_splat_left (λ t x. t *ℤ x) t 8 xs long)
      ∙ zip2-right (λ s p. int_wrap w64 (s +ℤ p)) (λ x. t *ℤ x) (in_turn even odd) xs

-- ---- closing
pub wholes_fit : (n : ℕ) (low high : List ℤ) → n < 32768 → Each2 (AreParts n) low high →
    Each1 (SFits w64) (wholes low high)
wholes_fit n [] high few parts = tt
wholes_fit n (l ∷ low) [] few parts = tt
wholes_fit n (l ∷ low) (h ∷ high) few parts =
    let part = parts.0 in
    let fits : SFits w64 (((h *ℤ pos 65536) +ℤ pos part.rest) +ℤ pos 0) =
    whole_fits n h (pos 0) part.rest few part.high_small part.rest_small (omega (arith, ints)) in (
      subst (λ (r : ℤ). SFits w64 ((h *ℤ pos 65536) +ℤ r)) (sym part.rest_is)
          (subst (λ (z : ℤ). SFits w64 z) (+ℤ_idr ((h *ℤ pos 65536) +ℤ pos part.rest)) fits),
      wholes_fit n low high few parts.1,
    )

in_turn-map : (f : ℤ → ℤ) (xs ys : List ℤ) → in_turn (map f xs) (map f ys) ≡ map f (in_turn xs ys)
in_turn-map f [] ys = refl
in_turn-map f (x ∷ xs) [] = refl
in_turn-map f (x ∷ xs) (y ∷ ys) = ap (λ l. f x ∷ f y ∷ l) (in_turn-map f xs ys)

length-in_turn : (n : ℕ) (xs ys : List ℤ) → length xs ≡ n → length ys ≡ n → length (in_turn xs ys) ≡ n + n
length-in_turn n [] ys e f = omega (arith, e)
length-in_turn n (x ∷ xs) [] e f = absurd (omega (arith, e, f))
length-in_turn zero (x ∷ xs) (y ∷ ys) e f = absurd (omega (arith, e))
length-in_turn (suc n) (x ∷ xs) (y ∷ ys) e f = let rest =
    length-in_turn n xs ys (omega (arith, e)) (omega (arith, f)) in omega (arith, rest)

pub closes_high : (es os we wo : List ℤ) → length es ≡ 4 → length os ≡ 4 → Each1 (SFits w32) es →
    Each1 (SFits w32) os → es ≡ map (λ s. shr_z s (2 ^ 15)) we → os ≡ map (λ s. shr_z s (2 ^ 15)) wo
    → Each1 (SFits w64) we → Each1 (SFits w64) wo
    → Castable w32 w16 (narrowed w32 w16 8 (in_turn_of_eight w32 es os))
    × (map (to_z w16) (cast_lanes w32 w16 (narrowed w32 w16 8 (in_turn_of_eight w32 es os))) ≡ map (close Q15)
    (in_turn we wo))
closes_high es os we wo long_e long_o fit_e fit_o is_e is_o whole_e whole_o =
    let down : ℤ → ℤ = λ s. shr_z s (2 ^ 15) in
    let lanes = turned_eight w32 es os long_e long_o in
    let fit = each_in_turn (SFits w32) es os fit_e fit_o in
    let long : length (in_turn es os) ≡ 8 = length-in_turn 4 es os long_e long_o in (
      subst (λ (l : List ℕ). Castable w32 w16 (narrowed w32 w16 8 l)) (sym lanes)
          (narrow_asked w32 w16 (omega arith) 8 (in_turn es os) long fit),
      ap (λ l. map (to_z w16) (cast_lanes w32 w16 (narrowed w32 w16 8 l))) lanes
          ∙ narrow_is w32 w16 (omega arith) 8 (in_turn es os) long fit
          ∙ (λ i. map (saturate_to_bits 15) (in_turn (is_e i) (is_o i)))
          ∙ ap (map (saturate_to_bits 15)) (in_turn-map down we wo)
          ∙ map-map (saturate_to_bits 15) down (in_turn we wo)
          ∙ map-same (SFits w64) (λ s. saturate_to_bits 15 (down s)) (close Q15)
          (λ s q. ap (λ z. saturate_to_bits 15 (down z)) (sym (int_wrap_fits w64 s q))) (in_turn we wo)
          (each_in_turn (SFits w64) we wo whole_e whole_o),
    )

pub length-shifted : {n : ℕ} (low high new : List ℤ) → AreHighSums n low high →
    new ≡ map (λ s. shr_z s (2 ^ 15)) (wholes low high) → length new ≡ 4
length-shifted low high new sums is =
    ap length is ∙ length-map (λ s. shr_z s (2 ^ 15)) (wholes low high) ∙
    length-zip2 whole_of low high (sums.low_long ∙ sym sums.high_long) ∙ sums.low_long
