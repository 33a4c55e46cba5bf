-- Sums of products in lanes: samples of a width w, in lanes of a width v that has room for a product.
use Rattle.std.proofs.Common.{ℕ, ◌≡◌, ◌<◌, ◌≤◌, ◌+◌, ◌*◌, ◌^◌, zero, suc, List, [], ◌∷◌, length, map, replicate, refl}
use Rattle.std.proofs.Common.{sym, ap, subst, ◌∙◌, arith}
use Rattle.std.proofs.lemmas.Int.{int_wrap_fits, SFits-int_wrap, int_wrap-add_left, to_z-of_z}
use Rattle.std.proofs.lemmas.Simd.{length-chunk, Each1-replicate}
use Rattle.std.proofs.lemmas.List.{map-id}
use Rattle.std.specs.Prelude.{ℤ, pos, ◌+ℤ◌, ◌*ℤ◌}
use Rattle.std.specs.Int.{int_wrap}
use Rattle.std.specs.List.{All}
use lib.IntN.{+ℤ_idr, +ℤ_idl, +ℤ_assoc}
use lib.Lanes.{zip2, chunk, fold_l, Each1}
use mir.Syntax.{Width, wrap_add, wrap_mul}
use mir.Val.{SFits, to_z, of_z, hbits}
use borrow.Table.Row.{s_int}
use borrow.Rule.Simd.Lanes.{act2}
use Rattle.dsp_sat.proofs.Words.{product_fits}
use Rattle.dsp_lanes.specs.Regrouped.{list_sum}
use Rattle.dsp_lanes.proofs.LaneOps.{bits_of, splat_bits, cast_lanes, ints_of_bits, added, add_ints, multiplied}
use Rattle.dsp_lanes.proofs.LaneOps.{widened, casts_are, each_widens, each_pair, zip2-same, group_fits}

abbrev pub plus_in : Width → ℕ → ℕ → ℕ
plus_in v = act2 wrap_add (s_int v) (s_int v) (s_int v)

abbrev pub times_in : Width → ℕ → ℕ → ℕ
times_in v = act2 wrap_mul (s_int v) (s_int v) (s_int v)

-- numbers that were computed in lanes, read back
pub lanes_read : (v : Width) (lanes : List ℕ) (xs : List ℤ) → lanes ≡ bits_of v xs → Each1 (SFits v) xs →
    (map (to_z v) lanes ≡ xs) × Each1 (SFits v) (map (to_z v) lanes)
lanes_read v lanes xs e f =
    let is = ap (map (to_z v)) e ∙ ints_of_bits v xs f in
    (is, subst (λ (zs : List ℤ). Each1 (SFits v) zs) (sym is) f)

-- sums that are wrapped
abbrev pub raised : Width → List ℤ → List ℤ → List ℤ
raised v lanes ps = zip2 (λ s p. int_wrap v (s +ℤ p)) lanes ps

pub raised_fit : (v : Width) (lanes ps : List ℤ) → Each1 (SFits v) (raised v lanes ps)
raised_fit v [] ps = tt
raised_fit v (s ∷ lanes) [] = tt
raised_fit v (s ∷ lanes) (p ∷ ps) = (SFits-int_wrap v (s +ℤ p), raised_fit v lanes ps)

pub summed_fit : (v : Width) (f : ℤ → ℤ → ℤ) (lanes ps : List ℤ) →
    Each1 (SFits v) (zip2 (λ s p. int_wrap v (f s p)) lanes ps)
summed_fit v f [] ps = tt
summed_fit v f (s ∷ lanes) [] = tt
summed_fit v f (s ∷ lanes) (p ∷ ps) = (SFits-int_wrap v (f s p), summed_fit v f lanes ps)

module _ (w v : Width) (wide : hbits w ≤ hbits v) (room : 2 ^ hbits w * 2 ^ hbits w < 2 ^ hbits v) where
  -- the products of two groups
  pub products_in : (xs ys : List ℤ) → Each1 (SFits w) xs → Each1 (SFits w) ys
      → (zip2 (times_in v) (widened w v xs) (widened w v ys) ≡ bits_of v (zip2 (λ x y. x *ℤ y) xs ys)) ×
      Each1 (SFits v) (zip2 (λ x y. x *ℤ y) xs ys)
  products_in xs ys f g = (
    (λ i. zip2 (times_in v) (casts_are w v xs f i) (casts_are w v ys g i))
        ∙ multiplied v xs ys (each_widens w v wide xs f) (each_widens w v wide ys g)
        ∙ ap (bits_of v) (zip2-same (SFits w) (λ x y. int_wrap v (x *ℤ y)) (λ x y. x *ℤ y)
        (λ x y p q. int_wrap_fits v (x *ℤ y) (product_fits v w w x y p q room)) xs ys f g),
    each_pair (SFits w) (SFits v) (λ x y. x *ℤ y) (λ x y p q. product_fits v w w x y p q room) xs ys f g,
  )

  -- ... added to sums
  pub products_raise : (lanes xs ys : List ℤ) → Each1 (SFits v) lanes → Each1 (SFits w) xs → Each1 (SFits w) ys
      → zip2 (plus_in v) (bits_of v lanes) (zip2 (times_in v) (widened w v xs) (widened w v ys)) ≡ bits_of v
      (raised v lanes (zip2 (λ x y. x *ℤ y) xs ys))
  products_raise lanes xs ys h f g =
      let made = products_in xs ys f g in
      ap (zip2 (plus_in v) (bits_of v lanes)) made.0 ∙ added v lanes (zip2 (λ x y. x *ℤ y) xs ys) h made.1

  abbrev added_lanes : List ℤ → List ℤ → List ℤ → List ℕ
  added_lanes lanes xs ys = zip2 (plus_in v) (bits_of v lanes) (zip2 (times_in v) (widened w v xs) (widened w v ys))

  pub products_added : (at n : ℕ) (lanes taps window : List ℤ) → Each1 (SFits v) lanes → All (SFits w) taps →
      All (SFits w) window → at + n ≤ length taps → at + n ≤ length window
      → (map (to_z v) (added_lanes lanes (chunk at n taps) (chunk at n window))
      ≡ zip2 (λ s p. int_wrap v (s +ℤ p)) lanes (zip2 (λ t x. t *ℤ x) (chunk at n (map (λ x. x) taps))
      (chunk at n (map (λ x. x) window))))
      × Each1 (SFits v) (map (to_z v) (added_lanes lanes (chunk at n taps) (chunk at n window)))
  products_added at n lanes taps window h f g room_t room_w =
      let xs = chunk at n taps in
      let ys = chunk at n window in
      let made = lanes_read v (added_lanes lanes xs ys) (raised v lanes (zip2 (λ t x. t *ℤ x) xs ys))
      (products_raise lanes xs ys h (group_fits w at n taps f room_t) (group_fits w at n window g room_w))
      (raised_fit v lanes (zip2 (λ t x. t *ℤ x) xs ys)) in (
        made.0 ∙ (λ i. raised v lanes (zip2 (λ t x. t *ℤ x) (chunk at n (sym (map-id taps) i))
            (chunk at n (sym (map-id window) i)))),
        made.1,
      )

  -- the products of one tap with a group
  raised_multiples : (n : ℕ) (t : ℤ) (lanes ys : List ℤ) → length ys ≡ n →
      raised v lanes (zip2 (λ x y. x *ℤ y) (replicate n t) ys) ≡ zip2 (λ s x. int_wrap v (s +ℤ (t *ℤ x))) lanes ys
  raised_multiples n t [] ys e = refl
  raised_multiples zero t (s ∷ lanes) [] e = refl
  raised_multiples zero t (s ∷ lanes) (y ∷ ys) e = absurd (omega (arith, e))
  raised_multiples (suc n) t (s ∷ lanes) [] e = absurd (omega (arith, e))
  raised_multiples (suc n) t (s ∷ lanes) (y ∷ ys) e = ap (λ l. int_wrap v (s +ℤ (t *ℤ y)) ∷ l)
      (raised_multiples n t lanes ys (omega arith))

  abbrev multiple_lanes : ℕ → List ℤ → ℤ → List ℤ → List ℕ
  multiple_lanes n lanes t ys = zip2 (plus_in v) (bits_of v lanes)
      (zip2 (times_in v) (cast_lanes w v (replicate n (of_z w t))) (widened w v ys))

  pub multiples_raise : (n : ℕ) (lanes : List ℤ) (t : ℤ) (ys : List ℤ) → length ys ≡ n → Each1 (SFits v) lanes →
      SFits w t → Each1 (SFits w) ys
      → multiple_lanes n lanes t ys ≡ bits_of v (zip2 (λ s x. int_wrap v (s +ℤ (t *ℤ x))) lanes ys)
  multiples_raise n lanes t ys long h f g =
      let ts = replicate n t in
      ap (λ l. zip2 (plus_in v) (bits_of v lanes) (zip2 (times_in v) (cast_lanes w v l) (widened w v ys)))
      (splat_bits w n t)
      ∙ products_raise lanes ts ys h (Each1-replicate (SFits w) n t f) g
      ∙ ap (bits_of v) (raised_multiples n t lanes ys long)

  pub multiples_added : (at n : ℕ) (lanes : List ℤ) (t : ℤ) (window : List ℤ) → Each1 (SFits v) lanes → SFits w t →
      All (SFits w) window → at + n ≤ length window
      → (map (to_z v) (multiple_lanes n lanes t (chunk at n window)) ≡ zip2 (λ s x. int_wrap v (s +ℤ (t *ℤ x))) lanes
      (chunk at n (map (λ x. x) window)))
      × Each1 (SFits v) (map (to_z v) (multiple_lanes n lanes t (chunk at n window)))
  multiples_added at n lanes t window h f g room_w =
      let ys = chunk at n window in
      let made = lanes_read v (multiple_lanes n lanes t ys) (zip2 (λ s x. int_wrap v (s +ℤ (t *ℤ x))) lanes ys)
      (multiples_raise n lanes t ys (length-chunk at n window room_w) h f (group_fits w at n window g room_w))
      (summed_fit v (λ s x. s +ℤ (t *ℤ x)) lanes ys) in
      (made.0 ∙ ap (λ l. zip2 (λ s x. int_wrap v (s +ℤ (t *ℤ x))) lanes (chunk at n l)) (sym (map-id window)), made.1)

-- `reduce_sum`
pub reduces : (v : Width) (a : ℤ) (xs : List ℤ) → SFits v a → Each1 (SFits v) xs →
    fold_l (plus_in v) (of_z v a) (bits_of v xs) ≡ of_z v (int_wrap v (a +ℤ list_sum xs))
reduces v a [] f g = ap (of_z v) (sym (ap (int_wrap v) (+ℤ_idr a) ∙ int_wrap_fits v a f))
reduces v a (x ∷ xs) f g =
    ap (λ z. fold_l (plus_in v) z (bits_of v xs)) (add_ints v a x f g.0)
    ∙ reduces v (int_wrap v (a +ℤ x)) xs (SFits-int_wrap v (a +ℤ x)) g.1
    ∙ ap (of_z v) (int_wrap-add_left v (a +ℤ x) (list_sum xs) ∙ ap (int_wrap v) (+ℤ_assoc a x (list_sum xs)))

pub lanes_sum : (v : Width) (xs : List ℤ) → SFits v (pos 0) → Each1 (SFits v) xs →
    to_z v (fold_l (plus_in v) (of_z v (pos 0)) (bits_of v xs)) ≡ int_wrap v (list_sum xs)
lanes_sum v xs none g =
    ap (to_z v) (reduces v (pos 0) xs none g ∙ ap (λ z. of_z v (int_wrap v z)) (+ℤ_idl (list_sum xs)))
    ∙ to_z-of_z v (int_wrap v (list_sum xs)) (SFits-int_wrap v (list_sum xs))

-- no sums yet
pub empty_lanes : (v : Width) (n : ℕ) → SFits v (pos 0) →
    (map (to_z v) (replicate n (of_z v (pos 0))) ≡ replicate n (pos 0)) ×
    Each1 (SFits v) (map (to_z v) (replicate n (of_z v (pos 0))))
empty_lanes v n none = lanes_read v (replicate n (of_z v (pos 0))) (replicate n (pos 0)) (splat_bits v n (pos 0))
    (Each1-replicate (SFits v) n (pos 0) none)
