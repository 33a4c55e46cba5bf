-- Lanes that hold the values of a function at 0, 1, ..: an operation on vectors is one on their functions.
use Rattle.std.proofs.Common.{ℕ, ◌≡◌, ◌<◌, ◌≤◌, ◌*◌, ◌^◌, List, [], ◌∷◌, length, map, replicate, refl, sym, ap, subst}
use Rattle.std.proofs.Common.{◌∙◌, arith, ⊎_elim}
use Rattle.std.specs.Prelude.{ℤ, pos, ◌+ℤ◌, ◌-ℤ◌, ◌*ℤ◌}
use Rattle.std.specs.List.{range_with_len}
use Rattle.std.specs.Int.{int_wrap, saturate_to_bits}
use Rattle.std.proofs.lemmas.Bool.{cases_lt}
use Rattle.std.proofs.lemmas.Int.{int_wrap_fits, SFits-int_wrap}
use Rattle.std.proofs.lemmas.List.{get_or_past}
use Rattle.std.proofs.lemmas.List.FromFn.{length-range_with_len, length-map-range_with_len, get_or-map-range_with_len}
use Rattle.std.proofs.lemmas.Simd.{map-map, zip2-map, splat_is_map, Each1-get_or, Each1-replicate}
use lib.Lanes.{zip2, Each1}
use lib.Signed.{shr_z, mag_shr}
use native.Mathlib.Nat.{lt_of_le_of_lt}
use mir.Syntax.{Width}
use mir.Val.{SFits, to_z, of_z, hbits}
use Rattle.dsp_sat.proofs.Words.{product_fits}
use Rattle.dsp_defs.specs.Signal.{sample, values}
use Rattle.dsp_defs.proofs.SumLemmas.{same_numbers}
use Rattle.dsp_lanes.proofs.LaneOps.{bits_of, splat_bits, cast_lanes, casts_asked, casts_are, each_widens, added}
use Rattle.dsp_lanes.proofs.LaneOps.{subtracted, multiplied, shifted, shifted_up, narrowed, narrow_asked, narrow_is}
use Rattle.dsp_lanes.proofs.LaneOps.{saturated_fits, widens}
use Rattle.dsp_lanes.proofs.LaneSums.{plus_in, times_in, lanes_read}
use Rattle.dsp_lanes.proofs.LaneClosings.{Castable, down_in, up_in}
use Rattle.dsp_lanes.proofs.Fractions.{less_in}

-- n lanes of width w hold f 0, f 1, ..
pub record AreValues (w : Width) (n : ℕ) (lanes : List ℕ) (f : ℕ → ℤ) : Type 0 where
  pub are : lanes ≡ bits_of w (values n f)
  pub fit : (i : ℕ) → SFits w (f i)

each_of : (w : Width) (f : ℕ → ℤ) → ((i : ℕ) → SFits w (f i)) → (ks : List ℕ) → Each1 (SFits w) (map f ks)
each_of w f h [] = tt
each_of w f h (k ∷ ks) = (h k, each_of w f h ks)

pub all_fit : (w : Width) (n : ℕ) (f : ℕ → ℤ) → ((i : ℕ) → SFits w (f i)) → Each1 (SFits w) (values n f)
all_fit w n f h = each_of w f h (range_with_len 0 n)

-- one number in each lane may become wider
pub splat_casts : (w v : Width) → hbits w ≤ hbits v → (n : ℕ) (c : ℤ) → SFits w c
    → Castable w v (replicate n (of_z w c))
splat_casts w v wide n c f =
    let fits = Each1-replicate (SFits w) n c f in
    subst (λ (l : List ℕ). Castable w v l) (sym (splat_bits w n c))
    (casts_asked w v (replicate n c) fits (each_widens w v wide (replicate n c) fits))

-- a list is the values of its elements
pub listed : (n : ℕ) (xs : List ℤ) → length xs ≡ n → xs ≡ values n (sample xs)
listed n xs long =
    same_numbers xs (values n (sample xs)) (long ∙ sym (length-map-range_with_len (sample xs) 0 n))
    (λ i h. sym (get_or-map-range_with_len (sample xs) 0 n i i (pos 0) (omega (arith, h, long)) (omega arith)))

pub sample_fits : (w : Width) (xs : List ℤ) → Each1 (SFits w) xs → SFits w (pos 0) → (i : ℕ) → SFits w (sample xs i)
sample_fits w xs f none i =
    ⊎_elim (λ h. Each1-get_or (SFits w) xs i (pos 0) h f)
    (λ h. subst (SFits w) (sym (get_or_past xs i (pos 0) h)) none) (cases_lt i (length xs))

module _ (w : Width) (n : ℕ) where
  -- lanes of a list
  pub of_list : (xs : List ℤ) → length xs ≡ n → Each1 (SFits w) xs → SFits w (pos 0)
      → AreValues w n (bits_of w xs) (sample xs)
  of_list xs long f none = record { are = ap (bits_of w) (listed n xs long); fit = sample_fits w xs f none }

  -- one number in each lane
  pub of_splat : (c : ℤ) → SFits w c → AreValues w n (replicate n (of_z w c)) (λ _. c)
  of_splat c f = record {
    are = splat_bits w n c ∙ ap (bits_of w) (splat_is_map (range_with_len 0 n) n c (length-range_with_len 0 n));
    fit = λ _. f;
  }

  pub same_values : {A : List ℕ} {f : ℕ → ℤ} (g : ℕ → ℤ) → AreValues w n A f → ((i : ℕ) → f i ≡ g i) → AreValues w n A g
  same_values {f = f} g x e = record {
    are = x.are ∙ (λ t. bits_of w (map (λ i. e i t) (range_with_len 0 n)));
    fit = λ i. subst (SFits w) (e i) (x.fit i);
  }

  -- the sum, the difference and the product of two vectors
  pub sums : {A B : List ℕ} {f g : ℕ → ℤ} → AreValues w n A f → AreValues w n B g
      → AreValues w n (zip2 (plus_in w) A B) (λ i. int_wrap w (f i +ℤ g i))
  sums {f = f} {g = g} x y = record {
    are = (λ t. zip2 (plus_in w) (x.are t) (y.are t))
        ∙ added w (values n f) (values n g) (all_fit w n f x.fit) (all_fit w n g y.fit)
        ∙ ap (bits_of w) (zip2-map (λ a b. int_wrap w (a +ℤ b)) f g (range_with_len 0 n));
    fit = λ i. SFits-int_wrap w (f i +ℤ g i);
  }

  pub differences : {A B : List ℕ} {f g : ℕ → ℤ} → AreValues w n A f → AreValues w n B g
      → AreValues w n (zip2 (less_in w) A B) (λ i. int_wrap w (f i -ℤ g i))
  differences {f = f} {g = g} x y = record {
    are = (λ t. zip2 (less_in w) (x.are t) (y.are t))
        ∙ subtracted w (values n f) (values n g) (all_fit w n f x.fit) (all_fit w n g y.fit)
        ∙ ap (bits_of w) (zip2-map (λ a b. int_wrap w (a -ℤ b)) f g (range_with_len 0 n));
    fit = λ i. SFits-int_wrap w (f i -ℤ g i);
  }

  pub multiples : {A B : List ℕ} {f g : ℕ → ℤ} → AreValues w n A f → AreValues w n B g
      → AreValues w n (zip2 (times_in w) A B) (λ i. int_wrap w (f i *ℤ g i))
  multiples {f = f} {g = g} x y = record {
    are = (λ t. zip2 (times_in w) (x.are t) (y.are t))
        ∙ multiplied w (values n f) (values n g) (all_fit w n f x.fit) (all_fit w n g y.fit)
        ∙ ap (bits_of w) (zip2-map (λ a b. int_wrap w (a *ℤ b)) f g (range_with_len 0 n));
    fit = λ i. SFits-int_wrap w (f i *ℤ g i);
  }

  shift_fits : (k : ℕ) (z : ℤ) → SFits w z → SFits w (shr_z z (2 ^ k))
  shift_fits k z f = let less = mag_shr z (2 ^ k) in record { sfits = lt_of_le_of_lt less f.sfits }

  -- shifts by the same number of places in each lane
  pub downs : {A : List ℕ} {f : ℕ → ℤ} (k : ℕ) → AreValues w n A f
      → AreValues w n (zip2 (down_in w) A (replicate n k)) (λ i. shr_z (f i) (2 ^ k))
  downs {f = f} k x = record {
    are = ap (λ l. zip2 (down_in w) l (replicate n k)) x.are
        ∙ shifted w n k (values n f) (length-map-range_with_len f 0 n) (all_fit w n f x.fit)
        ∙ ap (bits_of w) (map-map (λ z. shr_z z (2 ^ k)) f (range_with_len 0 n));
    fit = λ i. shift_fits k (f i) (x.fit i);
  }

  pub ups : {A : List ℕ} {f : ℕ → ℤ} (k : ℕ) → SFits w (pos (2 ^ k)) → AreValues w n A f
      → AreValues w n (zip2 (up_in w) A (replicate n k)) (λ i. int_wrap w (f i *ℤ pos (2 ^ k)))
  ups {f = f} k power x = record {
    are = ap (λ l. zip2 (up_in w) l (replicate n k)) x.are
        ∙ shifted_up w n k (values n f) (length-map-range_with_len f 0 n) (all_fit w n f x.fit) power refl
        ∙ ap (bits_of w) (map-map (λ z. int_wrap w (z *ℤ pos (2 ^ k))) f (range_with_len 0 n));
    fit = λ i. SFits-int_wrap w (f i *ℤ pos (2 ^ k));
  }

  -- the numbers, read back
  pub read_values : {A : List ℕ} {f : ℕ → ℤ} → AreValues w n A f → (map (to_z w) A ≡ values n f)
      × Each1 (SFits w) (map (to_z w) A)
  read_values {A = A} {f = f} x = lanes_read w A (values n f) x.are (all_fit w n f x.fit)

module _ (w v : Width) (n : ℕ) (wide : hbits w ≤ hbits v) where
  -- lanes that become wider
  pub wides : {A : List ℕ} {f : ℕ → ℤ} → AreValues w n A f → AreValues v n (cast_lanes w v A) f
  wides {f = f} x = record {
    are = ap (cast_lanes w v) x.are ∙ casts_are w v (values n f) (all_fit w n f x.fit);
    fit = λ i. widens w v wide (f i) (x.fit i);
  }

  -- products of numbers of the narrower width
  pub products : {A B : List ℕ} {f g : ℕ → ℤ} → 2 ^ hbits w * 2 ^ hbits w < 2 ^ hbits v → AreValues w n A f
      → AreValues w n B g
      → AreValues v n (zip2 (times_in v) (cast_lanes w v A) (cast_lanes w v B)) (λ i. f i *ℤ g i)
  products {f = f} {g = g} room x y =
      same_values v n (λ i. f i *ℤ g i) (multiples v n (wides x) (wides y))
      (λ i. int_wrap_fits v (f i *ℤ g i) (product_fits v w w (f i) (g i) (x.fit i) (y.fit i) room))

  -- lanes that are saturated and become narrower
  pub narrows_asked : {A : List ℕ} {f : ℕ → ℤ} → AreValues v n A f → Castable v w (narrowed v w n A)
  narrows_asked {f = f} x =
      subst (λ (l : List ℕ). Castable v w (narrowed v w n l)) (sym x.are)
      (narrow_asked v w wide n (values n f) (length-map-range_with_len f 0 n) (all_fit v n f x.fit))

  pub narrows : {A : List ℕ} {f : ℕ → ℤ} → AreValues v n A f
      → (map (to_z w) (cast_lanes v w (narrowed v w n A)) ≡ values n (λ i. saturate_to_bits (hbits w) (f i)))
      × Each1 (SFits w) (map (to_z w) (cast_lanes v w (narrowed v w n A)))
  narrows {A = A} {f = f} x =
      let is = ap (λ l. map (to_z w) (cast_lanes v w (narrowed v w n l))) x.are
      ∙ narrow_is v w wide n (values n f) (length-map-range_with_len f 0 n) (all_fit v n f x.fit)
      ∙ map-map (saturate_to_bits (hbits w)) f (range_with_len 0 n) in (
        is,
        subst (λ (zs : List ℤ). Each1 (SFits w) zs) (sym is)
            (all_fit w n (λ i. saturate_to_bits (hbits w) (f i)) (λ i. saturated_fits w (f i))),
      )
