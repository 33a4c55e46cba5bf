-- A step of a lattice with feedback, from the last section to the first.
use Rattle.std.proofs.Common.{◌≡◌, ◌∙◌, ap, ap₂, refl, sym, ℕ, zero, suc, ◌+◌, ◌*◌, ◌^◌, ◌<◌, ◌≤◌, ℤ, pos}
use Rattle.std.proofs.Common.{◌+ℤ◌, ◌-ℤ◌, ◌*ℤ◌, List, [], ◌∷◌, ◌++◌, map, reverse, length, take, drop, set, get_or}
use Rattle.std.proofs.Common.{replicate, arith, append_assoc, SFits}
use Rattle.std.specs.Prelude.{unsigned_abs, FitsSigned, All}
use mir.Val.{hbits}
use Rattle.std.proofs.lemmas.List.{map-append, take_more_set, get_or-drop, drop-drop, drop_all, take_all}
use Rattle.std.proofs.lemmas.List.{reverse-reverse, length-set}
use Rattle.std.proofs.lemmas.List.Elements.{All-get_or, All-cons}
use Rattle.std.proofs.lemmas.Int.{ints, int_wrap_fits, unsigned_abs-mul, fits_signed_from_abs}
use Rattle.std.proofs.Math.Nat.{mul-le-mul}
use Rattle.std.proofs.Math.Seq.{drop-cons}
use Rattle.dsp_defs.specs.Numbers.{◌>>◌, saturate, wrap, w32, w64}
use Rattle.dsp_defs.specs.Formats.{word, word_bits, accumulator, close}
use Rattle.dsp_defs.specs.Signal.{sample, sum_below, outputs}
use Rattle.dsp_defs.specs.Lattice.{reflected, backward_values, ladder_close, ladder_sum, ladder_output, lattice_iir}
use Rattle.dsp_defs.specs.Kept.{ladder_kept}
use Rattle.dsp_defs.specs.Streaming.{GoesOn, Continues}
use Rattle.dsp_unit.proofs.GoingOn.{outputs-next, reverse-more}
use Rattle.dsp_sat.proofs.Saturated.{saturated}
use Rattle.dsp_sat.proofs.Words.{abs_within}
use Rattle.dsp_defs.specs.declared.format.Fmt.{Fmt}
use Rattle.dsp_defs.specs.declared.format.Fmt.TheVariants.{Q7, Q15, Q31}
use Rattle.dsp_defs.proofs.FormatLemmas.{wrap-wrap}
use Rattle.dsp_lattice.specs.LatticeState.{HasLattice, reflection}

-- ---- one section

reflected-is : (format : Fmt) (k g : ℤ) → reflected format k g ≡ reflection format (k *ℤ g)
reflected-is Q7 k g = refl
reflected-is Q15 k g = refl
reflected-is Q31 k g = refl

module _ (format : Fmt) where
  -- one section of those that are left
  section-values : (f k b f' g' : ℤ) (ks before : List ℤ) → b ≡ sample before 0 →
      f' ≡ saturate (word_bits format) (f -ℤ reflection format (k *ℤ b)) →
      g' ≡ saturate (word_bits format) (reflection format (k *ℤ f') +ℤ b) →
      backward_values format f (k ∷ ks) before ≡ g' ∷ backward_values format f' ks (drop 1 before)
  section-values f k b f' g' ks before is lower upper =
      let bits = word_bits format in
      let lower_is : saturate bits (f -ℤ reflected format k (sample before 0)) ≡ f' =
      ap (λ g. saturate bits (f -ℤ g)) (reflected-is format k (sample before 0) ∙
      ap (λ g. reflection format (k *ℤ g)) (sym is)) ∙ sym lower in
      let upper_is : (h : ℤ) → h ≡ f' → saturate bits (reflected format k h +ℤ sample before 0) ≡ g' =
      λ h e. ap (λ v. saturate bits (v +ℤ sample before 0))
      (reflected-is format k h ∙ ap (λ v. reflection format (k *ℤ v)) e) ∙
      ap (λ v. saturate bits (reflection format (k *ℤ f') +ℤ v)) (sym is) ∙ sym upper in
      ap₂ (λ v l. v ∷ l) (upper_is _ lower_is) (ap (λ v. backward_values format v ks (drop 1 before)) lower_is)

  pub sections-more :
      (ks olds news whole : List ℤ) (m : ℕ) (f k b f' g' : ℤ) → m < length ks → m < length news → k ≡ sample ks m →
      b ≡ sample olds (m + 1) →
      f' ≡ saturate (word_bits format) (f -ℤ reflection format (k *ℤ b)) →
      g' ≡ saturate (word_bits format) (reflection format (k *ℤ f') +ℤ b) →
      take m news ++ backward_values format f (drop m ks) (drop (m + 1) olds) ≡ whole →
      take (m + 1) (set news m g') ++ backward_values format f' (drop (m + 1) ks) (drop (m + 1 + 1) olds) ≡ whole
  sections-more ks olds news whole m f k b f' g' inside room is_k is_b lower upper so_far =
      let next : suc m ≡ m + 1 = omega arith in
      let left : drop m ks ≡ k ∷ drop (m + 1) ks = drop-cons ks m (pos 0) inside ∙
      ap₂ (λ v l. v ∷ l) (sym is_k) (ap (λ j. drop j ks) next) in
      let first : m + 1 + 0 ≡ m + 1 = omega arith in
      let before : b ≡ sample (drop (m + 1) olds) 0 = is_b ∙ ap (sample olds) (sym first) ∙
      sym (get_or-drop (m + 1) olds 0 (pos 0)) in
      let later : drop 1 (drop (m + 1) olds) ≡ drop (m + 1 + 1) olds = drop-drop 1 (m + 1) olds in
      let values : backward_values format f (drop m ks) (drop (m + 1) olds) ≡ g' ∷ backward_values format f'
      (drop (m + 1) ks) (drop (m + 1 + 1) olds) =
      ap (λ l. backward_values format f l (drop (m + 1) olds)) left ∙
      section-values f k b f' g' (drop (m + 1) ks) (drop (m + 1) olds) before lower upper ∙
      ap (λ l. g' ∷ backward_values format f' (drop (m + 1) ks) l) later in
      ap (λ l. l ++ backward_values format f' (drop (m + 1) ks) (drop (m + 1 + 1) olds)) (take_more_set news m g' room)
      ∙ append_assoc (take m news) (g' ∷ []) (backward_values format f' (drop (m + 1) ks) (drop (m + 1 + 1) olds))
      ∙ ap (λ l. take m news ++ l) (sym values)
      ∙ so_far

  pub sections-done : (ks olds news whole : List ℤ) (m last : ℕ) (f : ℤ) → length ks ≤ m → last ≡ m →
      length news ≡ m + 1 →
      take m news ++ backward_values format f (drop m ks) (drop (m + 1) olds) ≡ whole → set news last f ≡ whole
  sections-done ks olds news whole m last f done is size so_far =
      let room : m < length news = omega (arith, size) in
      let none : drop m ks ≡ [] = drop_all m ks done in
      ap (λ n. set news n f) is
      ∙ sym (take_all (m + 1) (set news m f) (long m f size))
      ∙ take_more_set news m f room
      ∙ ap (λ l. take m news ++ backward_values format f l (drop (m + 1) olds)) (sym none)
      ∙ so_far
    where
      long : (m : ℕ) (f : ℤ) → length news ≡ m + 1 → length (set news m f) ≤ m + 1
      long m f size = omega (arith, size, length-set news m f)

-- ---- the sum of the ladder

-- each value is one of the format
pub values-fit : (format : Fmt) (f : ℤ) (ks before : List ℤ) → FitsSigned (word format) f →
    All (FitsSigned (word format)) (backward_values format f ks before)
values-fit format f [] before fits = All-cons (FitsSigned (word format)) f [] fits (search arith)
values-fit format f (k ∷ ks) before fits =
    let lower = saturate (word_bits format) (f -ℤ reflected format k (sample before 0)) in
    All-cons (FitsSigned (word format)) (saturate (word_bits format) (reflected format k lower +ℤ sample before 0))
    (backward_values format lower ks (drop 1 before))
    (saturated format (reflected format k lower +ℤ sample before 0))
    (values-fit format lower ks (drop 1 before) (saturated format (f -ℤ reflected format k (sample before 0))))

abs-add : (a b : ℤ) → unsigned_abs (a +ℤ b) ≤ unsigned_abs a + unsigned_abs b
abs-add a b = omega (arith, ints)

sum-bound : (n most : ℕ) (f : ℕ → ℤ) → ((k : ℕ) → k < n → unsigned_abs (f k) ≤ most) →
    unsigned_abs (sum_below n f) ≤ n * most
sum-bound zero most f small = omega arith
sum-bound (suc n) most f small =
    let rest = sum-bound n most f (λ k below. small k (omega (arith, below))) in
    let last = small n (omega arith) in
    let both = abs-add (sum_below n f) (f n) in
    omega (arith, rest, last, both)

-- the products of numbers of a format
product-bound : (format : Fmt) (a b : ℤ) → FitsSigned (word format) a → FitsSigned (word format) b →
    unsigned_abs (a *ℤ b) ≤ 2 ^ hbits (word format) * 2 ^ hbits (word format)
product-bound format a b fits_a fits_b = rw (unsigned_abs-mul a b)
    (mul-le-mul (abs_within (word format) a fits_a) (abs_within (word format) b fits_b))

module _ (format : Fmt) (v g : List ℤ) (n : ℕ) where
  abbrev ladder : ℤ
  ladder = sum_below n (λ j. sample v j *ℤ sample g j)

  module _ (few : n ≤ 256) (long_v : n ≤ length v) (long_g : n ≤ length g) (fits_v : All (FitsSigned (word format)) v)
      (fits_g : All (FitsSigned (word format)) g) where
    ladder-bound : unsigned_abs ladder ≤ n * (2 ^ hbits (word format) * 2 ^ hbits (word format))
    ladder-bound =
        sum-bound n (2 ^ hbits (word format) * 2 ^ hbits (word format)) (λ j. sample v j *ℤ sample g j)
        (λ k below. product-bound format (sample v k) (sample g k)
        (All-get_or (FitsSigned (word format)) v k (pos 0) (omega (arith, below, long_v)) fits_v)
        (All-get_or (FitsSigned (word format)) g k (pos 0) (omega (arith, below, long_g)) fits_g))

-- a sum that was wrapped is closed as the exact one, since at most 256 products are summed
pub ladder-closes : (format : Fmt) → HasLattice format → (v g : List ℤ) (n : ℕ) → n ≤ 256 → n ≤ length v →
    n ≤ length g → All (FitsSigned (word format)) v → All (FitsSigned (word format)) g →
    close format (wrap (accumulator format) (ladder format v g n)) ≡ ladder_close format (ladder format v g n)
ladder-closes Q7 has v g n few long_v long_g fits_v fits_g = absurd has
ladder-closes Q15 has v g n few long_v long_g fits_v fits_g =
    let bound = ladder-bound Q15 v g n few long_v long_g fits_v fits_g in
    let fits : SFits w64 (ladder Q15 v g n) = fits_signed_from_abs w64 (ladder Q15 v g n) (omega (arith, bound, few)) in
    ap (λ s. saturate 16 (s >> 15)) (wrap-wrap w64 (ladder Q15 v g n) ∙ int_wrap_fits w64 (ladder Q15 v g n) fits)
ladder-closes Q31 has v g n few long_v long_g fits_v fits_g =
    ap (λ s. wrap w32 (s >> 31)) (wrap-wrap w64 (ladder Q31 v g n))

-- ---- a sample

no-history : (format : Fmt) (f : ℤ) (ks : List ℤ) → backward_values format f ks [] ≡ backward_values format f ks
    (replicate (length ks) (pos 0))
no-history format f [] = refl
no-history format f (k ∷ ks) =
    let lower = saturate (word_bits format) (f -ℤ reflected format k (pos 0)) in
    ap (λ l. saturate (word_bits format) (reflected format k lower +ℤ pos 0) ∷ l) (no-history format lower ks)

module _ (format : Fmt) (k v : List ℤ) where
  abbrev values_of : List ℤ → List (List ℤ)
  values_of x = outputs (ladder_output format k) x

  abbrev closed : List ℤ → ℤ
  closed g = ladder_close format (ladder_sum v g)

  from-history : (f : ℤ) (history : List (List ℤ)) → backward_values format f k
      (drop 1 (get_or history 0 (replicate (suc (length k)) (pos 0)))) ≡ backward_values format f k
      (drop 1 (get_or history 0 []))
  from-history f [] = sym (no-history format f k)
  from-history f (g ∷ history) = refl

  pub ladder-step : (old new : List ℤ) (x y : ℤ) → new ≡ backward_values format x k (drop 1 old) →
      y ≡ ladder_close format (ladder_sum v new) →
      GoesOn (lattice_iir format k v) (ladder_kept format k) (reverse (drop 1 old)) (reverse (drop 1 new)) (x ∷ [])
      (y ∷ [])
  ladder-step old new x y is value = record {
    values = λ xs e. ap (map closed) (continues xs e) ∙ map-append closed (values_of xs) (new ∷ []) ∙
        ap (λ z. lattice_iir format k v xs ++ z ∷ []) (sym value);
    stands = λ xs e.
        ap (λ g. reverse (drop 1 g))
        (sym (ap (λ h. get_or h 0 (replicate (suc (length k)) (pos 0)))
        (ap reverse (continues xs e) ∙ reverse-more (values_of xs) new)));
  }
    where
      continues : (xs : List ℤ) → reverse (drop 1 old) ≡ ladder_kept format k xs →
          Continues values_of xs (x ∷ []) (new ∷ [])
      continues xs e =
          let history = reverse (values_of xs) in
          let last = drop 1 (get_or history 0 (replicate (suc (length k)) (pos 0))) in
          let same : drop 1 old ≡ last = sym (reverse-reverse (drop 1 old)) ∙ ap reverse e ∙ reverse-reverse last in
          outputs-next (ladder_output format k) xs x new (is ∙ ap (backward_values format x k) same ∙
          from-history x history)

-- what is kept before the first sample
pub fresh : (format : Fmt) (k : List ℤ) (n : ℕ) → n ≡ length k + 1 →
    reverse (drop 1 (replicate n (pos 0))) ≡ ladder_kept format k []
fresh format k n is = let next : n ≡ suc (length k) = omega (arith, is) in
    ap (λ m. reverse (drop 1 (replicate m (pos 0)))) next
