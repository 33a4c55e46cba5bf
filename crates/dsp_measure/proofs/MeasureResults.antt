-- The results of measures by the numbers that they keep.
use Rattle.std.proofs.Common.{◌≡◌, ◌∙◌, ap, refl, sym, subst, ℕ, zero, suc, ◌+◌, ◌*◌, ◌<◌, ◌≤◌, ℤ, List, [], ◌∷◌, map}
use Rattle.std.proofs.Common.{length, drop, Some, zero-add, arith}
use Rattle.std.specs.Prelude.{slice_get}
use Rattle.std.specs.List.{range_with_len}
use Rattle.std.proofs.lemmas.List.FromFn.{length-map-range_with_len}
use Rattle.dsp_defs.specs.Signal.{sample, values}
use Rattle.dsp_defs.specs.declared.format.Fmt.{Fmt}
use Rattle.dsp_defs.specs.declared.format.Fmt.TheVariants.{Q31}
use Rattle.dsp_defs.specs.declared.measure.Measure.TheVariants as Measures
use Rattle.dsp_unit.specs.Channels.{numbers_in}
use Rattle.dsp_defs.specs.Kept.{Each, IsOfKind, FitsAfter, extreme_kinds, kept_extreme, kept_measures}
use Rattle.dsp_unit.proofs.ChannelKept.{each-length}
use Rattle.dsp_measure.specs.Extremes.{KeepsExtreme}
use Rattle.dsp_measure.specs.Measures.{block_of, parts_of}
use Rattle.dsp_measure.specs.declared.measure_block.MeasureBlock.{MeasureBlock}
use Rattle.dsp_measure.specs.declared.measure_block.MeasureBlock.TheVariants as measure
use Rattle.dsp_measure.proofs.ExtremeLaws.{four-numbers}
use Rattle.dsp_measure.proofs.MeasureParts.{length-kept, kinds-each}
use Rattle.dsp_shape.proofs.KeptRules.{extreme-count}
use Rattle.dsp_sat.proofs.WideProducts.{word-in-32}

get-values : {A : Type 0} (f : ℕ → A) (a n i : ℕ) → i < n →
    slice_get (map f (range_with_len a n)) i ≡ Some (f (a + i))
get-values f a zero i h = absurd (omega (arith, h))
get-values f a (suc n) zero h = let here : a + 0 ≡ a = omega arith in ap (λ k. Some (f k)) (sym here)
get-values f a (suc n) (suc i) h = let next : a + 1 + i ≡ a + suc i = omega arith in
    get-values f (a + 1) n i (omega (arith, h)) ∙ ap (λ k. Some (f k)) next

-- the value at an index
pub value-at : {A : Type 0} (f : ℕ → A) (n i : ℕ) → i < n → Some (f i) ≡ slice_get (values n f) i
value-at f n i h = sym (get-values f 0 n i h ∙ ap (λ k. Some (f k)) (zero-add i))

module _ (format : Fmt) (channels number : ℕ) (kept : List ℤ) where
  -- as many results as measures
  pub length-results : (m : MeasureBlock) → length (kept_measures format channels number (block_of m) kept) ≡ parts_of
      m channels
  length-results measure.Power = length-map-range_with_len (λ c. Measures.Power number c (sample kept c)) 0 channels
  length-results measure.Dot = refl
  length-results measure.CmplxDot = refl
  length-results measure.Max = length-map-range_with_len
      (λ c. Measures.Max number c (kept_extreme (drop (4 * c) kept))) 0 channels
  length-results measure.Min = length-map-range_with_len
      (λ c. Measures.Min number c (kept_extreme (drop (4 * c) kept))) 0 channels

-- ---- an extreme of one channel

four-wide : (format : Fmt) (n : ℕ) (p q r s : ℤ) → Each IsOfKind (extreme_kinds format n) (p ∷ q ∷ r ∷ s ∷ []) →
    Each IsOfKind (extreme_kinds Q31 n) (p ∷ q ∷ r ∷ s ∷ [])
four-wide format zero p q r s kinds = kinds
four-wide format (suc n) p q r s kinds = (kinds.0, (word-in-32 format q kinds.1.0, kinds.1.1))

-- its numbers are such in the widest format too
wide : (format : Fmt) (n : ℕ) (xs : List ℤ) → Each IsOfKind (extreme_kinds format n) xs →
    Each IsOfKind (extreme_kinds Q31 n) xs
wide format n xs kinds =
    let whole = four-numbers xs (each-length IsOfKind (extreme_kinds format n) xs kinds ∙
    extreme-count format n) in
    subst (Each IsOfKind (extreme_kinds Q31 n)) (sym whole)
    (four-wide format n (sample xs 0) (sample xs 1) (sample xs 2) (sample xs 3)
    (subst (Each IsOfKind (extreme_kinds format n)) whole kinds))

extreme-room : (channels index size : ℕ) → index < channels → size ≡ channels * 4 → (index + 1) * 4 ≤ size
extreme-room channels index size inside whole = grind (arith, inside, whole)

module _ (format : Fmt) (channels index : ℕ) (kept : List ℤ) (inside : index < channels) where
  pub power-room : (n : ℕ) → FitsAfter format channels (block_of measure.Power) n kept → index < length kept
  power-room n fits = omega (arith, inside, length-kept format channels measure.Power IsOfKind n kept fits.1)

  pub max-room : (n : ℕ) → FitsAfter format channels (block_of measure.Max) n kept → (index + 1) * 4 ≤ length kept
  max-room n fits = extreme-room channels index (length kept) inside
      (length-kept format channels measure.Max IsOfKind n kept fits.1)

  pub min-room : (n : ℕ) → FitsAfter format channels (block_of measure.Min) n kept → (index + 1) * 4 ≤ length kept
  min-room n fits = extreme-room channels index (length kept) inside
      (length-kept format channels measure.Min IsOfKind n kept fits.1)

  pub max-keeps : (n : ℕ) → FitsAfter format channels (block_of measure.Max) n kept →
      KeepsExtreme Q31 n (numbers_in 4 kept index)
  max-keeps n fits = (
    fits.0,
    wide format n (numbers_in 4 kept index)
        (kinds-each format channels measure.Max IsOfKind n kept fits.1 index inside),
  )

  pub min-keeps : (n : ℕ) → FitsAfter format channels (block_of measure.Min) n kept →
      KeepsExtreme Q31 n (numbers_in 4 kept index)
  min-keeps n fits = (
    fits.0,
    wide format n (numbers_in 4 kept index)
        (kinds-each format channels measure.Min IsOfKind n kept fits.1 index inside),
  )
