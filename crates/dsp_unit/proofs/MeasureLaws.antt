-- The numbers that a block keeps give its measures.
use Rattle.std.proofs.Common.{◌≡◌, ◌∙◌, ap, refl, sym, ℕ, zero, suc, ◌+◌, ◌*◌, ◌<◌, ℤ, pos, List, [], ◌∷◌, ◌++◌, map}
use Rattle.std.proofs.Common.{length, drop, arith, Option, Some, None, flat_map, zero-add}
use Rattle.std.specs.List.{range_with_len}
use Rattle.std.proofs.lemmas.List.FromFn.{length-map-range_with_len, get_or-map-range_with_len}
use Rattle.dsp_defs.specs.Signal.{sample}
use Rattle.dsp_defs.specs.Measure.{power, maximum, minimum, block_measures}
use Rattle.dsp_defs.specs.Kept.{kept_extreme, kept_measures}
use Rattle.dsp_defs.specs.Kept.{extreme_kept, kept_numbers}
use Rattle.dsp_defs.specs.Block.{Frame, channel}
use Rattle.dsp_unit.specs.Unit.{UnitState, measures_of}
use Rattle.dsp_defs.proofs.Signal.{values_cong}
use Rattle.dsp_defs.specs.declared.format.Fmt.{Fmt}
use Rattle.dsp_defs.specs.declared.measure.Measure.TheVariants as Measures
use Rattle.dsp_defs.specs.declared.script.Block.{Block}
use Rattle.dsp_defs.specs.declared.script.Block.TheVariants.{Power, Max, Min}

-- ---- one number of each channel

flat-singles : {A : Type 0} (f : ℕ → A) (a n : ℕ) → flat_map (λ c. f c ∷ []) (range_with_len a n) ≡ map f
    (range_with_len a n)
flat-singles f a zero = refl
flat-singles f a (suc n) = ap (λ l. f a ∷ l) (flat-singles f (a + 1) n)

sample-singles : (f : ℕ → ℤ) (n c : ℕ) → c < n → sample (flat_map (λ c. f c ∷ []) (range_with_len 0 n)) c ≡ f c
sample-singles f n c h = ap (λ l. sample l c) (flat-singles f 0 n) ∙
    get_or-map-range_with_len f 0 n c c (pos 0) h (omega arith)

-- ---- an extreme of each channel

extreme-back : (found : Option (ℤ × ℕ)) (count : ℕ) (more : List ℤ) →
    kept_extreme (extreme_kept found count ++ more) ≡ found
extreme-back None count more = refl
extreme-back (Some best) count more = refl

front : (found : Option (ℤ × ℕ)) (count k : ℕ) (more : List ℤ) →
    drop (suc (suc (suc (suc k)))) (extreme_kept found count ++ more) ≡ drop k more
front None count k more = refl
front (Some best) count k more = refl

extreme-at : (found : ℕ → Option (ℤ × ℕ)) (count : ℕ → ℕ) (a n c : ℕ) → c < n →
    kept_extreme (drop (4 * c) (flat_map (λ i. extreme_kept (found i) (count i)) (range_with_len a n))) ≡ found (a + c)
extreme-at found count a zero c h = absurd (omega (arith, h))
extreme-at found count a (suc n) zero h =
    let here : a + 0 ≡ a = omega arith in
    extreme-back (found a) (count a) (flat_map (λ i. extreme_kept (found i) (count i)) (range_with_len (a + 1) n)) ∙
    ap found (sym here)
extreme-at found count a (suc n) (suc c) h =
    let rest = flat_map (λ i. extreme_kept (found i) (count i)) (range_with_len (a + 1) n) in
    let four : 4 * suc c ≡ suc (suc (suc (suc (4 * c)))) = omega arith in
    let here : a + 1 + c ≡ a + suc c = omega arith in
    ap (λ k. kept_extreme (drop k (extreme_kept (found a) (count a) ++ rest))) four
    ∙ ap kept_extreme (front (found a) (count a) (4 * c) rest)
    ∙ extreme-at found count (a + 1) n c (omega (arith, h))
    ∙ ap found here

-- ---- the law

pub kept-measures : (format : Fmt) (channels number : ℕ) (block : Block) (x : List Frame) →
    kept_measures format channels number block (kept_numbers format channels block x) ≡ block_measures format channels
    number block x
kept-measures format channels number Power x =
    values_cong channels _ _ (λ c h. ap (λ v. Measures.Power number c v)
    (sample-singles (λ c. power format (channel c x)) channels c h))
kept-measures format channels number Max x =
    values_cong channels _ _ (λ c h. ap (λ v. Measures.Max number c v)
    (extreme-at (λ c. maximum (channel c x)) (λ c. length (channel c x)) 0 channels c h ∙
    ap (λ i. maximum (channel i x)) (zero-add c)))
kept-measures format channels number Min x =
    values_cong channels _ _ (λ c h. ap (λ v. Measures.Min number c v)
    (extreme-at (λ c. minimum (channel c x)) (λ c. length (channel c x)) 0 channels c h ∙
    ap (λ i. minimum (channel i x)) (zero-add c)))
kept-measures format channels number block x = refl

-- ---- how many they are

length-measures : (format : Fmt) (channels number other : ℕ) (block : Block) (kept : List ℤ) →
    length (kept_measures format channels number block kept) ≡ length (kept_measures format channels other block kept)
length-measures format channels number other Power kept = length-map-range_with_len _ 0 channels ∙
    sym (length-map-range_with_len _ 0 channels)
length-measures format channels number other Max kept = length-map-range_with_len _ 0 channels ∙
    sym (length-map-range_with_len _ 0 channels)
length-measures format channels number other Min kept = length-map-range_with_len _ 0 channels ∙
    sym (length-map-range_with_len _ 0 channels)
length-measures format channels number other block kept = refl

-- the number in the script does not change how many measures a unit has
pub length-measures_of : (number other : ℕ) (u : UnitState) →
    length (measures_of number u) ≡ length (measures_of other u)
length-measures_of number other u = length-measures u.format u.channels number other u.block u.kept
