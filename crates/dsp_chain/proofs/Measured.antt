-- How many measures a line has.
use Rattle.std.proofs.Common.{◌≡◌, ◌∙◌, ap, ap₂, refl, sym, subst, ℕ, zero, suc, ◌+◌, ◌*◌, ◌<◌, ◌≤◌, ℤ, List, [], ◌∷◌}
use Rattle.std.proofs.Common.{◌++◌, length, get_or, arith, None, length-append}
use Rattle.std.specs.Prelude.{All, slice_get}
use Rattle.std.proofs.lemmas.List.FromFn.{length-map-range_with_len}
use Rattle.dsp_defs.specs.Kept.{kept_measures}
use Rattle.dsp_defs.specs.Signal.{values}
use Rattle.dsp_unit.specs.Unit.{UnitState, measures_of}
use Rattle.dsp_unit.specs.Line.{Place, place_after, blocks_of, InLine, measured_by}
use Rattle.dsp_defs.specs.Grammar.{IsChain}
use Rattle.dsp_defs.specs.Table.{flow_after}
use Rattle.dsp_defs.specs.declared.flow.Flow.{Flow}
use Rattle.dsp_defs.specs.declared.format.Fmt.{Fmt}
use Rattle.dsp_defs.specs.declared.limits.TheConstants.{MAX_CHANNELS}
use Rattle.dsp_defs.specs.declared.measure.Measure.{Measure}
use Rattle.dsp_defs.specs.declared.script.Block.{Block}
use Rattle.dsp_defs.specs.declared.script.Block.TheVariants.{Power, Dot, CmplxDot, Max, Min}
use Rattle.dsp_unit.proofs.ChainPlaces.{few_channels_after}
use Rattle.dsp_unit.proofs.MeasureLaws.{length-measures_of}
use Rattle.dsp_chain.specs.Line.{FewChannels, measure_count, measure_counts}

-- the places of a chain have few channels
pub few-places : (flow : Flow) (blocks : List Block) → IsChain flow blocks → flow.channels ≤ MAX_CHANNELS →
    FewChannels flow.channels blocks
few-places flow [] chain few = few
few-places flow (b ∷ blocks) chain few = (
  few,
  few-places (flow_after b flow) blocks chain.1
      (few_channels_after flow b chain.0 few),
)

few-values : (channels : ℕ) (f : ℕ → Measure) → channels ≤ MAX_CHANNELS → length (values channels f) ≤ MAX_CHANNELS
few-values channels f h = omega (arith, h, length-map-range_with_len f 0 channels)

-- one measure for each channel at most
few-measures : (format : Fmt) (channels : ℕ) (block : Block) (kept : List ℤ) → channels ≤ MAX_CHANNELS →
    length (kept_measures format channels 0 block kept) ≤ MAX_CHANNELS
few-measures format channels Power kept h = few-values channels _ h
few-measures format channels Max kept h = few-values channels _ h
few-measures format channels Min kept h = few-values channels _ h
few-measures format channels Dot kept h = omega arith
few-measures format channels CmplxDot kept h = omega arith
few-measures format channels block kept h = omega arith

each-of : (u : UnitState) (us : List UnitState) → length (measures_of 0 u) ≤ MAX_CHANNELS →
    All (λ u. length (measures_of 0 u) ≤ MAX_CHANNELS) us → (k : ℕ) (d : UnitState) → k < suc (length us) →
    length (measures_of 0 (get_or (u ∷ us) k d)) ≤ MAX_CHANNELS
each-of u us first rest zero d h = first
each-of u us first rest (suc k) d h = rest k d (omega (arith, h))

pub each-few : (p : Place) (us : List UnitState) → InLine p us → FewChannels p.channels (blocks_of us) →
    All (λ u. length (measures_of 0 u) ≤ MAX_CHANNELS) us
each-few p [] line few = λ k d h. absurd (omega (arith, h))
each-few p (u ∷ us) line few = each-of u us (few-measures u.format u.channels u.block u.kept
    (omega (arith, line.0.channels, few.0))) (each-few (place_after p u.block) us line.1 few.1)

-- the number of the first unit does not change how many they are
length-measured : (number other : ℕ) (us : List UnitState) →
    length (measured_by number us) ≡ length (measured_by other us)
length-measured number other [] = refl
length-measured number other (u ∷ us) =
    length-append (measures_of number u) (measured_by (number + 1) us)
    ∙ (λ i. length-measures_of number other u i + length-measured (number + 1) (other + 1) us i)
    ∙ sym (length-append (measures_of other u) (measured_by (other + 1) us))

-- the first unit and the line behind it
module _ (links : List UnitState) (link u : UnitState) (behind : List UnitState) (first later : ℕ)
    (is_first : links ≡ link ∷ behind) (same : u ≡ link) (here : first ≡ length (measures_of 0 u)) where
  pub counts-line : later ≡ length (measured_by 1 behind) → first + later ≡ length (measured_by 1 links)
  counts-line rest =
      ap₂ (λ (a b : ℕ). a + b) (here ∙ ap (λ v. length (measures_of 0 v)) same ∙ length-measures_of 0 1 link)
      (rest ∙ length-measured 1 2 behind)
      ∙ sym (length-append (measures_of 1 link) (measured_by 2 behind)) ∙
      ap (λ us. length (measured_by 1 us)) (sym is_first)

  pub each-behind : All (λ v. length (measures_of 0 v) ≤ MAX_CHANNELS) links →
      All (λ v. length (measures_of 0 v) ≤ MAX_CHANNELS) behind
  each-behind each = λ k d h. subst (All (λ v. length (measures_of 0 v) ≤ MAX_CHANNELS)) is_first each (suc k) d
      (omega (arith, h))

  pub few-line : All (λ v. length (measures_of 0 v) ≤ MAX_CHANNELS) links → later ≤ MAX_CHANNELS * length behind →
      first + later ≤ MAX_CHANNELS * length links
  few-line each rest =
      let one : length (measures_of 0 link) ≤ MAX_CHANNELS =
      subst (All (λ v. length (measures_of 0 v) ≤ MAX_CHANNELS)) is_first each 0 link (omega arith) in
      omega (arith, here ∙ ap (λ v. length (measures_of 0 v)) same, one, rest, ap length is_first)

-- a line has the measures of its blocks
unit-measures : (number : ℕ) (format : Fmt) (channels : ℕ) (block : Block) (kept : List ℤ) →
    length (kept_measures format channels number block kept) ≡ measure_count channels block
unit-measures number format channels Power kept = length-map-range_with_len _ 0 channels
unit-measures number format channels Max kept = length-map-range_with_len _ 0 channels
unit-measures number format channels Min kept = length-map-range_with_len _ 0 channels
unit-measures number format channels Dot kept = refl
unit-measures number format channels CmplxDot kept = refl
unit-measures number format channels block kept = refl

pub line-measures : (number : ℕ) (p : Place) (us : List UnitState) → InLine p us →
    length (measured_by number us) ≡ measure_counts p.channels (blocks_of us)
line-measures number p [] line = refl
line-measures number p (u ∷ us) line =
    length-append (measures_of number u) (measured_by (number + 1) us)
    ∙ ap₂ (λ (a b : ℕ). a + b) (unit-measures number u.format u.channels u.block u.kept ∙
    ap (λ c. measure_count c u.block) line.0.channels)
    (line-measures (number + 1) (place_after p u.block) us line.1)

-- ---- the measure at an index

measure-front : (xs ys : List Measure) (i : ℕ) → i < length xs → slice_get (xs ++ ys) i ≡ slice_get xs i
measure-front [] ys i h = absurd (omega (arith, h))
measure-front (x ∷ xs) ys zero h = refl
measure-front (x ∷ xs) ys (suc i) h = measure-front xs ys i (omega (arith, h))

measure-later : (xs ys : List Measure) (i j : ℕ) → i ≡ length xs + j → slice_get (xs ++ ys) i ≡ slice_get ys j
measure-later [] ys i j e = ap (slice_get ys) (let same : i ≡ j = omega (arith, e) in same)
measure-later (x ∷ xs) ys zero j e = absurd (omega (arith, e))
measure-later (x ∷ xs) ys (suc i) j e = measure-later xs ys i j (omega (arith, e))

pub no-measure : (ms : List Measure) (i : ℕ) → i < length ms → None ≡ slice_get ms i → ⊥
no-measure [] i h e = omega (arith, h)
no-measure (m ∷ ms) zero h e = cc
no-measure (m ∷ ms) (suc i) h e = no-measure ms i (omega (arith, h)) e

-- it is of the first unit, or of the line behind it
module _ (number index first : ℕ) (links : List UnitState) (link u : UnitState) (behind : List UnitState)
    (is_first : links ≡ link ∷ behind) (same : u ≡ link) (here : first ≡ length (measures_of 0 u)) where
  both : measured_by number links ≡ measures_of number u ++ measured_by (number + 1) behind
  both = ap (measured_by number) is_first ∙ ap (λ v. measures_of number v ++ measured_by (number + 1) behind) (sym same)

  size : first ≡ length (measures_of number u)
  size = here ∙ length-measures_of 0 number u

  pub measure-of-first : index < first → slice_get (measured_by number links) index ≡ slice_get (measures_of number u)
      index
  measure-of-first within = ap (λ ms. slice_get ms index) both ∙
      measure-front (measures_of number u) (measured_by (number + 1) behind) index (omega (arith, size, within))

  pub measure-of-others : (later : ℕ) → index ≡ first + later →
      slice_get (measured_by number links) index ≡ slice_get (measured_by (number + 1) behind) later
  measure-of-others later e = ap (λ ms. slice_get ms index) both ∙
      measure-later (measures_of number u) (measured_by (number + 1) behind) index later (omega (arith, size, e))
