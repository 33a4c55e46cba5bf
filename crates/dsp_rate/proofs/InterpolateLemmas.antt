-- The values of an interpolator, phase by phase, over the window of its past and a block.
use Rattle.std.proofs.Common.{◌≡◌, ◌≢◌, ◌∙◌, ap, ap₂, sym, subst, ℕ, zero, suc, ◌+◌, ◌-◌, ◌*◌, ◌/◌, ◌%◌, ◌<◌, ◌≤◌, ℤ}
use Rattle.std.proofs.Common.{pos, ◌*ℤ◌, List, [], ◌++◌, length, map, reverse, set, get_or, replicate, take, drop}
use Rattle.std.proofs.Common.{false, length-drop, length-take-le, slice_range, arith, length-append, ⊎_elim}
use Rattle.std.proofs.lemmas.Bool.{cases_lt}
use Rattle.std.proofs.lemmas.List.{append-nil, get_or-reverse, length-reverse, length-map, length-replicate}
use Rattle.std.proofs.lemmas.Nat.{div-mul-add, mod-mul-add, div-add-mod', div_below, mod_below, mul-le}
use Rattle.dsp_defs.specs.declared.format.Fmt.{Fmt}
use Rattle.dsp_defs.specs.declared.limits.TheConstants.{MAX_SAMPLES, MAX_TAPS}
use Rattle.dsp_defs.specs.Formats.{close}
use Rattle.dsp_defs.specs.Signal.{sample, delayed, values, sum_below}
use Rattle.dsp_defs.specs.Streaming.{Continues, last_of, rows}
use Rattle.dsp_defs.specs.Sums.{convolution_at, interpolate, phase_taps}
use Rattle.dsp_defs.proofs.BlockLaws.{length-values}
use Rattle.dsp_defs.proofs.Signal.{values_cong, values-add, sum_below_cong, sum_below_reversed, delayed-append}
use Rattle.dsp_defs.proofs.Streaming.{window_at}
use Rattle.dsp_defs.proofs.SumLemmas.{sample-map, sample-map-set_other, sample-map-set_same, same_numbers}
use Rattle.dsp_unit.proofs.ChannelFrames.{sample-values}
use Rattle.dsp_filter.proofs.Slices.{sample-piece}
use Rattle.dsp_window.specs.Rolling.{Rolling, last_samples}
use Rattle.dsp_window.proofs.Pushed.{new-past}
use Rattle.dsp_window.proofs.Rolls.{length-last_samples}
use Rattle.dsp_rate.specs.InterpolateState.{InterpolateState, IsPhased, StandsFor, new_interpolate, past_length}
use Rattle.dsp_rate.specs.InterpolateState.{phase_rows, sorted, unsorted}

-- ---- places

-- a place of a phase lies within
pub place-within : (n factor i phase : ℕ) → i < n → phase < factor → i * factor + phase < n * factor
place-within n factor i phase below small =
    let turns : (i + 1) * factor ≤ n * factor = mul-le (i + 1) factor n factor (omega arith) (omega arith) in
    omega (arith, turns)

-- and no other place of the phase is the same
place-apart : (factor i k phase : ℕ) → k < i → phase < factor → k * factor + phase ≢ i * factor + phase
place-apart factor i k phase below small =
    let before = place-within i factor k phase below small in
    omega (arith, before)

-- each place is one of its phase
pub place-is : (factor k : ℕ) → k ≡ k / factor * factor + k % factor
place-is factor k = sym (div-add-mod' k factor)

-- a place of another phase is another
pub phase-apart : (factor i k phase : ℕ) → phase < factor → k % factor ≢ phase → k ≢ i * factor + phase
phase-apart factor i k phase small other same = other (ap (λ n. n % factor) same ∙ mod-mul-add i factor phase small)

-- as many taps as a phase has, and as many phases
pub whole-taps : (factor taps : ℕ) → taps % factor ≡ 0 → taps ≡ taps / factor * factor
whole-taps factor taps whole = omega (arith, div-add-mod' taps factor, whole)

-- there are taps for each phase, and no fewer taps than phases
pub phase-some : (factor taps : ℕ) → taps % factor ≡ 0 → 1 ≤ taps → 1 ≤ taps / factor
phase-some factor taps whole some = times (taps / factor) factor taps (whole-taps factor taps whole) some
  where
    times : (q f t : ℕ) → t ≡ q * f → 1 ≤ t → 1 ≤ q
    times zero f t is some = absurd (omega (arith, is, some))
    times (suc q) f t is some = omega arith

pub phases-within : (factor taps : ℕ) → taps % factor ≡ 0 → 1 ≤ taps → factor ≤ taps
phases-within factor taps whole some = times (taps / factor) factor taps (whole-taps factor taps whole) some
  where
    times : (q f t : ℕ) → t ≡ q * f → 1 ≤ t → f ≤ t
    times zero f t is some = absurd (omega (arith, is, some))
    times (suc q) f t is some = omega (arith, is)

-- the taps of a phase lie within
pub place-row : (factor count phase : ℕ) → phase < factor → phase * count + count ≤ count * factor
place-row factor count phase small =
    let rows : (phase + 1) * count ≤ factor * count = mul-le (phase + 1) count factor count (omega arith)
    (omega arith) in
    omega (arith, rows)

pub piece-long : {X : Type 0} → (xs : List X) (at count : ℕ) → at + count ≤ length xs →
    length (slice_range xs at (at + count)) ≡ count
piece-long xs at count within =
    let size : at + count - at ≡ count = omega arith in
    ap (λ n. length (take n (drop at xs))) size ∙ length-take-le count (drop at xs) (omega (arith, length-drop at xs))

-- what has a place has some rows
pub some-rows : (factor count i : ℕ) → i < factor * count → 0 < count
some-rows factor zero i below = absurd (omega (arith, below))
some-rows factor (suc count) i below = omega arith

-- ---- the order of the taps

-- the place of a tap in the order of phases, and the place at which it was given
unsorted-place : (factor count i : ℕ) → 0 < factor → i < count * factor →
    factor - 1 - ((factor - 1 - i % factor) * count + i / factor) / count +
    ((factor - 1 - i % factor) * count + i / factor) % count * factor ≡ i
unsorted-place factor count i some below =
    let phase = factor - 1 - i % factor in
    let row : i / factor < count = div_below i factor count some below in
    let small : i % factor < factor = mod_below i factor some in
    let quotient : (phase * count + i / factor) / count ≡ phase = div-mul-add phase count (i / factor) row in
    let rest : (phase * count + i / factor) % count ≡ i / factor = mod-mul-add phase count (i / factor) row in
    let back : factor - 1 - phase ≡ i % factor = omega (arith, small) in
    ap₂ (λ a b. factor - 1 - a + b * factor) quotient rest
    ∙ ap (λ a. a + i / factor * factor) back
    ∙ omega (arith, div-add-mod' i factor)

-- sorted taps, in the order in which they were given
unsorted-sorted : (factor : ℕ) (taps : List ℤ) → 0 < factor → length taps % factor ≡ 0 →
    unsorted factor (sorted factor taps) ≡ taps
unsorted-sorted factor taps some whole =
    let n = length taps in
    let count = n / factor in
    let tap : ℕ → ℤ = λ i. sample taps (factor - 1 - i / count + i % count * factor) in
    let long : length (sorted factor taps) ≡ n = length-values n tap in
    let all : n ≡ count * factor = whole-taps factor n whole in
    let moved : unsorted factor (sorted factor taps) ≡ values n
    (λ i. sample (values n tap) ((factor - 1 - i % factor) * count + i / factor)) =
    ap (λ m. values m (λ i. sample (values n tap) ((factor - 1 - i % factor) * (m / factor) + i / factor))) long in
    moved
    ∙ same_numbers _ taps (length-values n _)
    (λ i h.
    let here : i < n = omega (
      arith,
      h,
      length-values n
          (λ i. sample (values n tap) ((factor - 1 - i % factor) * count + i / factor)),
    ) in
    let small : i % factor < factor = mod_below i factor some in
    let row : i / factor < count = div_below i factor count some (omega (arith, here, all)) in
    let inside : (factor - 1 - i % factor) * count + i / factor < factor * count =
    place-within factor count (factor - 1 - i % factor) (i / factor) (omega (arith, small)) row in
    sample-values n (λ i. sample (values n tap) ((factor - 1 - i % factor) * count + i / factor)) i here
    ∙ sample-values n tap ((factor - 1 - i % factor) * count + i / factor) (omega (arith, inside, all))
    ∙ ap (sample taps) (unsorted-place factor count i some (omega (arith, here, all))))

-- ---- values

module _ (format : Fmt) (factor : ℕ) (phases x more : List ℤ) (some : 0 < factor) (whole : length phases % factor ≡ 0)
    (filled : 0 < length phases) where
  -- a tap of a phase
  phase-tap : (p j : ℕ) → p < factor → j < length phases / factor →
      sample (phase_taps factor (reverse (unsorted factor phases)) p) (length phases / factor - suc j) ≡ sample phases
      (p * (length phases / factor) + j)
  phase-tap p j small below =
      let n = length phases in
      let count = n / factor in
      let taps = unsorted factor phases in
      let tap : ℕ → ℤ = λ i. sample phases ((factor - 1 - i % factor) * count + i / factor) in
      let all : n ≡ count * factor = whole-taps factor n whole in
      let long : length taps ≡ n = length-values n tap in
      let phase_long : length (reverse taps) / factor ≡ count = ap (λ m. m / factor) (length-reverse taps ∙ long) in
      let k = count - suc j in
      let inside : k * factor + p < count * factor = place-within count factor k p (omega (arith, below)) small in
      let given : n - 1 - (factor * k + p) ≡ j * factor + (factor - 1 - p) =
      (let split : count * factor ≡ k * factor + j * factor + factor =
      (let sum : count ≡ k + j + 1 = omega (arith, below) in ap (λ m. m * factor) sum ∙ omega arith) in
      omega (arith, all, split, small)) in
      let rest : (j * factor + (factor - 1 - p)) % factor ≡ factor - 1 - p =
      mod-mul-add j factor (factor - 1 - p) (omega (arith, small)) in
      let quotient : (j * factor + (factor - 1 - p)) / factor ≡ j =
      div-mul-add j factor (factor - 1 - p) (omega (arith, small)) in
      let back : factor - 1 - (factor - 1 - p) ≡ p = omega (arith, small) in
      ap (λ m. sample (values m (λ i. sample (reverse taps) (factor * i + p))) k) phase_long
      ∙ sample-values count (λ i. sample (reverse taps) (factor * i + p)) k (omega (arith, below))
      ∙ get_or-reverse taps (factor * k + p) (pos 0) (omega (arith, long, inside, all))
      ∙ ap (λ m. sample taps (m - 1 - (factor * k + p))) long
      ∙ ap (sample taps) given
      ∙ sample-values n tap (j * factor + (factor - 1 - p)) (omega (arith, inside, all, given))
      ∙ ap₂ (λ a b. sample phases ((factor - 1 - a) * count + b)) rest quotient
      ∙ ap (λ a. sample phases (a * count + j)) back

  -- the sum of a value of a phase
  phase-sum : (p i : ℕ) → p < factor →
      convolution_at (phase_taps factor (reverse (unsorted factor phases)) p) (x ++ more) (length x + i)
      ≡ sum_below (length phases / factor) (λ j. sample phases (p * (length phases / factor) + j) *ℤ sample
      (last_of (past_length factor (length phases)) x ++ more) (i + j))
  phase-sum p i small =
      let n = length phases in
      let count = n / factor in
      let taps = unsorted factor phases in
      let window = last_of (past_length factor n) x ++ more in
      let row = phase_taps factor (reverse taps) p in
      let taps_long : length (reverse taps) ≡ n = length-reverse taps ∙
      length-values n (λ i. sample phases ((factor - 1 - i % factor) * count + i / factor)) in
      let long : length row ≡ count = length-values (length (reverse taps) / factor)
      (λ k. sample (reverse taps) (factor * k + p)) ∙ ap (λ m. m / factor) taps_long in
      ap (λ m. sum_below m (λ k. sample row k *ℤ delayed (x ++ more) (length x + i) k)) long
      ∙ sum_below_reversed count (λ k. sample row k *ℤ delayed (x ++ more) (length x + i) k)
      (λ j. sample phases (p * count + j) *ℤ sample window (i + j))
      (λ j h. ap₂ (λ a b. a *ℤ b) (sym (phase-tap p j small h))
      (window_at x more (past_length factor n) i j (count - suc j) (omega (arith, h))))

  -- the values of a block come from the window
  interpolate-append : Continues (interpolate format factor (unsorted factor phases)) x more
      (phase_rows format factor phases (last_of (past_length factor (length phases)) x ++ more) (length more * factor))
  interpolate-append =
      let taps = unsorted factor phases in
      let count = length phases / factor in
      let window = last_of (past_length factor (length phases)) x ++ more in
      let value : List ℤ → ℕ → ℤ = λ s i. close format (convolution_at (phase_taps factor (reverse taps) (i % factor))
      s (i / factor)) in
      let size : length (x ++ more) * factor ≡ length x * factor + length more * factor =
      ap (λ n. n * factor) (length-append x more) ∙ omega arith in
      ap (λ n. values n (value (x ++ more))) size
      ∙ values-add (length x * factor) (length more * factor) (value (x ++ more))
      ∙ ap₂ (λ a b. a ++ b)
      (values_cong (length x * factor) (value (x ++ more)) (value x)
      (λ i h. let early : i / factor < length x = div_below i factor (length x) some h in
      let row = phase_taps factor (reverse taps) (i % factor) in
      ap (close format) (sum_below_cong (length row) _ _
      (λ k _. ap (λ v. sample row k *ℤ v) (delayed-append x more (i / factor) k early)))))
      (values_cong (length more * factor) (λ i. value (x ++ more) (length x * factor + i))
      (λ i. close format (sum_below count (λ j. sample phases (i % factor * count + j) *ℤ sample window
      (i / factor + j))))
      (λ i h. let small : i % factor < factor = mod_below i factor some in
      let split : length x * factor + i ≡ (length x + i / factor) * factor + i % factor =
      omega (arith, div-add-mod' i factor) in
      let rest : (length x * factor + i) % factor ≡ i % factor = ap (λ m. m % factor) split ∙
      mod-mul-add (length x + i / factor) factor (i % factor) small in
      let quotient : (length x * factor + i) / factor ≡ length x + i / factor = ap (λ m. m / factor) split ∙
      div-mul-add (length x + i / factor) factor (i % factor) small in
      ap₂ (λ a b. close format (convolution_at (phase_taps factor (reverse taps) a) (x ++ more) b)) rest quotient
      ∙ ap (close format) (phase-sum (i % factor) (i / factor) small)))

-- the values, over the window that was lent
pub interpolate-values :
    (format : Fmt) (factor : ℕ) (phases x block window out : List ℤ) (n : ℕ) → 0 < factor →
    length phases % factor ≡ 0 → 0 < length phases → n ≡ length block * factor →
    window ≡ last_of (past_length factor (length phases)) x ++ block →
    out ≡ phase_rows format factor phases window n → Continues (interpolate format factor (unsorted factor phases))
    x block out
interpolate-values format factor phases x block window out n some whole filled size shows is =
    interpolate-append format factor phases x block some whole filled
    ∙ ap (λ l. interpolate format factor (unsorted factor phases) x ++ l)
    (ap (phase_rows format factor phases (last_of (past_length factor (length phases)) x ++ block)) (sym size) ∙
    ap (λ w. phase_rows format factor phases w n) (sym shows) ∙ sym is)

-- ---- one phase after another

-- the places that were written, with one more
pub place-written :
    {X : Type 0} → (number : X → ℤ) (row out : List X) (factor phase i : ℕ) (v : X) → phase < factor →
    i < length row → length out ≡ length row * factor → v ≡ get_or row i v →
    ((k : ℕ) → k < i → sample (map number out) (k * factor + phase) ≡ sample (map number row) k) →
    (k : ℕ) → k < i + 1 → sample (map number (set out (i * factor + phase) v)) (k * factor + phase) ≡ sample
    (map number row) k
place-written number row out factor phase i v small below size read written k h =
    ⊎_elim
    (λ (before : k < i). sample-map-set_other number out (i * factor + phase) (k * factor + phase) v
    (place-apart factor i k phase before small) ∙ written k before)
    (λ (late : i ≤ k). let same : k ≡ i = omega arith in
    let inside : i * factor + phase < length out = (let within =
    place-within (length row) factor i phase below small in omega (arith, within, size)) in
    ap (λ m. sample (map number (set out (i * factor + phase) v)) (m * factor + phase)) same
    ∙ sample-map-set_same number out (i * factor + phase) v inside
    ∙ sample-map number row i v below read
    ∙ ap (sample (map number row)) (sym same))
    (cases_lt k i)

-- a value of a phase, from its row
pub phase-value :
    {X : Type 0} → (number : X → ℤ) (format : Fmt) (phases window row : List X) (factor count p n i : ℕ) →
    map number row ≡ rows format (map number (slice_range phases (p * count) (p * count + count))) (map number window)
    n → length (slice_range phases (p * count) (p * count + count)) ≡ count → i < n →
    sample (map number row) i ≡ close format (sum_below count
    (λ j. sample (map number phases) (p * count + j) *ℤ sample (map number window) (i + j)))
phase-value number format phases window row factor count p n i is size below =
    let taps = slice_range phases (p * count) (p * count + count) in
    let long : length (map number taps) ≡ count = length-map taps number ∙ size in
    ap (λ l. sample l i) is
    ∙ sample-values n (λ k. close format (sum_below (length (map number taps))
    (λ j. sample (map number taps) j *ℤ sample (map number window) (k + j)))) i below
    ∙ ap (λ m. close format (sum_below m (λ j. sample (map number taps) j *ℤ sample (map number window) (i + j)))) long
    ∙ ap (close format) (sum_below_cong count _ _ (λ j h. ap (λ v. v *ℤ sample (map number window) (i + j))
    (sample-piece number phases (p * count) count j h)))

-- ---- what it is made of

-- the taps in either order are as many
pub unsorted-long : (factor : ℕ) (phases : List ℤ) → length (unsorted factor phases) ≡ length phases
unsorted-long factor phases = length-values (length phases)
    (λ i. sample phases ((factor - 1 - i % factor) * (length phases / factor) + i / factor))

-- a new one
module _ (factor n block : ℕ) (taps phases : List ℤ) (w : Rolling) (some : 0 < factor) (size : length taps ≡ n)
    (whole : n % factor ≡ 0) (is : phases ≡ sorted factor taps)
    (made : w ≡ record { past = n / factor - 1; room = block; samples = replicate (n / factor - 1) (pos 0) }) where
  long : length phases ≡ n
  long = ap length is ∙ length-values (length taps) (λ i. sample taps
      (factor - 1 - i / (length taps / factor) + i % (length taps / factor) * factor)) ∙ size

  pub new-phased : factor ≤ 255 → 1 ≤ n → n ≤ MAX_TAPS → block ≤ MAX_SAMPLES → IsPhased factor phases w
  new-phased few taps_some limit fits =
      let past : w.past ≡ n / factor - 1 = ap (λ (v : Rolling). v.past) made in
      let room : w.room ≡ block = ap (λ (v : Rolling). v.room) made in
      let shown : length w.samples ≡ n / factor - 1 = ap (λ (v : Rolling). length v.samples) made ∙
      length-replicate (n / factor - 1) (pos 0) in
      record {
        some = some;
        few = few;
        taps = omega (arith, taps_some, long);
        limit = omega (arith, limit, long);
        whole = ap (λ m. m % factor) long ∙ whole;
        past = past ∙ ap (λ m. m / factor - 1) (sym long);
        shown = omega (arith, past, shown);
        room = omega (arith, room, fits);
      }

  pub new-made : ◌≡◌ {A = InterpolateState} (record {
    factor = factor;
    taps = unsorted factor phases;
    past =
        last_samples w.past w.samples;
    block = w.room;
    ended = false;
  }) (new_interpolate factor taps block)
  new-made =
      let order : unsorted factor phases ≡ taps = ap (unsorted factor) is ∙
      unsorted-sorted factor taps some (ap (λ m. m % factor) size ∙ whole) in
      let past : last_samples w.past w.samples ≡ replicate (length taps / factor - 1) (pos 0) =
      new-past w (n / factor - 1) (length taps / factor - 1) block made (ap (λ m. m / factor - 1) (sym size)) in
      λ i. record { factor = factor; taps = order i; past = past i; block = (made i).room; ended = false }

  pub new-stands : StandsFor (record {
    factor = factor;
    taps = unsorted factor phases;
    past =
        last_samples w.past w.samples;
    block = w.room;
    ended = false;
  }) []
  new-stands = subst (λ (f : InterpolateState). StandsFor f []) (sym new-made)
      (sym (append-nil (replicate (length taps / factor - 1) (pos 0))))

-- one that has taken a block
pub phased-on :
    (factor : ℕ) (phases block : List ℤ) (old new : Rolling) → IsPhased factor phases old →
    new ≡ record old { samples = last_samples old.past old.samples ++ block } → IsPhased factor phases new
phased-on factor phases block old new is rolls =
    let past : new.past ≡ old.past = ap (λ (v : Rolling). v.past) rolls in
    let room : new.room ≡ old.room = ap (λ (v : Rolling). v.room) rolls in
    let shown : length new.samples ≡ old.past + length block = ap (λ (v : Rolling). length v.samples) rolls ∙
    length-append (last_samples old.past old.samples) block ∙
    ap (λ n. n + length block) (length-last_samples old.past old.samples is.shown) in
    record {
      some = is.some;
      few = is.few;
      taps = is.taps;
      limit = is.limit;
      whole = is.whole;
      past = past ∙ is.past;
      shown = omega (arith, past, shown);
      room = omega (arith, room, is.room);
    }
