-- The values of a decimator, over the window of its past and a block.
use Rattle.std.proofs.Common.{◌≡◌, ◌∙◌, ap, ap₂, sym, ℕ, suc, ◌+◌, ◌-◌, ◌*◌, ◌/◌, ◌%◌, ◌<◌, ◌≤◌, ℤ, pos, ◌*ℤ◌, List}
use Rattle.std.proofs.Common.{[], ◌∷◌, ◌++◌, length, take, reverse, arith, length-append, take_all, ⊎_elim}
use Rattle.std.specs.Prelude.{◌≤ℤ◌}
use Rattle.std.proofs.lemmas.Bool.{cases_lt}
use Rattle.std.proofs.lemmas.List.{get_or-reverse, length-reverse, same_from_push, take_more}
use Rattle.std.specs.Int.{div_ceil}
use Rattle.std.proofs.lemmas.Nat.{div-add-mod', mod_below, mul-le}
use Rattle.dsp_defs.specs.declared.format.Fmt.{Fmt}
use Rattle.dsp_defs.specs.Counts.{Counts}
use Rattle.dsp_defs.specs.Formats.{close}
use Rattle.dsp_defs.specs.Signal.{sample, delayed, values, sum_below}
use Rattle.dsp_defs.specs.Streaming.{Continues, last_of}
use Rattle.dsp_defs.specs.Sums.{convolution_at, decimate}
use Rattle.dsp_defs.proofs.Signal.{values_cong, values-add, sum_below_cong, sum_below_reversed, delayed-append}
use Rattle.dsp_defs.proofs.Signal.{delayed_before, delayed_after}
use Rattle.dsp_defs.proofs.Streaming.{window_at}
use Rattle.dsp_lanes.specs.Turns.{RisesWithin}
use Rattle.dsp_rate.specs.DecimateState.{DecimateState, StandsFor, kept, kept_of, past_length, strided_rows}
use Rattle.dsp_filter.proofs.Groups.{groups-more, groups-within}

-- ---- groups

-- so the room of a block is enough
pub groups-room : (m p f factor room : ℕ) → p < f → f ≡ factor → div_ceil m factor ≤ room → (p + m) / f ≤ room
groups-room m p f factor room within same enough =
    let groups : (p + m) / f ≤ div_ceil m f = groups-within m p f within in
    let quotient : div_ceil m f ≡ div_ceil m factor = ap (div_ceil m) same in
    omega (arith, groups, quotient, enough)

-- a whole group lies within
pub group-fits : (n f i : ℕ) → i < n / f → i * f + f ≤ n
group-fits n f i below =
    let rows : (i + 1) * f ≤ n / f * f = mul-le (i + 1) f (n / f) f (omega arith) (omega arith) in
    omega (arith, div-add-mod' n f, rows)

-- ---- values

-- a place in a signal that was moved
delayed-shift : (s : List ℤ) (n k a : ℕ) → delayed s (n + a) (k + a) ≡ delayed s n k
delayed-shift s n k a =
    ⊎_elim
    (λ (before : n < k). delayed_before s (n + a) (k + a) (omega arith) ∙ sym (delayed_before s n k before))
    (λ (after : k ≤ n). let place : n + a - (k + a) ≡ n - k = omega arith in
    delayed_after s (n + a) (k + a) (omega arith) ∙ ap (sample s) place ∙ sym (delayed_after s n k after))
    (cases_lt n k)

module _ (format : Fmt) (factor : ℕ) (taps x more : List ℤ) (phase count : ℕ) (some : 0 < factor)
    (taken : 0 < length taps) (begun : phase ≡ length x % factor) (counted : count ≡ (phase + length more) / factor)
  where
    -- a sample that a value needs, in the window
    window-place : (i j : ℕ) → j < length taps → sample (last_of (past_length factor (length taps)) x ++ more)
        (factor - 1 - phase + i * factor + j) ≡ delayed (x ++ more) ((length x / factor + i) * factor)
        (length taps - suc j)
    window-place i j within =
        let window = last_of (past_length factor (length taps)) x ++ more in
        let first = factor - 1 - phase in
        let below : phase < factor = omega (arith, mod_below (length x) factor some) in
        let long : length x ≡ length x / factor * factor + phase = omega (arith, div-add-mod' (length x) factor) in
        let place : first + i * factor + j ≡ i * factor + j + first = omega arith in
        let deep : past_length factor (length taps) ≡ first + (length taps - 1 + phase) = omega arith in
        let time : length x + (i * factor + j) ≡ (length x / factor + i) * factor + (phase + j) = omega (arith, long) in
        let back : length taps - 1 + phase ≡ length taps - suc j + (phase + j) = omega arith in
        ap (sample window) place
        ∙ window_at x more (past_length factor (length taps)) (i * factor + j) first (length taps - 1 + phase) deep
        ∙ ap₂ (delayed (x ++ more)) time back
        ∙ delayed-shift (x ++ more) ((length x / factor + i) * factor) (length taps - suc j) (phase + j)

    -- the sum of a value
    value-sum : (i : ℕ) → convolution_at (reverse taps) (x ++ more) ((length x / factor + i) * factor) ≡ sum_below
        (length taps) (λ j. sample taps j *ℤ sample (last_of (past_length factor (length taps)) x ++ more)
        (factor - 1 - phase + i * factor + j))
    value-sum i =
        let window = last_of (past_length factor (length taps)) x ++ more in
        let time = (length x / factor + i) * factor in
        rw (length-reverse taps)
        (sum_below_reversed (length taps) (λ k. sample (reverse taps) k *ℤ delayed (x ++ more) time k)
        (λ j. sample taps j *ℤ sample window (factor - 1 - phase + i * factor + j))
        (λ j h.
        let back : length taps - 1 - (length taps - suc j) ≡ j = omega arith in
        let inside : length taps - suc j < length taps = omega arith in
        let tap : sample (reverse taps) (length taps - suc j) ≡ sample taps j =
        get_or-reverse taps (length taps - suc j) (pos 0) inside ∙ ap (sample taps) back in
        let read : sample window (factor - 1 - phase + i * factor + j) ≡ delayed (x ++ more) time (length taps - suc j)
        = window-place i j h in
        ap₂ (λ a b. a *ℤ b) (sym tap) read))

    -- the values of the groups that a block makes whole come from the window
    decimate-append : Continues (decimate format factor taps) x more
        (strided_rows format taps (last_of (past_length factor (length taps)) x ++ more) (factor - 1 - phase) factor
        count)
    decimate-append =
        let window = last_of (past_length factor (length taps)) x ++ more in
        let groups = length x / factor in
        let value : List ℤ → ℕ → ℤ = λ s j. close format (convolution_at (reverse taps) s (j * factor)) in
        let long : length (x ++ more) ≡ length x + length more = length-append x more in
        let whole : length (x ++ more) / factor ≡ groups + count = ap (λ n. n / factor) long ∙
        sym (groups-more (length x) (length more) phase factor some begun) ∙ ap (λ n. groups + n) (sym counted) in
        ap (λ n. values n (value (x ++ more))) whole
        ∙ values-add groups count (value (x ++ more))
        ∙ ap₂ (λ a b. a ++ b)
        (values_cong groups (value (x ++ more)) (value x)
        (λ j h. let early : j * factor < length x = omega (arith, group-fits (length x) factor j h) in
        ap (close format) (sum_below_cong (length (reverse taps)) _ _
        (λ k _. ap (λ v. sample (reverse taps) k *ℤ v) (delayed-append x more (j * factor) k early)))))
        (values_cong count (λ i. value (x ++ more) (groups + i))
        (λ i. close format (sum_below (length taps) (λ j. sample taps j *ℤ sample window
        (factor - 1 - phase + i * factor + j))))
        (λ i h. ap (close format) (value-sum i)))

-- the values, over the window that was lent
pub decimate-values :
    (format : Fmt) (factor : ℕ) (taps x block window out : List ℤ) (phase count : ℕ) → 0 < factor → 0 < length taps →
    phase ≡ length x % factor → count ≡ (phase + length block) / factor →
    window ≡ last_of (past_length factor (length taps)) x ++ block →
    out ≡ strided_rows format taps window (factor - 1 - phase) factor count →
    Continues (decimate format factor taps) x block out
decimate-values format factor taps x block window out phase count some taken begun counted shows is =
    decimate-append format factor taps x block phase count some taken begun counted
    ∙ ap (λ l. decimate format factor taps x ++ l) (ap (λ w. strided_rows format taps w (factor - 1 - phase) factor
    count) (sym shows) ∙ sym is)

-- ---- kept numbers

-- a decimator that keeps what is kept of a signal stands for it
pub kept-stands : (format : Fmt) (d : DecimateState) (numbers x : List ℤ) → kept d ≡ numbers →
    numbers ≡ kept_of format d.factor d.taps x → StandsFor d x
kept-stands format d numbers x keeps is =
    let parts = same_from_push d.past (last_of (past_length d.factor (length d.taps)) x) (pos d.phase)
    (pos (length x % d.factor)) (keeps ∙ is) in
    let last : pos d.phase ≡ pos (length x % d.factor) = parts.1 in
    record { past_is = parts.0; phase_is = cc }

-- one more value is counted
pub value-counted : (a b c : Counts) (i m p q : ℕ) → m ≡ i + 1 → RisesWithin a b (i * p) (i * q) →
    RisesWithin b c p q → RisesWithin a c (m * p) (m * q)
value-counted a b c i m p q next first second =
    let products : m * p ≡ i * p + p = ap (λ j. j * p) next ∙ omega arith in
    let turns : m * q ≡ i * q + q = ap (λ j. j * q) next ∙ omega arith in
    record {
      multiplies_rise = omega (arith, products);
      turns_within = omega (arith, turns);
    }

-- ---- the window

-- ---- the phase behind the kept samples

-- and behind the others
pub with-last : (numbers : List ℤ) (last : ℕ) → length numbers ≡ last + 1 →
    take last numbers ++ sample numbers last ∷ [] ≡ numbers
with-last numbers last whole = sym (take_more numbers last (pos 0) (omega (arith, whole))) ∙
    take_all (last + 1) numbers (omega (arith, whole))
