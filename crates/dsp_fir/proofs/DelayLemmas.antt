-- Delays of a sparse filter, and the sums that its taps add to.
use Rattle.std.proofs.Common.{◌≡◌, ◌∙◌, ap, sym, subst, refl, ℕ, zero, suc, ◌+◌, ◌-◌, ◌*◌, ◌<◌, ◌≤◌, ℤ, pos, ◌+ℤ◌}
use Rattle.std.proofs.Common.{List, [], ◌∷◌, ◌++◌, length, map, get_or, slice_range, None, Some, true, false, drop}
use Rattle.std.proofs.Common.{length-take-le, length-drop, arith, ⊎_elim}
use Rattle.std.specs.Prelude.{◌≤ℤ◌, All, fold, max, find, nat_abs, nat_lt, cond, Option}
use Rattle.std.specs.Option.{option_map}
use Rattle.std.specs.Simd.Lanes.{zip2}
use Rattle.std.proofs.lemmas.Bool.{cases_lt}
use Rattle.std.proofs.lemmas.Int.{ints, int_wrap-add_left, int_wrap-mul_right}
use Rattle.std.proofs.lemmas.Bool.Decides.{nat_tests}
use Rattle.std.proofs.lemmas.List.{length-map}
use Rattle.std.proofs.lemmas.List.Elements.{All-nil, All-cons, All-map}
use Rattle.std.proofs.lemmas.List.FromFn.{length-map-range_with_len, get_or-map-range_with_len, fill_by_all}
use Rattle.std.proofs.lemmas.Simd.{length-zip2, get_or-zip2}
use Rattle.std.proofs.Math.Nat.{le-max_left, le-max_right}
use Rattle.dsp_defs.specs.Numbers.{◌>>◌, saturate, wrap, w32}
use Rattle.dsp_defs.specs.Signal.{sample, delayed, values, sum_below}
use Rattle.dsp_defs.specs.Streaming.{Continues, last_of}
use Rattle.dsp_defs.specs.Sums.{sparse, sparse_term, sparse_close}
use Rattle.dsp_defs.specs.declared.limits.TheConstants.{MAX_DELAY}
use Rattle.dsp_defs.proofs.FormatLemmas.{wrap-wrap}
use Rattle.dsp_defs.proofs.Signal.{values_cong, values-add, sum_below_cong, delayed-append}
use Rattle.dsp_defs.proofs.Streaming.{window_at}
use Rattle.std.proofs.lemmas.List.{drop_all, length-append}
use Rattle.dsp_lanes.specs.Turns.{RisesWithin}
use Rattle.dsp_defs.specs.Counts.{Counts}
use Rattle.dsp_fir.specs.Delays.{greatest_delay, delays_fault, delayed_sum, sparse_rows}
use Rattle.dsp_defs.specs.Kept.{greatest}
use Rattle.dsp_fir.specs.ByChannel.{IsWindowIn}
use Rattle.dsp_defs.specs.declared.script.Block.TheVariants.{Sparse}
use Rattle.dsp_defs.specs.declared.fault.MakeFault.TheVariants.{Range}
use Rattle.dsp_filter.proofs.Slices.{sample-piece}
use Rattle.dsp_defs.specs.declared.format.Fmt.{Fmt}
use Rattle.dsp_defs.specs.declared.format.Fmt.TheVariants.{Q7, Q15, Q31}

-- ---- the greatest delay

grows : (a : ℕ) (delays : List ℕ) → a ≤ fold max a delays
grows a [] = omega arith
grows a (d ∷ delays) = omega (arith, grows (max a d) delays, le-max_left a d)

below_greatest : (a : ℕ) (delays : List ℕ) (k e : ℕ) → k < length delays → get_or delays k e ≤ fold max a delays
below_greatest a [] k e h = absurd (omega (arith, h))
below_greatest a (d ∷ delays) zero e h = omega (arith, grows (max a d) delays, le-max_right a d)
below_greatest a (d ∷ delays) (suc k) e h = below_greatest (max a d) delays k e (omega (arith, h))

delays-within : (delays : List ℕ) → All (λ d. d ≤ greatest_delay delays) delays
delays-within delays k e h = below_greatest 0 delays k e h

-- delays as a block names them
delays-named : (delays : List ℕ) → map nat_abs (map pos delays) ≡ delays
delays-named [] = refl
delays-named (d ∷ delays) = ap (λ l. d ∷ l) (delays-named delays)

pub greatest-named : (delays : List ℕ) → greatest (map pos delays) ≡ greatest_delay delays
greatest-named delays = ap greatest_delay (delays-named delays)

-- delays without a fault are as they may be
pub delays-some : (delays : List ℕ) → All (λ d. pos 0 ≤ℤ d) (map pos delays)
delays-some delays = All-map (λ d. pos 0 ≤ℤ d) pos delays (λ k e h. omega (arith, ints))

none-over : (delays : List ℕ) → find (λ d. nat_lt MAX_DELAY d) delays ≡ None →
    All (λ d. d ≤ℤ pos MAX_DELAY) (map pos delays)
none-over [] none = All-nil (λ d. d ≤ℤ pos MAX_DELAY)
none-over (d ∷ delays) none =
    ⊎_elim
    (λ (over : MAX_DELAY < d). let test : nat_lt MAX_DELAY d ≡ true = grind (arith, nat_tests) in
    absurd (some_is_some (ap (λ t. cond t (Some d) (find (λ d. nat_lt MAX_DELAY d) delays)) (sym test) ∙ none)))
    (λ (fits : d ≤ MAX_DELAY). let test : nat_lt MAX_DELAY d ≡ false = grind (arith, nat_tests) in
    All-cons (λ d. d ≤ℤ pos MAX_DELAY) (pos d) (map pos delays) (omega (arith, ints, fits))
    (none-over delays (ap (λ t. cond t (Some d) (find (λ d. nat_lt MAX_DELAY d) delays)) (sym test) ∙ none)))
    (cases_lt MAX_DELAY d)
  where
    some_is_some : Some d ≡ None → ⊥
    some_is_some e = cc e

-- a list whose rest is empty has the fault of no delay
pub delays-few : (delays : List ℕ) (i : ℕ) → length delays ≤ i → delays_fault delays ≡ delays_fault (drop i delays) →
    All (λ d. d ≤ℤ pos MAX_DELAY) (map pos delays)
delays-few delays i past same =
    none-over delays (none (find (λ d. nat_lt MAX_DELAY d) delays) (same ∙ ap delays_fault (drop_all i delays past)))
  where
    none : (found : Option ℕ) → option_map (λ d. Range (pos d)) found ≡ None → found ≡ None
    none None is = refl
    none (Some d) is = absurd (cc is)

-- ---- the sums

pub taps-more :
    {X : Type 0} → (number : X → ℤ) (format : Fmt) (taps : List ℤ) (delays : List ℕ) (past : ℕ) (window : List X)
    (sums new : List ℤ) (n k m d : ℕ) (t : ℤ) →
    m ≡ k + 1 → t ≡ sample taps k → d ≡ get_or delays k 0 → d ≤ past → length window ≡ past + n →
    sums ≡ values n (λ i. wrap w32 (delayed_sum format taps delays past (map number window) k i)) →
    new ≡ zip2 (λ s x. wrap w32 (s +ℤ sparse_term format t x)) sums
    (map number (slice_range window (past - d) (past - d + n))) →
    new ≡ values n (λ i. wrap w32 (delayed_sum format taps delays past (map number window) m i))
taps-more number format taps delays past window sums new n k m d t next is_tap is_delay within long summed added =
    fill_by_all (λ i. wrap w32 (delayed_sum format taps delays past (map number window) m i)) new n (pos 0) size each
  where
    f : ℤ → ℤ → ℤ
    f s x = wrap w32 (s +ℤ sparse_term format t x)

    piece : List ℤ
    piece = map number (slice_range window (past - d) (past - d + n))

    piece_long : length piece ≡ n
    piece_long = length-map (slice_range window (past - d) (past - d + n)) number ∙
        length-take-le (past - d + n - (past - d)) (drop (past - d) window)
        (omega (arith, length-drop (past - d) window)) ∙ omega arith

    sums_long : length sums ≡ n
    sums_long = ap length summed ∙ length-map-range_with_len _ 0 n

    size : length new ≡ n
    size = ap length added ∙ length-zip2 f sums piece (sums_long ∙ sym piece_long) ∙ sums_long

    each : (i : ℕ) → i < n → sample new i ≡ wrap w32 (delayed_sum format taps delays past (map number window) m i)
    each i h =
        let s = delayed_sum format taps delays past (map number window) k i in
        let place : past - d + i ≡ i + (past - get_or delays k 0) = omega (arith, is_delay) in
        let x : sample piece i ≡ sample (map number window) (i + (past - get_or delays k 0)) =
        sample-piece number window (past - d) n i h ∙ ap (sample (map number window)) place in
        let sum : sample sums i ≡ wrap w32 s = ap (λ l. sample l i) summed ∙
        get_or-map-range_with_len (λ i. wrap w32 (delayed_sum format taps delays past (map number window) k i)) 0 n
        i i (pos 0) h (omega arith) in
        let step : m ≡ suc k = omega arith in
        ap (λ l. sample l i) added
        ∙ get_or-zip2 f sums piece i (pos 0) (pos 0) (pos 0) (omega (arith, h, sums_long))
        (omega (arith, h, piece_long))
        ∙ (λ j. wrap w32 (sum j +ℤ sparse_term format (is_tap j) (x j)))
        ∙ int_wrap-add_left w32 s (sparse_term format (sample taps k)
        (sample (map number window) (i + (past - get_or delays k 0))))
        ∙ ap (λ c. wrap w32 (delayed_sum format taps delays past (map number window) c i)) (sym step)

-- closing takes the wrap away
sparse_close-wrap : (format : Fmt) (sum : ℤ) → sparse_close format (wrap w32 sum) ≡ sparse_close format sum
sparse_close-wrap Q7 sum = ap (λ z. saturate 8 (z >> 7)) (wrap-wrap w32 sum)
sparse_close-wrap Q15 sum = ap (λ z. saturate 16 (z >> 15)) (wrap-wrap w32 sum)
sparse_close-wrap Q31 sum = int_wrap-mul_right w32 (pos 2) sum

-- closed sums are the rows
pub sums-close :
    (format : Fmt) (taps : List ℤ) (delays : List ℕ) (past : ℕ) (window sums out : List ℤ) (n count : ℕ) →
    count ≡ length taps →
    sums ≡ values n (λ i. wrap w32 (delayed_sum format taps delays past window count i)) →
    out ≡ values n (λ i. sparse_close format (sample sums i)) → out ≡ sparse_rows format taps delays past window n
sums-close format taps delays past window sums out n count all summed closed =
    closed
    ∙ values_cong n _ _
    (λ i h. ap (sparse_close format)
    (ap (λ l. sample l i) summed ∙ get_or-map-range_with_len
    (λ i. wrap w32 (delayed_sum format taps delays past window count i)) 0 n i i (pos 0) h (omega arith))
    ∙ sparse_close-wrap format (delayed_sum format taps delays past window count i)
    ∙ ap (λ c. sparse_close format (delayed_sum format taps delays past window c i)) all)

-- one tap more is counted
pub tap-counted : (a b c : Counts) (k m n t p q : ℕ) → m ≡ k + 1 → p ≡ n → q ≡ t → RisesWithin a b (k * n) (k * t) →
    RisesWithin b c p q → RisesWithin a c (m * n) (m * t)
tap-counted a b c k m n t p q next same same' first second =
    let products : m * n ≡ k * n + n = ap (λ j. j * n) next ∙ omega arith in
    let turns : m * t ≡ k * t + t = ap (λ j. j * t) next ∙ omega arith in
    record {
      multiplies_rise = omega (arith, products);
      turns_within = omega (arith, turns);
    }

-- ---- the signal

-- the rows of the window go on where the filter's values for x end
sparse-values :
    (format : Fmt) (taps : List ℤ) (delays : List ℕ) (past : ℕ) (x block window out : List ℤ) (count : ℕ) →
    ((k : ℕ) → k < length taps → get_or delays k 0 ≤ past) →
    window ≡ last_of past x ++ block → count ≡ length block → out ≡ sparse_rows format taps delays past window count →
    Continues (sparse format taps delays) x block out
sparse-values format taps delays past x block window out count within shows same is =
    rw (length-append x block)
    (values-add (length x) (length block) output)
    ∙ ap (λ front. front ++ values (length block) (λ i. output (length x + i))) (values_cong (length x) output _ before)
    ∙ ap (λ later. sparse format taps delays x ++ later)
    (values_cong (length block) (λ i. output (length x + i)) _ after
    ∙ ap (λ w. sparse_rows format taps delays past w (length block)) (sym shows)
    ∙ ap (sparse_rows format taps delays past window) (sym same)
    ∙ sym is)
  where
    output : ℕ → ℤ
    output n = sparse_close format (sum_below (length taps)
        (λ k. sparse_term format (sample taps k) (delayed (x ++ block) n (get_or delays k 0))))

    before : (n : ℕ) → n < length x → output n ≡ sparse_close format
        (sum_below (length taps) (λ k. sparse_term format (sample taps k) (delayed x n (get_or delays k 0))))
    before n h = ap (sparse_close format) (sum_below_cong (length taps) _ _
        (λ k _. ap (sparse_term format (sample taps k)) (delayed-append x block n (get_or delays k 0) h)))

    after : (i : ℕ) → i < length block → output (length x + i) ≡ sparse_close format
        (delayed_sum format taps delays past (last_of past x ++ block) (length taps) i)
    after i _ = ap (sparse_close format)
        (sum_below_cong (length taps) _ _
        (λ k h. let near = within k h in
        ap (sparse_term format (sample taps k)) (sym (window_at x block past i (past - get_or delays k 0)
        (get_or delays k 0) (omega (arith, near))))))

-- the same of delays as a block names them
pub within-past : (past : ℕ) (delays : List ℕ) (k e : ℕ) → past ≡ greatest (map pos delays) → k < length delays →
    get_or delays k e ≤ past
within-past past delays k e depth h =
    let near = delays-within delays k e h in
    let named = greatest-named delays in
    omega (arith, near, named, depth)

pub named-values :
    (format : Fmt) (taps : List ℤ) (delays : List ℕ) (past : ℕ) (x block window out : List ℤ) (count : ℕ) →
    IsWindowIn format (Sparse taps (map pos delays)) → past ≡ greatest (map pos delays) →
    window ≡ last_of (greatest (map pos delays)) x ++ block → length block ≡ count →
    out ≡ sparse_rows format taps delays past window count →
    Continues (sparse format taps (map nat_abs (map pos delays))) x block out
named-values format taps delays past x block window out count is depth shows size is_rows =
    let as_many : length delays ≡ length taps = sym (length-map delays pos) ∙ is.1 in
    subst (λ ds. Continues (sparse format taps ds) x block out) (sym (delays-named delays))
    (sparse-values format taps delays past x block window out count
    (λ k h. within-past past delays k 0 depth (omega (arith, h, as_many)))
    (shows ∙ ap (λ n. last_of n x ++ block) (sym depth)) (sym size) is_rows)
