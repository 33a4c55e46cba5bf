-- Stretches of values: pieces behind one another, and those that are sums over all of the shorter list.
use Rattle.std.proofs.Common.{◌≡◌, ◌∙◌, ap, ap₂, sym, ℕ, zero, suc, ◌+◌, ◌-◌, ◌*◌, ◌/◌, ◌<◌, ◌≤◌, ℤ, ◌*ℤ◌, List, ◌++◌}
use Rattle.std.proofs.Common.{length, map, max, min, refl, reverse, pos, take, drop, slice_range, arith}
use Rattle.std.proofs.Math.IntN.{*ℤ_comm}
use Rattle.std.proofs.Math.Nat.{mul-suc, mul-le-mul_left}
use Rattle.std.proofs.lemmas.Nat.{div-add-mod'}
use Rattle.std.proofs.lemmas.List.{length-map, length-reverse, map-append, get_or-reverse, get_or_past}
use Rattle.std.proofs.lemmas.Int.{int_wrap_fits, ints}
use Rattle.dsp_defs.specs.Counts.{Counts}
use Rattle.dsp_defs.specs.Formats.{close}
use Rattle.dsp_defs.specs.Numbers.{saturate, wrap, w32, w64, ◌>>◌}
use Rattle.dsp_defs.specs.Signal.{sample, delayed, values, sum_below}
use Rattle.dsp_defs.specs.Streaming.{rows}
use Rattle.dsp_defs.specs.Sums.{convolution_at}
use Rattle.dsp_defs.specs.Cost.{correlation_products}
use Rattle.dsp_defs.specs.declared.format.Fmt.{Fmt}
use Rattle.dsp_defs.specs.declared.format.Fmt.TheVariants.{Q7, Q15, Q31}
use Rattle.dsp_defs.proofs.Signal.{values_cong, values-add, sum_below_cong, sum_below_reversed, delayed_before}
use Rattle.dsp_defs.proofs.Signal.{delayed_after}
use Rattle.dsp_lanes.specs.Turns.{lane_turns}
use Rattle.dsp_filter.proofs.Slices.{sample-piece}
use Rattle.dsp_conv.specs.Sums.{convolution_stretch, correlation_at, correlation_stretch, correlation_terms}
use Rattle.dsp_conv.specs.Sums.{CorrelationRises, RisesAtMost}
use Rattle.dsp_conv.proofs.SliceSums.{correlation-part, correlation-more, part-sum}
use Rattle.dsp_conv.proofs.SliceSums.{sum-zero, piece, times-zero, zero-times}

-- ---- pieces behind one another

stretch-add : (f : ℕ → ℤ) (first p q : ℕ) → values (p + q) (λ i. f (first + i)) ≡ values p (λ i. f (first + i)) ++
    values q (λ i. f (first + p + i))
stretch-add f first p q =
    values-add p q (λ i. f (first + i))
    ∙ ap (λ l. values p (λ i. f (first + i)) ++ l) (values_cong q _ _
    (λ i _. let place : first + (p + i) ≡ first + p + i = omega arith in ap f place))

-- three pieces that were written
pub three-written :
    {X : Type 0} (number : X → ℤ) (f : ℕ → ℤ) (first : ℕ) {second third : ℕ} (p q r : ℕ) {n : ℕ}
    (before inside behind : List X) → n ≡ p + (q + r) → second ≡ first + p → third ≡ first + p + q →
    map number before ≡ values p (λ i. f (first + i)) → map number inside ≡ values q (λ i. f (second + i)) →
    map number behind ≡ values r (λ i. f (third + i)) →
    map number (before ++ (inside ++ behind)) ≡ values n (λ i. f (first + i))
three-written number f first p q r before inside behind whole next last is_before is_inside is_behind =
    map-append number before (inside ++ behind)
    ∙ ap₂ (λ l m. l ++ m) is_before
    (map-append number inside behind
    ∙ ap₂ (λ l m. l ++ m) (is_inside ∙ ap (λ k. values q (λ i. f (k + i))) next)
    (is_behind ∙ ap (λ k. values r (λ i. f (k + i))) last)
    ∙ sym (stretch-add f (first + p) q r))
    ∙ sym (stretch-add f first p (q + r))
    ∙ ap (λ k. values k (λ i. f (first + i))) (sym whole)

-- and their products
pub three-risen : {s0 s1 s2 s3 : Counts} (t p q r : ℕ) {n : ℕ} → n ≡ p + (q + r) → RisesAtMost s0 s1 (q * t) →
    RisesAtMost s1 s2 (p * t) → RisesAtMost s2 s3 (r * t) → RisesAtMost s0 s3 (n * t)
three-risen t p q r {n = n} whole one two three =
    let all : n * t ≡ p * t + q * t + r * t = ap (λ k. k * t) whole ∙ omega arith in
    record {
      multiplies_rise = omega (arith, one, two, three);
      multiplies_most = omega (arith, one, two, three, all);
      turns_most = omega (arith, one, two, three, all);
    }

pub three-correlated : {s0 s1 s2 s3 : Counts} {n t first second third : ℕ} (p q r : ℕ) {count : ℕ} →
    count ≡ p + (q + r) → second ≡ first + p → third ≡ first + p + q →
    CorrelationRises n t first (first + p) s0 s1 → CorrelationRises n t second (second + q) s1 s2 →
    CorrelationRises n t third (third + r) s2 s3 → CorrelationRises n t first (first + count) s0 s3
three-correlated {n = n} {t = t} {first = first} {second = second} {third = third} p q r {count = count} whole next last
    one two three =
    let made = correlation_products n t in
    let to_third : second + q ≡ third = omega (arith, next, last) in
    let to_end : third + r ≡ first + count = omega (arith, whole, last) in
    record {
      multiplies = omega (arith, one, two, three, ap made next, ap made to_third, ap made to_end);
      turns = omega (arith, one, two, three, ap made next, ap made to_third, ap made to_end);
    }

-- ---- sums of nothing

nothing-at : (a b : List ℤ) (n : ℕ) → 1 ≤ length a → 1 ≤ length b → correlation_terms (length a) (length b) n ≡ 0 →
    correlation_at b a n ≡ pos 0
nothing-at a b n some taps none =
    let longest = max (length a) (length b) in
    let end = min (length a) (n + 1 + length b - longest) in
    let start = min (n + 1 - longest) end in
    let from = min (longest - 1 - n) (length b) in
    correlation-part a b n start end from longest some taps refl refl refl refl
    ∙ sum-zero (end - start) _ (λ k below. absurd (omega (arith, below, none)))

none-32 : wrap w32 (pos 0) ≡ pos 0
none-32 = int_wrap_fits w32 (pos 0) (omega (arith, ints))

none-64 : wrap w64 (pos 0) ≡ pos 0
none-64 = int_wrap_fits w64 (pos 0) (omega (arith, ints))

close-zero : (format : Fmt) → close format (pos 0) ≡ pos 0
close-zero Q7 = ap (λ z. saturate 8 (z >> 7)) none-32
close-zero Q15 = ap (λ z. saturate 16 (z >> 15)) none-64
close-zero Q31 = ap (λ z. wrap w32 (z >> 31)) none-64 ∙ none-32

-- zeros are the values of which none has a term
pub nothing-written : (format : Fmt) (a b : List ℤ) (first count : ℕ) → 1 ≤ length a → 1 ≤ length b →
    ((i : ℕ) → i < count → correlation_terms (length a) (length b) (first + i) ≡ 0) →
    values count (λ _. pos 0) ≡ correlation_stretch format b a first count
nothing-written format a b first count some taps none =
    values_cong count _ _ (λ i below. sym (ap (close format) (nothing-at a b (first + i) some taps (none i below)) ∙
    close-zero format))

-- and nothing is counted
pub nothing-made : {s : Counts} (n t first count : ℕ) →
    ((i : ℕ) → i < count → correlation_terms n t (first + i) ≡ 0) → CorrelationRises n t first (first + count) s s
nothing-made n t first count none =
    let made : correlation_products n t (first + count) ≡ correlation_products n t first = products count none in
    record { multiplies = omega (arith, made); turns = omega (arith, made) }
  where
    products : (k : ℕ) → ((i : ℕ) → i < k → correlation_terms n t (first + i) ≡ 0) →
        correlation_products n t (first + k) ≡ correlation_products n t first
    products zero none = (let same : first + 0 ≡ first = omega arith in ap (correlation_products n t) same)
    products (suc k) none =
        let next : first + suc k ≡ first + (k + 1) = omega arith in
        let before = products k (λ i below. none i (omega (arith, below))) in
        let last = none k (omega arith) in
        ap (correlation_products n t) next ∙ omega (arith, correlation-more n t first k, before, last)

-- ---- sums over all of the shorter list

middle-value : (a b : List ℤ) (d : ℕ) → 1 ≤ length b → d + length b ≤ length a →
    correlation_at b a (length a - 1 + d) ≡ sum_below (length b) (λ k. sample b k *ℤ sample a (d + k))
middle-value a b d taps inside =
    let t = length b in
    let size : d + t - d ≡ t = omega arith in
    correlation-part a b (length a - 1 + d) d (d + t) 0 (length a) (omega (arith, taps, inside)) taps
    (omega (arith, inside)) (omega (arith, taps, inside)) (omega (arith, taps, inside))
    (omega (arith, taps, inside))
    ∙ ap (λ m. sum_below m (λ k. sample (take m (drop d a)) k *ℤ sample (take m (drop 0 b)) k)) size
    ∙ sum_below_cong t _ _
    (λ j below.
    let place : 0 + j ≡ j = omega arith in
    ap₂ (λ p q. p *ℤ q) (piece a d t j below) (piece b 0 t j below ∙ ap (sample b) place) ∙
    *ℤ_comm (sample a (d + j)) (sample b j))

pub middle-stretch :
    {X : Type 0} (format : Fmt) (number : X → ℤ) (xs : List X) (b : List ℤ) (first count start end : ℕ) →
    1 ≤ length b → 1 ≤ count → length xs ≤ first + 1 → first + count + length b ≤ 2 * length xs →
    start ≡ first - (length xs - 1) → end ≡ start + (count - 1) + length b →
    rows format b (map number (slice_range xs start end)) count ≡ correlation_stretch format b (map number xs) first
    count
middle-stretch format number xs b first count start end taps some from inside is_start is_end =
    let t = length b in
    let long : length (map number xs) ≡ length xs = length-map xs number in
    values_cong count _ _
    (λ i below.
    let place : length (map number xs) - 1 + (start + i) ≡ first + i =
    omega (arith, long, from, is_start, taps, inside) in
    ap (close format)
    (sum_below_cong t _ _
    (λ j under.
    let whole : end ≡ start + (count - 1 + t) = omega (arith, is_end) in
    let moved : start + (i + j) ≡ start + i + j = omega arith in
    ap (λ z. sample b j *ℤ z)
    (ap (λ e. sample (map number (slice_range xs start e)) (i + j)) whole
    ∙ sample-piece number xs start (count - 1 + t) (i + j) (omega (arith, below, under, some))
    ∙ ap (sample (map number xs)) moved))
    ∙ sym (middle-value (map number xs) b (start + i) taps (omega (arith, long, below, some, from, inside, is_start)))
    ∙ ap (correlation_at b (map number xs)) place))

-- each has a product for each of its samples
pub middle-products : (n t first count : ℕ) → 1 ≤ n → 1 ≤ t → n ≤ first + 1 → first + count + t ≤ 2 * n →
    correlation_products n t (first + count) ≡ correlation_products n t first + t * count
middle-products n t first zero some taps from inside =
    (let same : first + 0 ≡ first = omega arith in ap (correlation_products n t) same ∙ omega arith)
middle-products n t first (suc c) some taps from inside =
    let next : first + suc c ≡ first + (c + 1) = omega arith in
    let more = correlation-more n t first c in
    let terms : correlation_terms n t (first + c) ≡ t = omega (arith, some, taps, from, inside) in
    let before = middle-products n t first c some taps from (omega (arith, inside)) in
    ap (correlation_products n t) next ∙ omega (arith, more, terms, before)

-- the same of the full convolution, which reads one list from its end
convolution-value : (a b : List ℤ) (n : ℕ) → 1 ≤ length b → length b ≤ n + 1 →
    convolution_at b a n ≡ sum_below (length b) (λ j. sample (reverse b) j *ℤ sample a (n + 1 - length b + j))
convolution-value a b n taps inside =
    let t = length b in
    sum_below_reversed t (λ k. sample b k *ℤ delayed a n k) (λ j. sample (reverse b) j *ℤ sample a (n + 1 - t + j))
    (λ j below.
    let place : n + 1 - t + j ≡ n - (t - suc j) = omega (arith, below, inside) in
    let other : t - 1 - j ≡ t - suc j = omega arith in
    ap₂ (λ p q. p *ℤ q) (get_or-reverse b j (pos 0) (omega (arith, below)) ∙ ap (sample b) other)
    (ap (sample a) place ∙ sym (delayed_after a n (t - suc j) (omega (arith, below, inside)))))

pub convolution-middle :
    {X : Type 0} (format : Fmt) (number : X → ℤ) (xs : List X) (b : List ℤ) (first count start end : ℕ) →
    1 ≤ length b → length b ≤ first + 1 →
    start ≡ first - (length b - 1) → end ≡ first + count →
    rows format (reverse b) (map number (slice_range xs start end)) count ≡ convolution_stretch format b
    (map number xs) first count
convolution-middle format number xs b first count start end taps from is_start is_end =
    let t = length b in
    let long : length (reverse b) ≡ t = length-reverse b in
    let whole : end ≡ start + (count + t - 1) = omega (arith, taps, from, is_start, is_end) in
    values_cong count _ _
    (λ i below.
    ap (close format)
    (ap (λ m. sum_below m (λ j. sample (reverse b) j *ℤ sample (map number (slice_range xs start end)) (i + j))) long
    ∙ sum_below_cong t _ _
    (λ j under.
    let moved : start + (i + j) ≡ first + i + 1 - t + j = omega (arith, taps, from, is_start) in
    ap (λ z. sample (reverse b) j *ℤ z)
    (ap (λ e. sample (map number (slice_range xs start e)) (i + j)) whole
    ∙ sample-piece number xs start (count + t - 1) (i + j) (omega (arith, below, under, taps))
    ∙ ap (sample (map number xs)) moved))
    ∙ sym (convolution-value (map number xs) b (first + i) taps (omega (arith, from)))))

-- lanes take no more turns than there are products
pub lanes-within : (L n : ℕ) → lane_turns L n ≤ n
lanes-within zero n = omega (arith, div-add-mod' n zero)
lanes-within (suc k) n = omega (arith, div-add-mod' n (suc k), mul-suc (n / suc k) k)

pub turns-within : (L t n : ℕ) → t * lane_turns L n ≤ t * n
turns-within L t n = mul-le-mul_left t (lanes-within L n)

-- ---- the other way round

-- all products whose samples can be there
all-terms : (a b : List ℤ) (n : ℕ) → convolution_at b a n ≡ sum_below (n + 1) (λ k. sample b k *ℤ sample a (n - k))
all-terms a b n =
    let t = length b in
    let f : ℕ → ℤ = λ k. sample b k *ℤ delayed a n k in
    let from : (k : ℕ) → f (0 + k) ≡ f k = λ k. let same : 0 + k ≡ k = omega arith in ap f same in
    sum_below_cong t _ _ (λ k _. sym (from k))
    ∙ sym (part-sum (t + (n + 1)) 0 t f (omega arith) (λ k below. absurd (omega (arith, below)))
    (λ k past _. zero-times (sample b k) (delayed a n k) (get_or_past b k (pos 0) (omega (arith, past)))))
    ∙ part-sum (t + (n + 1)) 0 (n + 1) f (omega arith) (λ k below. absurd (omega (arith, below)))
    (λ k past _. times-zero (sample b k) (delayed a n k) (delayed_before a n k (omega (arith, past))))
    ∙ sum_below_cong (n + 1) _ _ (λ k below. from k ∙ ap (λ z. sample b k *ℤ z)
    (delayed_after a n k (omega (arith, below))))

swapped-at : (a b : List ℤ) (n : ℕ) → convolution_at b a n ≡ convolution_at a b n
swapped-at a b n =
    all-terms a b n
    ∙ sum_below_reversed (n + 1) (λ k. sample b k *ℤ sample a (n - k)) (λ k. sample a k *ℤ sample b (n - k))
    (λ k below.
    let other : n - k ≡ n + 1 - suc k = omega (arith, below) in
    let back : k ≡ n - (n + 1 - suc k) = omega (arith, below) in
    *ℤ_comm (sample a k) (sample b (n - k)) ∙ ap₂ (λ p q. sample b p *ℤ sample a q) other back)
    ∙ sym (all-terms b a n)

-- a convolution is the same with both lists exchanged
pub swapped : (format : Fmt) (a b : List ℤ) (first count : ℕ) →
    convolution_stretch format a b first count ≡ convolution_stretch format b a first count
swapped format a b first count = values_cong count _ _ (λ i _. ap (close format) (sym (swapped-at a b (first + i))))
