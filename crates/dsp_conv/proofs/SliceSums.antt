-- Sums of products over the samples that are there.
use Rattle.std.proofs.Common.{◌≡◌, ◌∙◌, ap, ap₂, sym, refl, ℕ, zero, suc, ◌+◌, ◌-◌, ◌<◌, ◌≤◌, min, max, ℤ, pos, ◌+ℤ◌}
use Rattle.std.proofs.Common.{◌*ℤ◌, List, [], ◌∷◌, ◌++◌, length, map, take, drop, set, reverse, arith, length-take-le}
use Rattle.std.proofs.Common.{⊎_elim}
use Rattle.std.proofs.Math.IntN.{+ℤ_assoc, +ℤ_idl, +ℤ_idr}
use Rattle.std.proofs.lemmas.Int.{ints}
use Rattle.std.proofs.lemmas.Bool.{cases_lt}
use Rattle.std.proofs.lemmas.List.{get_or-drop, get_or-take, get_or-reverse, get_or_past, length-drop, take-map}
use Rattle.std.proofs.lemmas.List.{drop-map, take_more_set, map-append}
use Rattle.std.proofs.lemmas.List.FromFn.{map-range_with_len_more}
use Rattle.dsp_defs.specs.Signal.{sample, delayed, values, sum_below}
use Rattle.dsp_defs.specs.Sums.{convolution_at}
use Rattle.dsp_defs.proofs.Signal.{sum_below_cong, delayed_before, delayed_after, sum_below-add}
use Rattle.dsp_defs.specs.Cost.{correlation_products}
use Rattle.dsp_conv.specs.Sums.{correlation_at, correlation_terms}

-- ---- sums

pub sum-zero : (n : ℕ) (f : ℕ → ℤ) → ((k : ℕ) → k < n → f k ≡ pos 0) → sum_below n f ≡ pos 0
sum-zero zero f none = refl
sum-zero (suc n) f none = ap₂ (λ s t. s +ℤ t) (sum-zero n f (λ k below. none k (omega (arith, below))))
    (none n (omega arith))

-- terms that are 0 at both ends may be left out
pub part-sum : (total start size : ℕ) (f : ℕ → ℤ) → start + size ≤ total → ((k : ℕ) → k < start → f k ≡ pos 0) →
    ((k : ℕ) → start + size ≤ k → k < total → f k ≡ pos 0) →
    sum_below total f ≡ sum_below size (λ j. f (start + j))
part-sum total start size f within front back =
    let rest = total - (start + size) in
    let whole : total ≡ start + (size + rest) = omega (arith, within) in
    ap (λ k. sum_below k f) whole
    ∙ sum_below-add start (size + rest) f
    ∙ ap₂ (λ s t. s +ℤ t) (sum-zero start f front)
    (sum_below-add size rest (λ j. f (start + j))
    ∙ ap (λ s. sum_below size (λ j. f (start + j)) +ℤ s)
    (sum-zero rest (λ j. f (start + (size + j))) (λ j below. back (start + (size + j)) (omega arith)
    (omega (arith, below, within))))
    ∙ +ℤ_idr (sum_below size (λ j. f (start + j))))
    ∙ +ℤ_idl (sum_below size (λ j. f (start + j)))

pub times-zero : (a b : ℤ) → b ≡ pos 0 → a *ℤ b ≡ pos 0
times-zero a b none = ap (λ z. a *ℤ z) none ∙ omega (arith, ints)

pub zero-times : (a b : ℤ) → a ≡ pos 0 → a *ℤ b ≡ pos 0
zero-times a b none = ap (λ z. z *ℤ b) none ∙ omega (arith, ints)

-- ---- pieces of lists

pub piece : (xs : List ℤ) (start size j : ℕ) → j < size → sample (take size (drop start xs)) j ≡ sample xs (start + j)
piece xs start size j below = get_or-take size (drop start xs) j (pos 0) below ∙ get_or-drop start xs j (pos 0)

pub piece-long : {X : Type 0} (xs : List X) (start size : ℕ) → start + size ≤ length xs →
    length (take size (drop start xs)) ≡ size
piece-long xs start size within = length-take-le size (drop start xs) (omega (arith, length-drop start xs, within))

-- a piece of samples, as numbers
pub mapped-piece : {X : Type 0} (number : X → ℤ) (xs : List X) (start size : ℕ) →
    map number (take size (drop start xs)) ≡ take size (drop start (map number xs))
mapped-piece number xs start size = sym (take-map number size (drop start xs)) ∙
    ap (take size) (sym (drop-map number start xs))

-- ---- one value

pub convolution-part : (a b : List ℤ) (n start end : ℕ) → n + 1 < length a + length b → start ≡ n + 1 - length a →
    end ≡ min (length b) (n + 1) →
    convolution_at b a n ≡ sum_below (end - start) (λ k. sample (take (end - start) (drop start b)) k *ℤ sample
    (reverse (take (end - start) (drop (n + 1 - end) a))) k)
convolution-part a b n start end inside is_start is_end =
    let size = end - start in
    let order : start ≤ end = omega (arith, inside, is_start, is_end) in
    part-sum (length b) start size (λ k. sample b k *ℤ delayed a n k) (omega (arith, order, is_end))
    (λ k below. times-zero (sample b k) (delayed a n k)
    (delayed_after a n k (omega (arith, below, is_start)) ∙
    get_or_past a (n - k) (pos 0) (omega (arith, below, is_start))))
    (λ k past below. times-zero (sample b k) (delayed a n k)
    (delayed_before a n k (omega (arith, past, below, is_end, order))))
    ∙ sum_below_cong size _ _
    (λ j below.
    let back = take size (drop (n + 1 - end) a) in
    let long : length back ≡ size = piece-long a (n + 1 - end) size (omega (arith, order, is_start, is_end)) in
    let place : n - (start + j) ≡ n + 1 - end + (length back - 1 - j) = omega (arith, long, below, order, is_end) in
    ap₂ (λ p q. p *ℤ q) (sym (piece b start size j below))
    (delayed_after a n (start + j) (omega (arith, below, order, is_end))
    ∙ ap (sample a) place
    ∙ sym (piece a (n + 1 - end) size (length back - 1 - j) (omega (arith, long, below)))
    ∙ sym (get_or-reverse back j (pos 0) (omega (arith, long, below)))))

pub correlation-part : (a b : List ℤ) (n start end from longest : ℕ) → 1 ≤ length a → 1 ≤ length b →
    longest ≡ max (length a) (length b) → end ≡ min (length a) (n + 1 + length b - longest) →
    start ≡ min (n + 1 - longest) end → from ≡ min (longest - 1 - n) (length b) →
    correlation_at b a n ≡ sum_below (end - start) (λ k. sample (take (end - start) (drop start a)) k *ℤ sample
    (take (end - start) (drop from b)) k)
correlation-part a b n start end from longest some taps is_longest is_end is_start is_from =
    let size = end - start in
    let m = max (length a) (length b) in
    part-sum (length a) start size (λ k. sample a k *ℤ delayed b (k + m - 1) n) (omega (arith, is_end, is_start))
    (λ k below. times-zero (sample a k) (delayed b (k + m - 1) n)
    (delayed_before b (k + m - 1) n (omega (arith, below, is_start, is_longest, some))))
    (λ k past below. times-zero (sample a k) (delayed b (k + m - 1) n) (behind k (omega (arith, past, is_start)) below))
    ∙ sum_below_cong size _ _
    (λ j below.
    let place : start + j + m - 1 - n ≡ from + j = omega (arith, below, is_start, is_end, is_from, is_longest, some) in
    ap₂ (λ p q. p *ℤ q) (sym (piece a start size j below))
    (delayed_after b (start + j + m - 1) n (omega (arith, below, is_start, is_end, is_longest, some)) ∙
    ap (sample b) place ∙ sym (piece b from size j below)))
  where
    behind : (k : ℕ) → end ≤ k → k < length a → delayed b (k + max (length a) (length b) - 1) n ≡ pos 0
    behind k past below =
        ⊎_elim
        (λ (before : k + max (length a) (length b) - 1 < n). delayed_before b (k + max (length a) (length b) - 1) n
        before)
        (λ (after : n ≤ k + max (length a) (length b) - 1). delayed_after b (k + max (length a) (length b) - 1) n after
        ∙ get_or_past b (k + max (length a) (length b) - 1 - n) (pos 0)
        (omega (arith, after, past, below, is_end, is_longest)))
        (cases_lt (k + max (length a) (length b) - 1) n)

-- ---- a list of values

-- one more value is written
pub written-more : {X : Type 0} (number : X → ℤ) (out : List X) (i : ℕ) (v : X) (f : ℕ → ℤ) → i < length out →
    map number (take i out) ≡ values i f → number v ≡ f i → map number (take (i + 1) (set out i v)) ≡ values (i + 1) f
written-more number out i v f inside so_far is =
    ap (map number) (take_more_set out i v inside)
    ∙ map-append number (take i out) (v ∷ [])
    ∙ ap₂ (λ l z. l ++ z ∷ []) so_far is
    ∙ sym (map-range_with_len_more f 0 i i (omega arith))

-- and its products counted
pub correlation-more : (n t first i : ℕ) → correlation_products n t (first + (i + 1)) ≡ correlation_products n t
    (first + i) + correlation_terms n t (first + i)
correlation-more n t first i = (let next : first + (i + 1) ≡ suc (first + i) = omega arith in
    ap (correlation_products n t) next)
