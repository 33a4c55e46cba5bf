-- Convolutions as windows, and their tails.
use Rattle.std.proofs.Common.{◌≡◌, ◌∙◌, ap, ap₂, sym, refl, ℕ, zero, suc, ◌+◌, ◌-◌, ◌<◌, ◌≤◌, min, ℤ, pos, ◌*ℤ◌, List}
use Rattle.std.proofs.Common.{[], ◌∷◌, ◌++◌, length, map, take, drop, replicate, reverse, arith, take_all}
use Rattle.std.proofs.Common.{length-append, ⊎_elim}
use Rattle.std.proofs.lemmas.Bool.{cases_lt}
use Rattle.std.proofs.lemmas.List.{get_or-drop, get_or-take, get_or-reverse, get_or_past, get_or-replicate}
use Rattle.std.proofs.lemmas.List.{get_or_append_left, get_or-append_right, length-reverse, length-replicate}
use Rattle.std.proofs.lemmas.List.{append-nil}
use Rattle.std.proofs.lemmas.List.FromFn.{length-map-range_with_len, take-map-range_with_len}
use Rattle.dsp_defs.specs.declared.format.Fmt.{Fmt}
use Rattle.dsp_defs.specs.Formats.{close}
use Rattle.dsp_defs.specs.Signal.{sample, delayed, values, sum_below}
use Rattle.dsp_defs.specs.Streaming.{Continues, last_of, rows}
use Rattle.dsp_defs.specs.Sums.{convolution_at, full_length}
use Rattle.dsp_defs.specs.Shape.{whole_frames, live_frames}
use Rattle.dsp_unit.specs.Filter.{of_channel, of_whole_channel}
use Rattle.dsp_defs.proofs.Signal.{values_cong, values-add, sum_below_cong, sum_below_reversed, delayed-append}
use Rattle.dsp_defs.proofs.Streaming.{window_at}
use Rattle.dsp_conv.specs.declared.extent.Extent.{Extent}
use Rattle.dsp_conv.specs.declared.extent.Extent.TheVariants.{Full, Within}
use Rattle.dsp_conv.specs.Extent.{block_of, first_of, live_end, whole_end, place_in, start_in, given_in, zeros_behind}
use Rattle.dsp_conv.specs.ConvState.{tail_behind}
use Rattle.dsp_conv.proofs.ExtentLemmas.{full-is, more-given, given-index, live-within, whole-end, live-frames}
use Rattle.dsp_conv.proofs.ExtentLemmas.{whole-frames}

-- ---- samples

-- a sample past the end
sample-zeros : (xs : List ℤ) (count i : ℕ) → sample (xs ++ replicate count (pos 0)) i ≡ sample xs i
sample-zeros xs count i =
    ⊎_elim
    (λ (inside : i < length xs). get_or_append_left xs (replicate count (pos 0)) (pos 0) i inside)
    (λ (past : length xs ≤ i). get_or-append_right xs (replicate count (pos 0)) (length xs) i (pos 0) refl past ∙
    zeros count (i - length xs) ∙ sym (get_or_past xs i (pos 0) past))
    (cases_lt i (length xs))
  where
    zeros : (count i : ℕ) → sample (replicate count (pos 0)) i ≡ pos 0
    zeros count i =
        ⊎_elim
        (λ (inside : i < count). get_or-replicate count i (pos 0) (pos 0) inside)
        (λ (past : count ≤ i). get_or_past (replicate count (pos 0)) i (pos 0)
        (omega (arith, length-replicate count (pos 0))))
        (cases_lt i count)

pub map-replicate : {X : Type 0} → (f : X → ℤ) (x : X) (n : ℕ) → map f (replicate n x) ≡ replicate n (f x)
map-replicate f x zero = refl
map-replicate f x (suc n) = ap (λ l. f x ∷ l) (map-replicate f x n)

-- ---- rows

-- the count of its values
pub rows-long : (format : Fmt) (taps window : List ℤ) (n : ℕ) → length (rows format taps window n) ≡ n
rows-long format taps window n = length-map-range_with_len _ 0 n

rows_cong : (format : Fmt) (taps window window' : List ℤ) (n : ℕ) →
    ((i j : ℕ) → i < n → j < length taps → sample window (i + j) ≡ sample window' (i + j)) →
    rows format taps window n ≡ rows format taps window' n
rows_cong format taps window window' n same =
    values_cong n _ _
    (λ i inside. ap (close format) (sum_below_cong (length taps) _ _
    (λ j below. ap (λ v. sample taps j *ℤ v) (same i j inside below))))

-- they read no sample behind the last one that is needed
pub rows-take : (format : Fmt) (taps window : List ℤ) (m n : ℕ) → n + length taps ≤ m + 1 →
    rows format taps (take m window) n ≡ rows format taps window n
rows-take format taps window m n room =
    rows_cong format taps (take m window) window n (λ i j inside below. get_or-take m window (i + j) (pos 0)
    (omega (arith, room, inside, below)))

module _ (format : Fmt) (taps past : List ℤ) where
  -- zeros behind the past change nothing
  rows-zeros : (count n : ℕ) → rows format taps (past ++ replicate count (pos 0)) n ≡ rows format taps past n
  rows-zeros count n = rows_cong format taps (past ++ replicate count (pos 0)) past n
      (λ i j _ _. sample-zeros past count (i + j))

  -- zeros that are pushed move the window on
  pub rows-skipped : (skip n : ℕ) → rows format taps (drop skip past) n ≡ rows format taps
      (drop skip (past ++ replicate skip (pos 0))) n
  rows-skipped skip n =
      rows_cong format taps (drop skip past) (drop skip (past ++ replicate skip (pos 0))) n
      (λ i j _ _. get_or-drop skip past (i + j) (pos 0) ∙ sym (sample-zeros past skip (skip + (i + j))) ∙
      sym (get_or-drop skip (past ++ replicate skip (pos 0)) (i + j) (pos 0)))

  -- the first values of a tail come of zeros that are pushed, and the others of the window behind them
  tail-piece : (count left : ℕ) → rows format taps past (count + left) ≡ rows format taps
      (past ++ replicate count (pos 0)) count ++ rows format taps (drop count (past ++ replicate count (pos 0))) left
  tail-piece count left =
      let window = past ++ replicate count (pos 0) in
      let value : List ℤ → ℕ → ℤ = λ w i. close format (sum_below (length taps)
      (λ j. sample taps j *ℤ sample w (i + j))) in
      sym (rows-zeros count (count + left))
      ∙ values-add count left (value window)
      ∙ ap (λ back. rows format taps window count ++ back)
      (values_cong left (λ i. value window (count + i)) (value (drop count window))
      (λ i _. ap (close format) (sum_below_cong (length taps) _ _
      (λ j _. let place : count + i + j ≡ count + (i + j) = omega arith in
      ap (λ v. sample taps j *ℤ v) (ap (sample window) place ∙ sym (get_or-drop count window (i + j) (pos 0)))))))

-- a piece of a tail as it was written, and what is left of the tail
pub finish-tail :
    (format : Fmt) (taps past block window out behind : List ℤ) (count written left : ℕ) → count ≤ left →
    block ≡ replicate count (pos 0) → window ≡ past ++ block →
    out ≡ rows format taps window written → written ≡ count → behind ≡ drop (length block) (past ++ block) →
    rows format taps past left ≡ out ++ rows format taps behind (left - count)
finish-tail format taps past block window out behind count written left within zeros is_window is_out filled is_behind =
    let whole : left ≡ count + (left - count) = omega arith in
    let long : length block ≡ count = ap length zeros ∙ length-replicate count (pos 0) in
    let shown : past ++ replicate count (pos 0) ≡ past ++ block = ap (λ z. past ++ z) (sym zeros) in
    ap (rows format taps past) whole
    ∙ tail-piece format taps past count (left - count)
    ∙ ap₂ (λ front back. front ++ back)
    (ap₂ (rows format taps) (shown ∙ sym is_window) (sym filled) ∙ sym is_out)
    (ap (λ w. rows format taps w (left - count)) (ap₂ (λ n w. drop n w) (sym long) shown ∙ sym is_behind))

-- ---- a convolution over the window of the past and a block

module _ (format : Fmt) (b x more : List ℤ) where
  -- a sum of products
  window-sum : (i : ℕ) → convolution_at b (x ++ more) (length x + i) ≡ sum_below (length (reverse b))
      (λ j. sample (reverse b) j *ℤ sample (last_of (length b - 1) x ++ more) (i + j))
  window-sum i =
      let window = last_of (length b - 1) x ++ more in
      let product : ℕ → ℤ = λ j. sample (reverse b) j *ℤ sample window (i + j) in
      sum_below_reversed (length b) (λ k. sample b k *ℤ delayed (x ++ more) (length x + i) k) product
      (λ j h.
      let place : length b - 1 - j ≡ length b - suc j = omega arith in
      let tap : sample (reverse b) j ≡ sample b (length b - suc j) = get_or-reverse b j (pos 0) h ∙
      ap (sample b) place in
      ap₂ (λ p q. p *ℤ q) tap (window_at x more (length b - 1) i j (length b - suc j) (omega (arith, h))))
      ∙ ap (λ n. sum_below n product) (sym (length-reverse b))

  -- values from a place of the block on
  window-rows : (start n : ℕ) → values n (λ i. close format (convolution_at b (x ++ more) (length x + (start + i)))) ≡
      rows format (reverse b) (drop start (last_of (length b - 1) x ++ more)) n
  window-rows start n =
      let window = last_of (length b - 1) x ++ more in
      values_cong n _ _
      (λ i _. ap (close format) (window-sum (start + i) ∙ sum_below_cong (length (reverse b)) _ _
      (λ j _. let place : start + i + j ≡ start + (i + j) = omega arith in
      ap (λ v. sample (reverse b) j *ℤ v) (ap (sample window) place ∙ sym (get_or-drop start window (i + j) (pos 0))))))

  -- earlier values stay
  early : (m : ℕ) → m < length x → convolution_at b (x ++ more) m ≡ convolution_at b x m
  early m inside = sum_below_cong (length b) _ _ (λ k _. ap (λ v. sample b k *ℤ v) (delayed-append x more m k inside))

-- ---- what is given

-- the first n of the values that are wanted
abbrev wanted : Fmt → Extent → List ℤ → List ℤ → ℕ → List ℤ
wanted format e b x n = values n (λ i. close format (convolution_at b x (first_of e + i)))

taken-values : (m n : ℕ) (f : ℕ → ℤ) → m ≤ n → take m (values n f) ≡ values m f
taken-values m n f within = take-map-range_with_len f 0 n m within

shorter : (n first count full : ℕ) (f : ℕ → ℤ) → n ≤ full →
    take (n - first) (values (min count (full - first)) f) ≡ values (min n (first + count) - first) f
shorter n first count full f within =
    ⊎_elim
    (λ (less : n - first < min count (full - first)). let same : n - first ≡ min n (first + count) - first =
    omega (arith, less) in
    taken-values (n - first) (min count (full - first)) f (omega (arith, less)) ∙ ap (λ k. values k f) same)
    (λ (all : min count (full - first) ≤ n - first). let same : min count (full - first) ≡ min n (first + count) -
    first = omega (arith, all, within) in
    take_all (n - first) (values (min count (full - first)) f)
    (omega (arith, all, length-map-range_with_len f 0 (min count (full - first)))) ∙ ap (λ k. values k f) same)
    (cases_lt (n - first) (min count (full - first)))

from-zero : (format : Fmt) (b x : List ℤ) (n : ℕ) → values n (λ i. close format (convolution_at b x i)) ≡ wanted
    format Full b x n
from-zero format b x n = values_cong n _ _ (λ i _. let place : i ≡ 0 + i = omega arith in
    ap (λ k. close format (convolution_at b x k)) place)

live-wanted : (format : Fmt) (e : Extent) (b x : List ℤ) → 0 < length b →
    of_channel format (block_of e b) x ≡ wanted format e b x (live_end e (length x) - first_of e)
live-wanted format Full b x some =
    let same : length x ≡ length x - 0 = omega arith in
    taken-values (length x) (full_length (length x) (length b)) (λ i. close format (convolution_at b x i))
    (omega (arith, full-is (length x) (length b) some))
    ∙ from-zero format b x (length x)
    ∙ ap (wanted format Full b x) same
live-wanted format (Within first count) b x some =
    shorter (length x) first count (full_length (length x) (length b))
    (λ i. close format (convolution_at b x (first + i))) (omega (arith, full-is (length x) (length b) some))

whole-wanted : (format : Fmt) (e : Extent) (b x : List ℤ) →
    of_whole_channel format (block_of e b) x ≡ wanted format e b x (whole_end e (length x) (length b) - first_of e)
whole-wanted format Full b x =
    let full = full_length (length x) (length b) in
    let same : full ≡ full - 0 = omega arith in
    from-zero format b x full ∙ ap (wanted format Full b x) same
whole-wanted format (Within first count) b x =
    let full = full_length (length x) (length b) in
    let same : min count (full - first) ≡ min (first + count) full - first = omega arith in
    ap (wanted format (Within first count) b x) same

-- the values of a block come from the window
pub live-append : (format : Fmt) (e : Extent) (b x more : List ℤ) (place : ℕ) → 0 < length b →
    place ≡ place_in e (length x) → Continues (of_channel format (block_of e b)) x more
    (rows format (reverse b) (drop (start_in e place (length more)) (last_of (length b - 1) x ++ more))
    (given_in e place (length more)))
live-append format e b x more place some is =
    let n = length x in
    let m = length more in
    let before = live_end e n - first_of e in
    let given = given_in e place m in
    let value : List ℤ → ℕ → ℤ = λ y i. close format (convolution_at b y i) in
    let long : live_end e (length (x ++ more)) - first_of e ≡ before + given =
    ap (λ k. live_end e k - first_of e) (length-append x more) ∙ more-given e place n m is in
    live-wanted format e b (x ++ more) some
    ∙ ap (wanted format e b (x ++ more)) long
    ∙ values-add before given (λ i. value (x ++ more) (first_of e + i))
    ∙ ap₂ (λ front back. front ++ back)
    (values_cong before _ _ (λ i inside. ap (close format)
    (early format b x more (first_of e + i) (omega (arith, inside, live-within e n)))) ∙
    sym (live-wanted format e b x some))
    (values_cong given _ _ (λ i inside. ap (value (x ++ more)) (given-index e place n m i is inside)) ∙
    window-rows format b x more (start_in e place m) given)

-- the tail is what the window of the past gives
pub tail-is : (format : Fmt) (e : Extent) (b x : List ℤ) (place : ℕ) → 0 < length b → place ≡ place_in e (length x) →
    of_whole_channel format (block_of e b) x ≡ of_channel format (block_of e b) x ++ tail_behind format e b
    (last_of (length b - 1) x) place
tail-is format e b x place some is =
    let n = length x in
    let m = zeros_behind place (length b) in
    let before = live_end e n - first_of e in
    let given = given_in e place m in
    let start = start_in e place m in
    let past = last_of (length b - 1) x in
    let value : List ℤ → ℕ → ℤ = λ y i. close format (convolution_at b y i) in
    let rowed = window-rows format b x [] start given in
    let behind : values given (λ i. value x (n + (start + i))) ≡ rows format (reverse b) (drop start past) given =
    ap (λ y. values given (λ i. value y (n + (start + i)))) (sym (append-nil x)) ∙ rowed ∙
    ap (λ w. rows format (reverse b) (drop start w) given) (append-nil past) in
    whole-wanted format e b x
    ∙ ap (wanted format e b x) (whole-end e place n (length b) some is ∙ more-given e place n m is)
    ∙ values-add before given (λ i. value x (first_of e + i))
    ∙ ap₂ (λ front back. front ++ back)
    (sym (live-wanted format e b x some))
    (values_cong given _ _ (λ i inside. ap (value x) (given-index e place n m i is inside)) ∙ behind)

-- its count
pub tail-long : (format : Fmt) (e : Extent) (b past : List ℤ) (place n : ℕ) → 0 < length b → place ≡ place_in e n →
    whole_frames (block_of e b) n ≡ live_frames (block_of e b) n + length (tail_behind format e b past place)
tail-long format e b past place n some is =
    let m = zeros_behind place (length b) in
    let window = drop (start_in e place m) past in
    whole-frames e b n ∙ whole-end e place n (length b) some is ∙ more-given e place n m is
    ∙ ap₂ (λ k l. k + l) (sym (live-frames e b n some)) (sym (rows-long format (reverse b) window (given_in e place m)))

-- and of what a call gives
pub count-more : (e : Extent) (b : List ℤ) (place n m : ℕ) → 0 < length b → place ≡ place_in e n →
    live_frames (block_of e b) (n + m) ≡ live_frames (block_of e b) n + given_in e place m
count-more e b place n m some is = live-frames e b (n + m) some ∙ more-given e place n m is ∙
    ap (λ k. k + given_in e place m) (sym (live-frames e b n some))
