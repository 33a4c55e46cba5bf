-- Sums of products by lanes, in the words of filters.
use Rattle.std.proofs.Common.{ℕ, ◌≡◌, ◌<◌, ◌≤◌, ◌+◌, zero, suc, List, [], ◌∷◌, ◌++◌, length, take, replicate, set, ℤ}
use Rattle.std.proofs.Common.{pos, ◌+ℤ◌, ◌*ℤ◌, refl, sym, ap, ◌∙◌, arith}
use Rattle.std.proofs.lemmas.Int.{ints, int_wrap_fits, int_wrap-add_left, int_wrap-add_right}
use Rattle.std.proofs.lemmas.List.{take_more_set, drop_more}
use Rattle.std.proofs.lemmas.List.FromFn.{length-map-range_with_len, get_or-map-range_with_len}
use Rattle.std.proofs.lemmas.Simd.{length-chunk, get_or-chunk, zip2-map, take_more_put_chunk, length-replicate}
use Rattle.std.specs.List.{range_with_len}
use Rattle.std.specs.Int.{int_wrap}
use lib.IntN.{+ℤ_idr, +ℤ_assoc}
use lib.Lanes.{zip2, chunk, put_chunk}
use mir.Syntax.{Width, w8, w16, w32, w64, w128}
use Rattle.dsp_defs.specs.Signal.{sample, sum_below, values}
use Rattle.dsp_defs.proofs.Signal.{values_cong, values-add, sum_below_cong, sum_below-front}
use Rattle.dsp_defs.proofs.SumLemmas.{same_numbers}
use Rattle.dsp_lanes.specs.Regrouped.{list_sum}
use Rattle.dsp_lanes.specs.Rows.{row, IsRow}
use Rattle.dsp_lanes.proofs.Groups.{put_chunk-append}

pub chunk-values : (p n : ℕ) (xs : List ℤ) → p + n ≤ length xs → chunk p n xs ≡ values n (λ i. sample xs (p + i))
chunk-values p n xs room =
    let long : length (chunk p n xs) ≡ n = length-chunk p n xs room in
    let wide : length (values n (λ i. sample xs (p + i))) ≡ n =
    length-map-range_with_len (λ i. sample xs (p + i)) 0 n in
    same_numbers (chunk p n xs) (values n (λ i. sample xs (p + i))) (long ∙ sym wide)
    (λ i lt.
    let below : i < n = omega arith in
    get_or-chunk p n xs i (pos 0) below ∙ sym (get_or-map-range_with_len (λ i. sample xs (p + i)) 0 n i i (pos 0)
    below (omega arith)))

zip2-values : (f : ℤ → ℤ → ℤ) (n : ℕ) (a b : ℕ → ℤ) → zip2 f (values n a) (values n b) ≡ values n (λ i. f (a i) (b i))
zip2-values f n a b = zip2-map f a b (range_with_len 0 n)

pub values-zero : (n : ℕ) → replicate n (pos 0) ≡ values n (λ i. pos 0)
values-zero n =
    same_numbers (replicate n (pos 0)) (values n (λ i. pos 0))
    (length-replicate n (pos 0) ∙ sym (length-map-range_with_len (λ i. pos 0) 0 n))
    (λ i lt. let long : length (replicate n (pos 0)) ≡ n = length-replicate n (pos 0) in
    zeros n i ∙ sym (get_or-map-range_with_len (λ i. pos 0) 0 n i i (pos 0) (omega arith) (omega arith)))
  where
    zeros : (n i : ℕ) → sample (replicate n (pos 0)) i ≡ pos 0
    zeros zero i = refl
    zeros (suc n) zero = refl
    zeros (suc n) (suc i) = zeros n i

pub wrap-zero : (w : Width) → pos 0 ≡ int_wrap w (pos 0)
wrap-zero w8 = sym (int_wrap_fits w8 (pos 0) (omega (arith, ints)))
wrap-zero w16 = sym (int_wrap_fits w16 (pos 0) (omega (arith, ints)))
wrap-zero w32 = sym (int_wrap_fits w32 (pos 0) (omega (arith, ints)))
wrap-zero w64 = sym (int_wrap_fits w64 (pos 0) (omega (arith, ints)))
wrap-zero w128 = sym (int_wrap_fits w128 (pos 0) (omega (arith, ints)))

-- ---- rows
-- one tap more, in each lane
pub row_lanes-more : (w : Width) (at n j m : ℕ) (taps window : List ℤ) (t : ℤ) → m ≡ j + 1 → t ≡ sample taps j →
    at + j + n ≤ length window
    → zip2 (λ s x. int_wrap w (s +ℤ (t *ℤ x))) (values n (λ i. int_wrap w (row taps window j (at + i))))
    (chunk (at + j) n window) ≡ values n (λ i. int_wrap w (row taps window m (at + i)))
row_lanes-more w at n j m taps window t next is room =
    let step : m ≡ suc j = omega arith in
    ap (zip2 (λ s x. int_wrap w (s +ℤ (t *ℤ x))) (values n (λ i. int_wrap w (row taps window j (at + i)))))
    (chunk-values (at + j) n window room)
    ∙ zip2-values (λ s x. int_wrap w (s +ℤ (t *ℤ x))) n (λ i. int_wrap w (row taps window j (at + i)))
    (λ i. sample window (at + j + i))
    ∙ values_cong n (λ i. int_wrap w (int_wrap w (row taps window j (at + i)) +ℤ (t *ℤ sample window (at + j + i))))
    (λ i. int_wrap w (row taps window m (at + i)))
    (λ i lt.
    let place : at + j + i ≡ at + i + j = omega arith in
    int_wrap-add_left w (row taps window j (at + i)) (t *ℤ sample window (at + j + i))
    ∙ (λ k. int_wrap w (row taps window j (at + i) +ℤ (is k *ℤ sample window (place k))))
    ∙ ap (λ k. int_wrap w (row taps window k (at + i))) (sym step))

-- one tap more, in a sum
pub row-more : (w : Width) (at j m : ℕ) (taps window : List ℤ) (sum more : ℤ) → m ≡ j + 1
    → sum ≡ int_wrap w (row taps window j at)
    → more ≡ int_wrap w (sum +ℤ sample taps j *ℤ sample window (at + j)) →
    more ≡ int_wrap w (row taps window m at)
row-more w at j m taps window sum more next summed added =
    let step : m ≡ suc j = omega arith in
    added
    ∙ ap (λ s. int_wrap w (s +ℤ sample taps j *ℤ sample window (at + j))) summed
    ∙ int_wrap-add_left w (row taps window j at) (sample taps j *ℤ sample window (at + j))
    ∙ ap (λ k. int_wrap w (row taps window k at)) (sym step)

-- the same up to a multiple of a width, where the sum is wrapped to another that keeps it
pub row-grown : (w v : Width) → ((z : ℤ) → int_wrap w (int_wrap v z) ≡ int_wrap w z) →
    (at j : ℕ) (taps window : List ℤ) (sum more : ℤ)
    → more ≡ int_wrap v (sum +ℤ sample taps j *ℤ sample window (at + j))
    → IsRow w taps window j at sum → IsRow w taps window (j + 1) at more
row-grown w v narrows at j taps window sum more added summed =
    let product = sample taps j *ℤ sample window (at + j) in
    row-more w at j (j + 1) taps window (int_wrap w sum) (int_wrap w more) refl summed
    (ap (int_wrap w) added ∙ narrows (sum +ℤ product) ∙ sym (int_wrap-add_left w sum product))

-- the next group of outputs
pub rows-group : (f : ℕ → ℤ) (at n : ℕ) (new old : List ℤ) → at + n ≤ length old → take at old ≡ values at f →
    new ≡ put_chunk at old (values n (λ i. f (at + i))) → take (at + n) new ≡ values (at + n) f
rows-group f at n new old room done is =
    let ys = values n (λ i. f (at + i)) in
    let long : length ys ≡ n = length-map-range_with_len (λ i. f (at + i)) 0 n in
    ap (take (at + n)) is
    ∙ take_more_put_chunk at old ys (at + n) (omega arith) (omega arith)
    ∙ ap (λ l. l ++ ys) done
    ∙ sym (values-add at n f)

-- two groups of outputs, one behind the other
pub rows-double : (f : ℕ → ℤ) (at n m : ℕ) (old mid new : List ℤ) → m ≡ n + n → at + m ≤ length old →
    mid ≡ put_chunk at old (values n (λ i. f (at + i))) →
    new ≡ put_chunk (at + n) mid (values n (λ i. f (at + n + i))) →
    new ≡ put_chunk at old (values m (λ i. f (at + i)))
rows-double f at n m old mid new both room first second =
    let xs = values n (λ i. f (at + i)) in
    let ys = values n (λ i. f (at + n + i)) in
    let long_x : length xs ≡ n = length-map-range_with_len (λ i. f (at + i)) 0 n in
    let long_y : length ys ≡ n = length-map-range_with_len (λ i. f (at + n + i)) 0 n in
    let behind : (i : ℕ) → at + (n + i) ≡ at + n + i = λ i. omega arith in
    let joined : values m (λ i. f (at + i)) ≡ xs ++ ys =
    ap (λ k. values k (λ i. f (at + i))) both
    ∙ values-add n n (λ i. f (at + i))
    ∙ (λ k. xs ++ values n (λ i. f (behind i k))) in
    second
    ∙ (λ i. put_chunk (at + sym long_x i) (first i) ys)
    ∙ sym (put_chunk-append at old xs ys (omega (arith, room, both, long_x, long_y)))
    ∙ ap (put_chunk at old) (sym joined)

-- the next output
pub rows-one : (f : ℕ → ℤ) (at m : ℕ) (old : List ℤ) (v : ℤ) → m ≡ at + 1 → at < length old →
    take at old ≡ values at f → v ≡ f at → take m (set old at v) ≡ values m f
rows-one f at m old v next room done is =
    let here : at + 0 ≡ at = omega arith in
    ap (λ k. take k (set old at v)) next
    ∙ take_more_set old at v room
    ∙ (λ i. done i ++ ((is ∙ ap f (sym here)) i ∷ []))
    ∙ sym (values-add at 1 f)
    ∙ ap (λ k. values k f) (sym next)

-- ---- a sum by lanes
pub list_sum-wraps : (w : Width) (lanes ps : List ℤ) → length lanes ≡ length ps →
    int_wrap w (list_sum (zip2 (λ s p. int_wrap w (s +ℤ p)) lanes ps)) ≡ int_wrap w (list_sum lanes +ℤ list_sum ps)
list_sum-wraps w [] [] e = refl
list_sum-wraps w [] (p ∷ ps) e = absurd (omega (arith, e))
list_sum-wraps w (s ∷ lanes) [] e = absurd (omega (arith, e))
list_sum-wraps w (s ∷ lanes) (p ∷ ps) e =
    let rest = list_sum (zip2 (λ s p. int_wrap w (s +ℤ p)) lanes ps) in
    int_wrap-add_left w (s +ℤ p) rest
    ∙ sym (int_wrap-add_right w (s +ℤ p) rest)
    ∙ ap (λ z. int_wrap w ((s +ℤ p) +ℤ z)) (list_sum-wraps w lanes ps (omega arith))
    ∙ int_wrap-add_right w (s +ℤ p) (list_sum lanes +ℤ list_sum ps)
    ∙ ap (int_wrap w) (omega (arith, ints))

-- the products of a group, in order
pub products-chunk : (at n : ℕ) (xs ys : List ℤ) → at + n ≤ length xs → at + n ≤ length ys
    → list_sum (zip2 (λ x y. x *ℤ y) (chunk at n xs) (chunk at n ys)) ≡ sum_below n
    (λ k. sample xs (at + k) *ℤ sample ys (at + k))
products-chunk at zero xs ys room_x room_y = refl
products-chunk at (suc n) xs ys room_x room_y =
    let f : ℕ → ℤ = λ k. sample xs (at + k) *ℤ sample ys (at + k) in
    let here : at ≡ at + 0 = omega arith in
    (λ i. list_sum (zip2 (λ x y. x *ℤ y) (take (suc n) (drop_more xs at (pos 0) (omega arith) i))
    (take (suc n) (drop_more ys at (pos 0) (omega arith) i))))
    ∙ ap (λ z. (sample xs at *ℤ sample ys at) +ℤ z) (products-chunk (at + 1) n xs ys (omega arith) (omega arith))
    ∙ ap (λ z. (sample xs at *ℤ sample ys at) +ℤ z) (sum_below_cong n
    (λ k. sample xs (at + 1 + k) *ℤ sample ys (at + 1 + k)) (λ k. f (suc k))
    (λ k lt. let e : at + 1 + k ≡ at + suc k = omega arith in ap (λ p. sample xs p *ℤ sample ys p) e))
    ∙ ap (λ p. (sample xs p *ℤ sample ys p) +ℤ sum_below n (λ k. f (suc k))) here
    ∙ sym (sum_below-front n f)

pub sum_below-add : (m n : ℕ) (f : ℕ → ℤ) → sum_below m f +ℤ sum_below n (λ k. f (m + k)) ≡ sum_below (m + n) f
sum_below-add m zero f = let none : m ≡ m + zero = omega arith in +ℤ_idr (sum_below m f) ∙ ap (λ k. sum_below k f) none
sum_below-add m (suc n) f =
    let more : suc (m + n) ≡ m + suc n = omega arith in
    sym (+ℤ_assoc (sum_below m f) (sum_below n (λ k. f (m + k))) (f (m + n)))
    ∙ ap (λ z. z +ℤ f (m + n)) (sum_below-add m n f)
    ∙ ap (λ k. sum_below k f) more
