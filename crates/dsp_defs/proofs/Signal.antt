-- Lemmas on signals: `values`, `sum_below`, `at` and `delayed`.
use Rattle.std.proofs.Common.{◌≡◌, ℕ, zero, suc, ◌+◌, ◌-◌, ◌<◌, ◌≤◌, ℤ, pos, ◌+ℤ◌, List, ◌∷◌, ◌++◌, map, reverse}
use Rattle.std.proofs.Common.{length, refl, sym, ap, ◌∙◌, arith, suc-add, zero-add, add-zero, ⊎_elim}
use Rattle.std.proofs.lemmas.Grind.{common_steps}
use Rattle.std.specs.List.{range_with_len}
use Rattle.std.proofs.lemmas.Bool.{cases_lt}
use Rattle.std.proofs.lemmas.List.{get_or_past, get_or-reverse, length-reverse, same_lists}
use Rattle.std.proofs.lemmas.List.FromFn.{length-map-range_with_len, get_or-map-range_with_len}
use Rattle.std.proofs.Math.IntN.{+ℤ_assoc, +ℤ_comm, +ℤ_idl, +ℤ_idr}
use Rattle.dsp_defs.specs.Signal.{sample, delayed, values, sum_below}

-- ---- values

module _ {A : Type 0} where
  map-range-cong : (f g : ℕ → A) (a n : ℕ) → ((i : ℕ) → i < n → f (a + i) ≡ g (a + i)) →
      map f (range_with_len a n) ≡ map g (range_with_len a n)
  map-range-cong f g a zero same = refl
  map-range-cong f g a (suc n) same =
      let first : f (a + 0) ≡ g (a + 0) = same 0 (omega arith) in
      let first' : f a ≡ g a = rw add-zero at first in
      let rest : map f (range_with_len (a + 1) n) ≡ map g (range_with_len (a + 1) n) =
      map-range-cong f g (a + 1) n (λ i h. let e : a + suc i ≡ a + 1 + i = omega arith in
      rw e at (same (suc i) (omega arith))) in
      cc

  map-range-shift : (f : ℕ → A) (a b m n : ℕ) → b ≡ m + a →
      map f (range_with_len b n) ≡ map (λ i. f (m + i)) (range_with_len a n)
  map-range-shift f a b m zero e = refl
  map-range-shift f a b m (suc n) e =
      let rest : map f (range_with_len (b + 1) n) ≡ map (λ i. f (m + i)) (range_with_len (a + 1) n) =
      map-range-shift f (a + 1) (b + 1) m n (omega arith) in
      let first : f b ≡ f (m + a) = ap f e in
      cc

  map-range-add : (f : ℕ → A) (a b m n : ℕ) → b ≡ a + m →
      map f (range_with_len a (m + n)) ≡ map f (range_with_len a m) ++ map f (range_with_len b n)
  map-range-add f a b zero n e = rw (e, add-zero, zero-add) refl
  map-range-add f a b (suc m) n e =
      rw suc-add (ap (λ r. f a ∷ r) (map-range-add f (a + 1) b m n (omega arith)))

  pub values_cong : (n : ℕ) (f g : ℕ → A) → ((i : ℕ) → i < n → f i ≡ g i) → values n f ≡ values n g
  values_cong n f g same = map-range-cong f g 0 n (λ i h. rw zero-add (same i h))

  -- the values from place m on are those of f moved by m
  pub values-add : (m n : ℕ) (f : ℕ → A) → values (m + n) f ≡ values m f ++ values n (λ i. f (m + i))
  values-add m n f = map-range-add f 0 m m n (sym (zero-add m)) ∙
      ap (λ r. values m f ++ r) (map-range-shift f 0 m m n (sym (add-zero m)))

-- ---- sums

pub sum_below_cong : (n : ℕ) (f g : ℕ → ℤ) → ((k : ℕ) → k < n → f k ≡ g k) → sum_below n f ≡ sum_below n g
sum_below_cong zero f g same = refl
sum_below_cong (suc n) f g same =
    let front : sum_below n f ≡ sum_below n g = sum_below_cong n f g (λ k h. same k (omega arith)) in
    let last : f n ≡ g n = same n (omega arith) in
    cc

-- the first term apart
pub sum_below-front : (n : ℕ) (f : ℕ → ℤ) → sum_below (suc n) f ≡ f 0 +ℤ sum_below n (λ k. f (suc k))
sum_below-front zero f = +ℤ_idl (f 0) ∙ sym (+ℤ_idr (f 0))
sum_below-front (suc n) f =
    ap (λ s. s +ℤ f (suc n)) (sum_below-front n f) ∙ +ℤ_assoc (f 0) (sum_below n (λ k. f (suc k))) (f (suc n))

-- the terms in the other order
pub sum_below_reversed : (n : ℕ) (f g : ℕ → ℤ) → ((k : ℕ) → k < n → g k ≡ f (n - suc k)) → sum_below n f ≡ sum_below n g
sum_below_reversed zero f g same = refl
sum_below_reversed (suc n) f g same =
    let later : sum_below n f ≡ sum_below n (λ k. g (suc k)) =
    sum_below_reversed n f (λ k. g (suc k)) (λ k h. let e : suc n - suc (suc k) ≡ n - suc k = omega arith in
    same (suc k) (omega arith) ∙ ap f e) in
    let first : f n ≡ g 0 = (let e : n ≡ suc n - suc 0 = omega arith in ap f e ∙ sym (same 0 (omega arith))) in
    let swap : sum_below n (λ k. g (suc k)) +ℤ g 0 ≡ g 0 +ℤ sum_below n (λ k. g (suc k)) =
    +ℤ_comm (sum_below n (λ k. g (suc k))) (g 0) in
    let whole : sum_below (suc n) g ≡ g 0 +ℤ sum_below n (λ k. g (suc k)) = sum_below-front n g in
    cc

-- ---- samples

pub sample-append : (x more : List ℤ) (n : ℕ) → n < length x → sample (x ++ more) n ≡ sample x n
sample-append x more n h = grind (arith, common_steps)

pub delayed-append : (x more : List ℤ) (n k : ℕ) → n < length x → delayed (x ++ more) n k ≡ delayed x n k
delayed-append x more n k h = grind (arith, common_steps)

pub delayed_before : (x : List ℤ) (n k : ℕ) → n < k → delayed x n k ≡ pos 0
delayed_before x n k h = grind (arith, common_steps)

pub delayed_after : (x : List ℤ) (n k : ℕ) → k ≤ n → delayed x n k ≡ sample x (n - k)
delayed_after x n k h = grind (arith, common_steps)

-- the history of a signal has x(n-k) at k
pub sample-reverse : (x : List ℤ) (n k : ℕ) → length x ≡ suc n → sample (reverse x) k ≡ delayed x n k
sample-reverse x n k e =
    ⊎_elim
    (λ (before : n < k). get_or_past (reverse x) k (pos 0) (rw length-reverse (omega arith)) ∙
    sym (delayed_before x n k before))
    (λ (after : k ≤ n). let inside : k < length x = omega arith in
    let place : length x - 1 - k ≡ n - k = omega arith in
    get_or-reverse x k (pos 0) inside ∙ ap (sample x) place ∙ sym (delayed_after x n k after))
    (cases_lt n k)

-- values in the other order
pub reverse-values : {A : Type 0} (n : ℕ) (f g : ℕ → A) → ((k : ℕ) → k < n → g k ≡ f (n - suc k)) →
    reverse (values n f) ≡ values n g
reverse-values n f g same =
    same_lists (reverse (values n f)) (values n g) (length-reverse (values n f) ∙ length-map-range_with_len f 0 n ∙
    sym (length-map-range_with_len g 0 n))
    (λ k d h.
    let long : length (values n f) ≡ n = length-map-range_with_len f 0 n in
    let below : k < n = rw (length-reverse, long) at h in
    let inside : k < length (values n f) = rw long below in
    let mirrored : length (values n f) - 1 - k < n = omega arith in
    let place : length (values n f) - 1 - k ≡ n - suc k = omega arith in
    get_or-reverse (values n f) k d inside
    ∙ get_or-map-range_with_len f 0 n (length (values n f) - 1 - k) (n - suc k) d mirrored (omega arith)
    ∙ sym (same k below)
    ∙ sym (get_or-map-range_with_len g 0 n k k d below (omega arith)))

-- a sum of two parts
pub sum_below-add : (m n : ℕ) (f : ℕ → ℤ) → sum_below (m + n) f ≡ sum_below m f +ℤ sum_below n (λ k. f (m + k))
sum_below-add m zero f = ap (λ k. sum_below k f) (add-zero m) ∙ sym (+ℤ_idr (sum_below m f))
sum_below-add m (suc n) f =
    let step : m + suc n ≡ suc (m + n) = omega arith in
    ap (λ k. sum_below k f) step ∙ ap (λ s. s +ℤ f (m + n)) (sum_below-add m n f) ∙
    +ℤ_assoc (sum_below m f) (sum_below n (λ k. f (m + k))) (f (m + n))
