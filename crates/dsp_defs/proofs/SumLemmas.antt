-- Sums of products that are wrapped on the way, and numbers that are read from and written to slices.
use Rattle.std.proofs.Common.{◌≡◌, ◌∙◌, ap, sym, ℕ, suc, ◌+◌, ◌<◌, ℤ, pos, ◌+ℤ◌, ◌*ℤ◌, List, length, map, get_or, set}
use Rattle.std.proofs.Common.{◌≢◌, arith, get_or-set_same}
use Rattle.std.proofs.lemmas.List.{get_or-map, map-set, get_or-set_other, length-map, same_lists, get_or_default}
use Rattle.std.proofs.lemmas.Int.{int_wrap-add_left}
use Rattle.dsp_defs.specs.Numbers.{Width, wrap}
use Rattle.dsp_defs.specs.Signal.{sample, sum_below}

-- one more product in a sum that is wrapped on the way
pub wrapped_sum-more :
    (w : Width) (n m : ℕ) (xs ys : List ℤ) (a b sum more : ℤ) → m ≡ n + 1 → a ≡ sample xs n → b ≡ sample ys n →
    sum ≡ wrap w (sum_below n (λ k. sample xs k *ℤ sample ys k)) → more ≡ wrap w (sum +ℤ a *ℤ b) →
    more ≡ wrap w (sum_below m (λ k. sample xs k *ℤ sample ys k))
wrapped_sum-more w n m xs ys a b sum more next is_a is_b summed added =
    let products : ℕ → ℤ = λ k. sample xs k *ℤ sample ys k in
    let step : m ≡ suc n = omega arith in
    let last : sum_below n products +ℤ a *ℤ b ≡ sum_below (suc n) products = cc in
    added
    ∙ ap (λ s. wrap w (s +ℤ a *ℤ b)) summed
    ∙ int_wrap-add_left w (sum_below n products) (a *ℤ b)
    ∙ ap (wrap w) last
    ∙ ap (λ k. wrap w (sum_below k products)) (sym step)

-- an element that was read, as a number
pub sample-map :
    {X : Type 0} → (f : X → ℤ) (xs : List X) (k : ℕ) (x : X) → k < length xs → x ≡ get_or xs k x →
    f x ≡ sample (map f xs) k
sample-map f xs k x within read = ap f read ∙ sym (get_or-map f xs k x (pos 0) within)

-- a slice that is written, as numbers
pub sample-map-set_other :
    {X : Type 0} → (f : X → ℤ) (xs : List X) (i k : ℕ) (v : X) → k ≢ i →
    sample (map f (set xs i v)) k ≡ sample (map f xs) k
sample-map-set_other f xs i k v other =
    ap (λ l. sample l k) (map-set f xs i v) ∙ get_or-set_other (map f xs) i k (f v) (pos 0) other

pub sample-map-set_same :
    {X : Type 0} → (f : X → ℤ) (xs : List X) (i : ℕ) (v : X) → i < length xs → sample (map f (set xs i v)) i ≡ f v
sample-map-set_same f xs i v within =
    ap (λ l. sample l i) (map-set f xs i v)
    ∙ get_or-set_same (map f xs) i (f v) (pos 0) (omega (arith, length-map xs f))

-- two lists of numbers that read alike
pub same_numbers : (xs ys : List ℤ) → length xs ≡ length ys → ((i : ℕ) → i < length xs → sample xs i ≡ sample ys i) →
    xs ≡ ys
same_numbers xs ys len same =
    same_lists xs ys len
    (λ k d within. get_or_default xs k d (pos 0) within ∙ same k within ∙
    sym (get_or_default ys k d (pos 0) (omega arith)))
