-- The values of a correlation, and what is left of them.
use Rattle.std.proofs.Common.{◌≡◌, ◌∙◌, ap, sym, ℕ, ◌+◌, ◌-◌, ◌*◌, ◌≤◌, max, ℤ, List, ◌++◌, length, drop, arith}
use Rattle.std.specs.Prelude.{Bool, false, nat_eq, if◌then◌else◌}
use Rattle.std.proofs.lemmas.Bool.Decides.{nat_tests}
use Rattle.std.proofs.lemmas.List.{drop_at}
use Rattle.std.proofs.lemmas.List.FromFn.{length-map-range_with_len}
use Rattle.dsp_defs.specs.declared.format.Fmt.{Fmt}
use Rattle.dsp_defs.specs.Formats.{close}
use Rattle.dsp_defs.specs.Signal.{values}
use Rattle.dsp_defs.specs.Sums.{correlate}
use Rattle.dsp_defs.specs.Shape.{correlation_length}
use Rattle.dsp_defs.specs.Cost.{correlation_products}
use Rattle.dsp_defs.proofs.Signal.{values_cong, values-add}
use Rattle.dsp_unit.proofs.CostLaws.{correlation_whole}
use Rattle.dsp_conv.specs.Sums.{correlation_at}

some-test : (n : ℕ) → 1 ≤ n → nat_eq n 0 ≡ false
some-test n some = grind (arith, nat_tests)

-- with a sample there are values
pub correlation-some : (n t : ℕ) → 1 ≤ n → correlation_length n t ≡ 2 * max n t - 1
correlation-some n t some = ap (λ (b : Bool). if b then 0 else (2 * max n t - 1)) (some-test n some)

pub correlate-values : (format : Fmt) (b x : List ℤ) → 1 ≤ length x →
    correlate format b x ≡ values (2 * max (length x) (length b) - 1) (λ n. close format (correlation_at b x n))
correlate-values format b x some = ap (λ k. values k (λ n. close format (correlation_at b x n)))
    (correlation-some (length x) (length b) some)

-- all of them together have n * t products
pub all-products : (n t : ℕ) → 1 ≤ n → correlation_products n t (2 * max n t - 1) ≡ n * t
all-products n t some = ap (correlation_products n t) (sym (correlation-some n t some)) ∙ correlation_whole n t

-- those from a place on
dropped : (n k : ℕ) (f : ℕ → ℤ) → k ≤ n → drop k (values n f) ≡ values (n - k) (λ i. f (k + i))
dropped n k f within =
    let whole : n ≡ k + (n - k) = omega (arith, within) in
    ap (λ m. drop k (values m f)) whole
    ∙ ap (drop k) (values-add k (n - k) f)
    ∙ drop_at (values k f) (values (n - k) (λ i. f (k + i))) k (length-map-range_with_len f 0 k)

-- a piece of those that are left, and the others
pub piece-given : (n k count : ℕ) (f : ℕ → ℤ) → k + count ≤ n →
    drop k (values n f) ≡ values count (λ i. f (k + i)) ++ drop (k + count) (values n f)
piece-given n k count f within =
    let whole : n - k ≡ count + (n - (k + count)) = omega (arith, within) in
    dropped n k f (omega (arith, within))
    ∙ ap (λ m. values m (λ i. f (k + i))) whole
    ∙ values-add count (n - (k + count)) (λ i. f (k + i))
    ∙ ap (λ l. values count (λ i. f (k + i)) ++ l)
    (values_cong (n - (k + count)) _ _ (λ i _. let place : k + (count + i) ≡ k + count + i = omega arith in
    ap f place) ∙ sym (dropped n (k + count) f within))

pub length-dropped : (n k : ℕ) (f : ℕ → ℤ) → k ≤ n → length (drop k (values n f)) ≡ n - k
length-dropped n k f within = ap length (dropped n k f within) ∙ length-map-range_with_len (λ i. f (k + i)) 0 (n - k)

pub from-first : (n : ℕ) (f : ℕ → ℤ) → values n (λ i. f (0 + i)) ≡ values n f
from-first n f = values_cong n _ _ (λ i _. let place : 0 + i ≡ i = omega arith in ap f place)
