-- Sums that have all products of a correlation are its values, once they are closed.
use Rattle.std.proofs.Common.{◌≡◌, ◌∙◌, ap, sym, ℕ, ◌+◌, ◌-◌, ◌*◌, ◌<◌, ℤ, pos, ◌*ℤ◌, List, length, map, nat_eq, false}
use Rattle.std.specs.Prelude.{max, if◌then◌else◌}
use Rattle.std.proofs.lemmas.List.{get_or-map, length-map}
use Rattle.std.proofs.lemmas.List.FromFn.{fill_by_all}
use Rattle.dsp_defs.specs.Formats.{close}
use Rattle.dsp_defs.specs.Signal.{delayed, sample, sum_below, values}
use Rattle.dsp_defs.specs.Sums.{correlate}
use Rattle.dsp_defs.specs.declared.format.Fmt.{Fmt}
use Rattle.dsp_defs.proofs.Signal.{values_cong}

pub correlation-is : (format : Fmt) (b x sums : List ℤ) (m : ℕ) → nat_eq (length x) 0 ≡ false →
    m ≡ max (length x) (length b)
    → length sums ≡ 2 * m - 1
    → ((n : ℕ) → n < 2 * m - 1 → sample sums n ≡ sum_below (length x) (λ k. sample x k *ℤ delayed b (k + m - 1) n))
    → map (close format) sums ≡ correlate format b x
correlation-is format b x sums m not_none m_is long value =
    fill_by_all (λ n. close format (sample sums n)) (map (close format) sums) (length sums) (pos 0)
    (length-map sums (close format)) (λ k inside. get_or-map (close format) sums k (pos 0) (pos 0) inside)
    ∙ ap (λ count. values count (λ n. close format (sample sums n))) long
    ∙ values_cong (2 * m - 1) _ _ (λ n inside. ap (close format) (value n inside))
    ∙ (λ i. values (if sym not_none i then 0 else (2 * m_is i - 1))
    (λ n. close format (sum_below (length x) (λ k. sample x k *ℤ delayed b (k + m_is i - 1) n))))
