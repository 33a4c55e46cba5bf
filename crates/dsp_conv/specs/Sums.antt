-- The values of convolutions and correlations over slices, and the products of their sums.
use Rattle.std.specs.Prelude.{ℕ, ◌+◌, ◌-◌, ◌≡◌, ◌≤◌, max, min, ℤ, ◌*ℤ◌, List, length}
use Rattle.dsp_defs.specs.declared.format.Fmt.{Fmt}
use Rattle.dsp_defs.specs.Formats.{close}
use Rattle.dsp_defs.specs.Signal.{sample, delayed, values, sum_below}
use Rattle.dsp_defs.specs.Sums.{convolution_at}
use Rattle.dsp_defs.specs.Cost.{correlation_products}
use Rattle.dsp_defs.specs.Counts.{Counts}

-- the sum over k of x(k) * b[k-(n-(m-1))], with m the greater length
abbrev pub correlation_at : List ℤ → List ℤ → ℕ → ℤ
correlation_at b x n = sum_below (length x) (λ k. sample x k *ℤ delayed b (k + max (length x) (length b) - 1) n)

-- how many of its products have both samples
abbrev pub correlation_terms : ℕ → ℕ → ℕ → ℕ
correlation_terms n t i = min n (t + i + 1 - max n t) - (i + 1 - max n t)

-- y(first), .., y(first+count-1) of the full convolution
abbrev pub convolution_stretch : Fmt → List ℤ → List ℤ → ℕ → ℕ → List ℤ
convolution_stretch format b x first count = values count (λ i. close format (convolution_at b x (first + i)))

-- c(first), .., c(first+count-1)
abbrev pub correlation_stretch : Fmt → List ℤ → List ℤ → ℕ → ℕ → List ℤ
correlation_stretch format b x first count = values count (λ i. close format (correlation_at b x (first + i)))

-- the counter rose by the products of the values from `first` up to `end`, and by at most as many turns
pub record CorrelationRises (n t first end : ℕ) (old new : Counts) : Type 0 where
  pub multiplies : correlation_products n t first + new.multiplies ≡ correlation_products n t end + old.multiplies
  pub turns : correlation_products n t first + new.turns ≤ correlation_products n t end + old.turns

-- the counter rose by at most so many products, and by as many turns
pub record RisesAtMost (old new : Counts) (most : ℕ) : Type 0 where
  pub multiplies_rise : old.multiplies ≤ new.multiplies
  pub multiplies_most : new.multiplies ≤ old.multiplies + most
  pub turns_most : new.turns ≤ old.turns + most
