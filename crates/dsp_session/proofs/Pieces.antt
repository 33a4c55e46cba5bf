-- Samples in a piece of bytes.
use Rattle.std.proofs.Common.{◌≡◌, ℕ, ◌+◌, ◌-◌, ◌*◌, ◌/◌, ◌<◌, ◌≤◌, ℤ, List, ◌++◌, length, take, drop, ap, ◌∙◌, arith}
use Rattle.std.proofs.lemmas.List.{drop-take, take-take, take_at}
use Rattle.dsp_defs.specs.Signal.{values}
use Rattle.dsp_defs.proofs.Signal.{values_cong}
use Rattle.dsp_wave.proofs.SampleBytes.{within-bytes}

-- the samples of whole ones among some bytes
pub whole_pieces : (f : List ℕ → ℤ) (w k : ℕ) (bytes : List ℕ) →
    values k (λ i. f (take w (drop (i * w) (take (k * w) bytes)))) ≡ values k (λ i. f (take w (drop (i * w) bytes)))
whole_pieces f w k bytes =
    values_cong k _ _
    (λ i h.
    let rest = k * w - i * w in
    let split : k * w ≡ i * w + rest = omega (arith, within-bytes i k w h) in
    ap (λ n. f (take w (drop (i * w) (take n bytes)))) split
    ∙ ap (λ xs. f (take w xs)) (drop-take (i * w) rest bytes)
    ∙ ap f (take-take w rest (drop (i * w) bytes) (omega (arith, within-bytes i k w h))))

-- what was written to the front of a row
pub at_front : {A : Type 0} (count : ℕ) (front row : List A) → length front ≡ count →
    take count (front ++ drop count row) ≡ front
at_front count front row long = take_at front (drop count row) count long

pub div_within : (n m w : ℕ) → 0 < w → n ≤ m * w → n / w ≤ m
div_within n m w some h = grind arith
