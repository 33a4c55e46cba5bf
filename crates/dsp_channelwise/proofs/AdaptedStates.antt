-- The weights of an adaptive filter, one sample after another.
use Rattle.std.proofs.Common.{◌≡◌, ◌∙◌, ap, refl, sym, ℕ, ◌+◌, ◌<◌, ◌≤◌, ℤ, pos, List, [], ◌∷◌, ◌++◌, length, map}
use Rattle.std.proofs.Common.{take, take_all, reverse, arith}
use Rattle.std.proofs.lemmas.List.{reverse-append, take-map}
use Rattle.std.proofs.lemmas.List.FromFn.{fill_by_all, get_or-map-range_with_len}
use Rattle.dsp_defs.specs.Adaptive.{Adapted, adapted, lms, lms_output, reference_now, weights_before}
use Rattle.dsp_defs.specs.Signal.{sample}
use Rattle.dsp_defs.specs.declared.format.Fmt.{Fmt}
use Rattle.dsp_defs.proofs.BlockLaws.{length-values}
use Rattle.dsp_defs.proofs.Causal.{map-values, map-reverse}
use Rattle.dsp_exact.proofs.Recurrences.{outputs-next}
use Rattle.dsp_channelwise.proofs.KeptStates.{newest-taken}
use Rattle.dsp_channelwise.specs.Adapting.{pairs_of}

-- ---- inputs and references

-- as many as inputs
length-pairs : (x reference : List ℤ) → length (pairs_of x reference) ≡ length x
length-pairs x reference = length-values (length x) (λ n. (sample x n, sample reference n))

-- the inputs alone
inputs-of-pairs : (x reference : List ℤ) → map (λ (s : ℤ × ℤ). s.0) (pairs_of x reference) ≡ x
inputs-of-pairs x reference =
    map-values (λ (s : ℤ × ℤ). s.0) 0 (length x) (λ n. (sample x n, sample reference n))
    ∙ sym (fill_by_all (sample x) x (length x) (pos 0) refl (λ k inside. refl))

-- the inputs up to one, and its reference
inputs-so-far : (x reference : List ℤ) (n : ℕ)
    → map (λ (s : ℤ × ℤ). s.0) (reverse (take n (pairs_of x reference))) ≡ reverse (take n x)
inputs-so-far x reference n =
    map-reverse (λ (s : ℤ × ℤ). s.0) (take n (pairs_of x reference))
    ∙ ap reverse (sym (take-map (λ (s : ℤ × ℤ). s.0) n (pairs_of x reference)))
    ∙ ap (λ l. reverse (take n l)) (inputs-of-pairs x reference)

reference-so-far : (x reference : List ℤ) (n : ℕ) → n < length x
    → reference_now (reverse (take (n + 1) (pairs_of x reference))) ≡ sample reference n
reference-so-far x reference n inside =
    let within : n < length (pairs_of x reference) = omega (arith, inside, length-pairs x reference) in
    ap (λ (s : ℤ × ℤ). s.1)
    (newest-taken (pairs_of x reference) n (pos 0, pos 0) within
    ∙ get_or-map-range_with_len (λ k. (sample x k, sample reference k)) 0 (length x) n n (pos 0, pos 0) inside
    (omega arith))

-- ---- one sample more

-- what is given of it
pub lms-more : (f : Fmt) (p : ℕ) (mu : ℤ) (taps x r w : List ℤ) (n : ℕ) (reference : ℤ) (new : Adapted) → n < length x
    → w ≡ weights_before (reverse taps) (reverse (lms f p mu taps (take n (pairs_of x r)))) → reference ≡ sample r n
    → new ≡ adapted f p mu w (reverse (take (n + 1) x)) reference
    → lms f p mu taps (take (n + 1) (pairs_of x r)) ≡ lms f p mu taps (take n (pairs_of x r)) ++ new ∷ []
lms-more f p mu taps x r w n reference new inside weights is_reference is =
    let within : n < length (pairs_of x r) = omega (arith, inside, length-pairs x r) in
    outputs-next (lms_output f p mu (reverse taps)) (pairs_of x r) n within
    ∙ sym (ap (λ a. lms f p mu taps (take n (pairs_of x r)) ++ a ∷ []) (is
    ∙ (λ i. adapted f p mu (weights i) (sym (inputs-so-far x r (n + 1)) i)
    ((is_reference ∙ sym (reference-so-far x r n inside)) i))))

-- all samples at the end
pub lms-all : (f : Fmt) (p : ℕ) (read mu : ℤ) (taps x r : List ℤ) (n : ℕ) → read ≡ mu → length x ≤ n
    → lms f p read taps (take n (pairs_of x r)) ≡ lms f p mu taps (pairs_of x r)
lms-all f p read mu taps x r n is end =
    let all = take_all n (pairs_of x r) (omega (arith, end, length-pairs x r)) in
    λ i. lms f p (is i) taps (all i)

-- and its weights
pub weights-pushed : (first : List ℤ) (ys : List Adapted) (v : Adapted)
    → weights_before first (reverse (ys ++ v ∷ [])) ≡ v.weights
weights-pushed first ys v = ap (weights_before first) (reverse-append ys (v ∷ []))
