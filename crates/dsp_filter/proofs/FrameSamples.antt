-- One more sample that a loop writes.
use Rattle.std.proofs.Common.{◌≡◌, ◌∙◌, ap, sym, ℕ, suc, ◌+◌, ◌<◌, ℤ, pos, List, [], ◌∷◌, ◌++◌, map, set, take}
use Rattle.std.proofs.Common.{length, arith}
use Rattle.std.specs.Prelude.{All, FitsSigned}
use Rattle.std.proofs.lemmas.List.{take_more_set, map-append}
use Rattle.std.proofs.lemmas.List.Elements.{All-push}
use Rattle.std.proofs.lemmas.List.FromFn.{map-range_with_len_more}
use Rattle.std.proofs.Math.Seq.{take-suc}
use Rattle.std.specs.Int.{Width}
use Rattle.dsp_defs.specs.Signal.{sample, values}

-- of a map
pub map-more : (f : ℤ → ℤ) (i : ℕ) (out samples : List ℤ) (v : ℤ) → i < length out → i < length samples →
    take i out ≡ map f (take i samples) → v ≡ f (sample samples i) →
    take (i + 1) (set out i v) ≡ map f (take (i + 1) samples)
map-more f i out samples v room inside done is =
    let more : i + 1 ≡ suc i = omega arith in
    take_more_set out i v room
    ∙ (λ k. done k ++ (is k ∷ []))
    ∙ sym (map-append f (take i samples) (sample samples i ∷ []))
    ∙ ap (map f) (sym (take-suc samples i (pos 0) inside))
    ∙ ap (λ k. map f (take k samples)) (sym more)

-- of values by a function of the place
pub values-more : (f : ℕ → ℤ) (i : ℕ) (out : List ℤ) (v : ℤ) → i < length out →
    take i out ≡ values i f → v ≡ f i → take (i + 1) (set out i v) ≡ values (i + 1) f
values-more f i out v room done is =
    take_more_set out i v room
    ∙ ap (λ front. front ++ v ∷ []) done
    ∙ ap (λ last. values i f ++ last ∷ []) is
    ∙ sym (map-range_with_len_more f 0 i i (omega arith))

-- each sample so far is a number of a word
pub fits-more : (w : Width) (i : ℕ) (out : List ℤ) (v : ℤ) → i < length out → All (FitsSigned w) (take i out) →
    FitsSigned w v → All (FitsSigned w) (take (i + 1) (set out i v))
fits-more w i out v room done here = rw (take_more_set out i v room) (All-push (FitsSigned w) (take i out) v done here)
