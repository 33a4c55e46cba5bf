-- One place more of a list that is written from another.
use Rattle.std.proofs.Common.{◌≡◌, ◌∙◌, ap, refl, sym, subst, ℕ, ◌+◌, ◌<◌, ℤ, pos, List, [], ◌∷◌, ◌++◌, length, map}
use Rattle.std.proofs.Common.{get_or, set, take, below_more, get_or-set_other, arith}
use Rattle.std.proofs.lemmas.Grind.{get_or-set_at}
use Rattle.std.proofs.lemmas.List.{map-append, take_more, take_more_set}
use Rattle.dsp_defs.specs.Signal.{sample}

module _ {X : Type 0} (number : X → ℤ) where
  -- the numbers of samples
  pub number-more : (samples : List X) (numbers : List ℤ) (k : ℕ) (x : X) (v : ℤ) → k < length samples
      → k < length numbers → x ≡ get_or samples k x → v ≡ number x → take k numbers ≡ map number (take k samples)
      → take (k + 1) (set numbers k v) ≡ map number (take (k + 1) samples)
  number-more samples numbers k x v inside room read is so_far =
      take_more_set numbers k v room
      ∙ (λ i. so_far i ++ is i ∷ [])
      ∙ sym (ap (map number) (take_more samples k x inside ∙ (λ i. take k samples ++ sym read i ∷ []))
      ∙ map-append number (take k samples) (x ∷ []))

  -- and samples of numbers
  pub sample-more : (samples : List X) (numbers : List ℤ) (k : ℕ) (x : X) → k < length samples → k < length numbers
      → number x ≡ sample numbers k → map number (take k samples) ≡ take k numbers
      → map number (take (k + 1) (set samples k x)) ≡ take (k + 1) numbers
  sample-more samples numbers k x room inside is so_far =
      ap (map number) (take_more_set samples k x room)
      ∙ map-append number (take k samples) (x ∷ [])
      ∙ (λ i. so_far i ++ is i ∷ [])
      ∙ sym (take_more numbers k (pos 0) inside)

-- what holds of each number so far holds of one more
pub each-more : (P : ℤ → Type 0) (numbers : List ℤ) (k : ℕ) (v r : ℤ) → k < length numbers → v ≡ r → P r
    → ((i : ℕ) → i < k → P (sample numbers i)) → (i : ℕ) → i < k + 1 → P (sample (set numbers k v) i)
each-more P numbers k v r room is one so_far =
    below_more (λ i. P (sample (set numbers k v) i)) k
    (λ i h. subst P (sym (get_or-set_other numbers k i v (pos 0) (omega (arith, h)))) (so_far i h))
    (subst P (sym (get_or-set_at numbers k k v (pos 0) refl room ∙ is)) one)
