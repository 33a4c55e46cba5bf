-- A loop that keeps the newest output of a recursion.
use Rattle.std.proofs.Common.{◌≡◌, ◌∙◌, ap, sym, ℕ, ◌+◌, ◌*◌, ◌<◌, ◌≤◌, ℤ, pos, List, [], ◌∷◌, ◌++◌}
use Rattle.std.proofs.Common.{length, map, take, drop, reverse, get_or, arith}
use Rattle.std.proofs.Math.Nat.{mul-le-mul_right}
use native.Mathlib.Nat.{suc-mul}
use Rattle.std.proofs.lemmas.List.{take_more, reverse-append, map_push}
use Rattle.dsp_defs.specs.Lattice.{backward_values, ladder_output}
use Rattle.dsp_defs.specs.Signal.{outputs, sample}
use Rattle.dsp_defs.specs.declared.format.Fmt.{Fmt}
use Rattle.dsp_exact.proofs.Recurrences.{outputs-next}

-- the newest of a list is what was pushed last
pub newest-pushed : {A : Type 0} (ys : List A) (v d : A) → get_or (reverse (ys ++ v ∷ [])) 0 d ≡ v
newest-pushed ys v d = ap (λ l. get_or l 0 d) (reverse-append ys (v ∷ []))

-- and of the first n + 1 it is that of place n
pub newest-taken : {A : Type 0} (x : List A) (n : ℕ) (d : A) → n < length x
    → get_or (reverse (take (n + 1) x)) 0 d ≡ get_or x n d
newest-taken x n d inside =
    ap (λ l. get_or (reverse l) 0 d) (take_more x n d inside) ∙ newest-pushed (take n x) (get_or x n d) d

-- what is taken of each output, for one output more
pub map-more : {A : Type 0} (get : A → ℤ) (ys zs : List ℤ) (v : ℤ) (earlier later : List A) (new : A)
    → zs ≡ ys ++ v ∷ [] → v ≡ get new → ys ≡ map get earlier → later ≡ earlier ++ new ∷ [] → zs ≡ map get later
map-more get ys zs v earlier later new pushed is so_far more =
    pushed ∙ (λ i. so_far i ++ is i ∷ []) ∙ sym (map_push get earlier new) ∙ ap (map get) (sym more)

-- the products of one value more, of all that there are
pub cost-within : (before mid after n all cost : ℕ) → mid ≤ before + n * cost → after ≤ mid + cost → n < all
    → after ≤ before + all * cost
cost-within before mid after n all cost so_far one less =
    omega (arith, so_far, one, mul-le-mul_right cost less, suc-mul n cost)

-- the lists of a lattice for one sample more
pub lattice-more : (format : Fmt) (k x before after : List ℤ) (n : ℕ) (first : ℤ) → n < length x → first ≡ sample x n
    → before ≡ get_or (reverse (outputs (ladder_output format k) (take n x))) 0 []
    → after ≡ backward_values format first k (drop 1 before)
    → outputs (ladder_output format k) (take (n + 1) x) ≡ outputs (ladder_output format k) (take n x) ++ after ∷ []
lattice-more format k x before after n first inside is newest given =
    let same = is ∙ sym (newest-taken x n (pos 0) inside) in
    outputs-next (ladder_output format k) x n inside
    ∙ sym (ap (λ a. outputs (ladder_output format k) (take n x) ++ a ∷ [])
    (given ∙ (λ i. backward_values format (same i) k (drop 1 (newest i)))))
