-- One more element at the end of a list that is made by its places.
use Rattle.std.proofs.Common.{◌≡◌, sym, subst, ℕ, ◌+◌, ◌*◌, ◌≤◌, List, [], ◌∷◌, ◌++◌, add-one, arith}
use Rattle.std.specs.Prelude.{All}
use Rattle.std.proofs.lemmas.List.Elements.{All-push}
use native.Mathlib.Nat.{suc-mul}

-- what holds of all still does
pub all-more : {A : Type 0} (P : A → Type 0) (ys zs : List A) (v r : A) → zs ≡ ys ++ v ∷ [] → v ≡ r → All P ys → P r
    → All P zs
all-more P ys zs v r pushed is all one = subst (All P) (sym pushed) (All-push P ys v all (subst P (sym is) one))

-- the products of one more
pub cost-more : (before mid after n cost : ℕ) → mid ≤ before + n * cost → after ≤ mid + cost
    → after ≤ before + (n + 1) * cost
cost-more before mid after n cost so_far one =
    let next : (n + 1) * cost ≡ n * cost + cost = rw add-one (suc-mul n cost) in
    omega (arith, next, so_far, one)
