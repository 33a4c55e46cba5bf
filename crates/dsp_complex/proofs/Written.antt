-- What an operation writes of one frame.
use Rattle.std.proofs.Common.{◌≡◌, ap, zero, suc, ℤ, List, [], ◌∷◌, set, length, arith, All, FitsSigned}
use Rattle.std.specs.Int.{Width}

module _ (w : Width) (u : ℤ) (u_fits : FitsSigned w u) where
  one-list-fits : All (FitsSigned w) (u ∷ [])
  one-list-fits zero d h = u_fits
  one-list-fits (suc k) d h = absurd (omega (arith, h))

  pub one-fits : (out : List ℤ) → length out ≡ 1 → All (FitsSigned w) (set out 0 u)
  one-fits [] e = absurd (omega (arith, e))
  one-fits (x ∷ []) e = one-list-fits
  one-fits (x ∷ y ∷ out) e = absurd (omega (arith, e))

  module _ (v : ℤ) (v_fits : FitsSigned w v) where
    two-list-fits : All (FitsSigned w) (u ∷ v ∷ [])
    two-list-fits zero d h = u_fits
    two-list-fits (suc zero) d h = v_fits
    two-list-fits (suc (suc k)) d h = absurd (omega (arith, h))

    pub pair-fits : (out : List ℤ) → length out ≡ 2 → All (FitsSigned w) (set (set out 0 u) 1 v)
    pair-fits [] e = absurd (omega (arith, e))
    pair-fits (x ∷ []) e = absurd (omega (arith, e))
    pair-fits (x ∷ y ∷ []) e = two-list-fits
    pair-fits (x ∷ y ∷ z ∷ out) e = absurd (omega (arith, e))

pub one-written : (out : List ℤ) (u a : ℤ) → length out ≡ 1 → u ≡ a → set out 0 u ≡ a ∷ []
one-written [] u a e is = absurd (omega (arith, e))
one-written (x ∷ []) u a e is = ap (λ z. z ∷ []) is
one-written (x ∷ y ∷ out) u a e is = absurd (omega (arith, e))

pub pair-written : (out : List ℤ) (u v a b : ℤ) → length out ≡ 2 → u ≡ a → v ≡ b → set (set out 0 u) 1 v ≡ a ∷ b ∷ []
pair-written [] u v a b e is is' = absurd (omega (arith, e))
pair-written (x ∷ []) u v a b e is is' = absurd (omega (arith, e))
pair-written (x ∷ y ∷ []) u v a b e is is' = λ i. is i ∷ is' i ∷ []
pair-written (x ∷ y ∷ z ∷ out) u v a b e is is' = absurd (omega (arith, e))
