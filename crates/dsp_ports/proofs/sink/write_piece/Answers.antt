use Rattle.std.proofs.Common.{◌≡◌, ℕ, ◌+◌, ◌-◌, ◌<◌, arith, inl, refl, subst}
use Rattle.dsp_ports.specs.Write.{Offered, OffersAll, Begun, Write}
use Rattle.dsp_ports.proofs.sink.write_piece.Goals as goal

-- one write of all
offered-whole : {S : Type 0} (Writes : S → ℕ → S → Type 0) (old new : S) (all : ℕ) → 0 < all → Writes old all new →
    OffersAll Writes all old new
offered-whole Writes old new all some writes =
    let rest : all ≡ all - 0 = omega arith in
    let one : Offered Writes all old (0 + all) new =
    Write 0 all old new Begun some (subst (λ n. Writes old n new) rest writes) some in
    let whole : 0 + all ≡ all = omega arith in
    record { came = all; writing = new; offered = subst (λ n. Offered Writes all old n new) whole one; last = inl refl }

pub returns-then-accept-clause-offers : goal.returns-then-accept-clause-offers
returns-then-accept-clause-offers g c =
    let one = c.if-accept.ensures.accepted refl in
    offered-whole _ _ _ _ one.some one.writes
