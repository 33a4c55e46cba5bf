use Rattle.std.proofs.Common.{◌≡◌, refl, ap, sym, subst, ℤ, List, [], ◌∷◌, length, Some, arith}
use Rattle.std.specs.Prelude.{◌==◌, IsTrue}
use Rattle.std.proofs.lemmas.Grind.{common_steps}
use Rattle.dsp_defs.specs.Kept.{FitsAfter}
use Rattle.dsp_filter.proofs.memoryless.MemorylessUnit.place.Goals as goal

none : (xs : List ℤ) → IsTrue (length xs == 0) → xs ≡ []
none [] h = refl
none (x ∷ xs) h = absurd (grind (arith, common_steps))

pub returns-then-is_empty-clause-fits : goal.returns-then-is_empty-clause-fits
returns-then-is_empty-clause-fits g c =
    let u = c.args.self.now in
    subst (FitsAfter u.format u.channels u.block 0) (sym
    (none c.args.numbers.now (rw c.is_empty.ensures at c.if-is_empty.true))) c.keeps_nothing.ensures.after

pub returns-then-is_empty-clause-least : goal.returns-then-is_empty-clause-least
returns-then-is_empty-clause-least g c = λ n _. ap Some (sym (c.keeps_nothing.ensures.place n))

pub returns-else-is_empty-clause-least : goal.returns-else-is_empty-clause-least
returns-else-is_empty-clause-least g c = λ n after.
    let none : c.args.numbers.now ≡ [] = (c.keeps_nothing.ensures.fits c.args.numbers.now).0 (n, after) in
    let some = rw (c.is_empty.ensures, none) at c.if-is_empty.false in
    absurd (grind (arith, common_steps, some))
