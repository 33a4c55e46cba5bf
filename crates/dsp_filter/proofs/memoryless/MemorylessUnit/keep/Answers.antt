use Rattle.std.proofs.Common.{◌≡◌, ◌∙◌, ap, refl, sym, ℤ, List, [], ◌∷◌, length, arith}
use Rattle.dsp_filter.proofs.memoryless.MemorylessUnit.keep.Goals as goal

none-left : (xs : List ℤ) → length xs ≡ 0 → xs ≡ []
none-left [] e = refl
none-left (x ∷ xs) e = absurd (omega (arith, e))

pub returns : goal.returns
returns g c = none-left c.args._out.now (c.requires.count ∙ ap length c.keeps_nothing.ensures.kept) ∙
    sym c.keeps_nothing.ensures.kept
