use Rattle.std.proofs.Common.{◌≡◌, ◌∙◌, ℕ, List, [], ◌∷◌, length, refl, ap, arith}
use Rattle.std.specs.List.{swap}
use Rattle.dsp_au.specs.Exchange.{exchanged_sample}
use Rattle.dsp_au.proofs.exchange.exchange_sample.Goals as goal

two : (bytes : List ℕ) → length bytes ≡ 2 → swap bytes 0 1 ≡ exchanged_sample bytes
two (a ∷ b ∷ []) long = refl
two bytes long = absurd (omega (arith, long))

three : (bytes : List ℕ) → length bytes ≡ 3 → swap bytes 0 2 ≡ exchanged_sample bytes
three (a ∷ b ∷ c ∷ []) long = refl
three bytes long = absurd (omega (arith, long))

four : (bytes : List ℕ) → length bytes ≡ 4 → swap (swap bytes 0 3) 1 2 ≡ exchanged_sample bytes
four (a ∷ b ∷ c ∷ d ∷ []) long = refl
four bytes long = absurd (omega (arith, long))

pub returns-in-2 : goal.returns-in-2
returns-in-2 c = c.swap.ensures.after ∙ two c.args.bytes.now (omega arith)

pub returns-in-3 : goal.returns-in-3
returns-in-3 c = c.swap-in-3.ensures.after ∙ three c.args.bytes.now (omega arith)

pub returns-in_default : goal.returns-in_default
returns-in_default c =
    c.swap-in_default-2.ensures.after ∙ ap (λ (xs : List ℕ). swap xs 1 2) c.swap-in_default.ensures.after
    ∙ four c.args.bytes.now (omega arith)
