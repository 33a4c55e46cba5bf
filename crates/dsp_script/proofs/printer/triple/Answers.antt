use Rattle.std.proofs.Common.{◌≡◌, ℕ, List, [], ◌∷◌, ◌++◌, append_assoc}
use Rattle.std.proofs.lemmas.Int.{to_z-of_z}
use Rattle.std.proofs.lemmas.Result.{IfOk-equal}
use Rattle.dsp_script.proofs.printer.triple.Goals as goal

-- a numeral behind a space, and what comes behind it
before : (old now numeral more : List ℕ) → now ≡ old ++ (32 ∷ (numeral ++ [])) →
    now ++ more ≡ old ++ (32 ∷ (numeral ++ more))
before old now numeral more e = rw e (simp append_assoc)

pub returns : goal.returns
returns c =
    let first = c.ranges.first in
    let second = c.ranges.second in
    let third = c.ranges.third in
    IfOk-equal c.pair.result _ _ _ (simp to_z-of_z at c.pair.ensures)
    (before _ _ _ _ (simp to_z-of_z at c.in_ok-number.ensures))
