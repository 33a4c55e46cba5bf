use Rattle.std.proofs.Common.{◌≡◌, ◌∙◌, ap, sym, subst, refl, ℕ, ◌+◌, ◌<◌, ℤ, pos, List, [], ◌∷◌, length, get_or, drop}
use Rattle.std.proofs.Common.{Option, Some, None, Result, Ok, Err, SFits, w32, to_z, of_z, arith, rules}
use Rattle.std.proofs.Common.{add-one, drop-cons}
use Rattle.std.specs.Option.{MatchOption, option_or}
use Rattle.std.proofs.lemmas.Int.{to_z-of_z}
use Rattle.std.proofs.lemmas.List.{drop_all}
use Rattle.dsp_defs.specs.declared.fault.MakeFault.{MakeFault}
use Rattle.dsp_defs.specs.declared.format.Fmt.{Fmt}
use Rattle.dsp_matrix.specs.Faults.{number_fault, numbers_fault}
use Rattle.dsp_matrix.proofs.making.check_numbers.Goals as goal

-- the next number, and then those behind it
numbers-next : (format : Fmt) (zs : List ℤ) (i : ℕ) → i < length zs → numbers_fault format (drop i zs) ≡
    option_or (number_fault format (get_or zs i (pos 0))) (numbers_fault format (drop (i + 1) zs))
numbers-next format zs i below =
    let next : drop i zs ≡ get_or zs i (pos 0) ∷ drop (i + 1) zs = rw (add-one, drop-cons zs i (pos 0)) in
    ap (numbers_fault format) next

-- the number as it was read
read : (format : Fmt) (z : ℤ) (r : Result Unit MakeFault) → SFits w32 z →
    MatchOption (number_fault format (to_z w32 (of_z w32 z))) (r ≡ Ok tt) (λ e. r ≡ Err e) →
    MatchOption (number_fault format z) (r ≡ Ok tt) (λ e. r ≡ Err e)
read format z r fits told = subst (λ (y : ℤ). MatchOption (number_fault format y) (r ≡ Ok tt) (λ e. r ≡ Err e))
    (to_z-of_z w32 z fits) told

passed : (fault : Option MakeFault) (r : Result Unit MakeFault) (a : Unit) → r ≡ Ok a →
    MatchOption fault (r ≡ Ok tt) (λ e. r ≡ Err e) → fault ≡ None
passed None r a ok told = refl
passed (Some f) r a ok told = cc

found : (fault rest : Option MakeFault) (r : Result Unit MakeFault) (e : MakeFault) → r ≡ Err e →
    MatchOption fault (r ≡ Ok tt) (λ e. r ≡ Err e) → MatchOption (option_or fault rest) (r ≡ Ok tt) (λ e. r ≡ Err e)
found None rest r e err told = absurd (cc)
found (Some f) rest r e err told = told

pub returns-in_err-check_number : goal.returns-in_err-check_number
returns-in_err-check_number g c =
    let format = g.T.Sample.format in
    let zs = c.args.numbers.now in
    let i = c.loop-number.number-index in
    let r = c.from_residual.result in
    let same : c.check_number.result ≡ r = search rules in
    let told = subst (λ (r : Result Unit MakeFault). MatchOption (number_fault format (get_or zs i (pos 0))) (r ≡ Ok tt)
    (λ e. r ≡ Err e)) same (read format (get_or zs i (pos 0)) c.check_number.result (search rules)
    c.check_number.ensures) in
    subst (λ (f : Option MakeFault). MatchOption f (r ≡ Ok tt) (λ e. r ≡ Err e))
    (sym (numbers-next format zs i (omega arith)) ∙ c.loop-number.invariant)
    (found (number_fault format (get_or zs i (pos 0))) (numbers_fault format (drop (i + 1) zs)) r
    c.in_err-check_number.field-0.0 (search rules) told)

pub loop-number-preserved : goal.loop-number-preserved
loop-number-preserved g c =
    let format = g.T.Sample.format in
    let zs = c.args.numbers.now in
    let i = c.loop-number.number-index in
    let none = passed (number_fault format (get_or zs i (pos 0))) c.check_number.result
    c.in_ok-check_number.field-0 c.in_ok-check_number.was
    (read format (get_or zs i (pos 0)) c.check_number.result (search rules) c.check_number.ensures) in
    sym (ap (λ (f : Option MakeFault). option_or f (numbers_fault format (drop (i + 1) zs))) none)
    ∙ sym (numbers-next format zs i (omega arith))
    ∙ c.loop-number.invariant

pub returns : goal.returns
returns g c =
    let format = g.T.Sample.format in
    let zs = c.args.numbers.now in
    let none : drop c.loop-number.number-index zs ≡ [] = drop_all c.loop-number.number-index zs (omega arith) in
    subst (λ (f : Option MakeFault). MatchOption f (◌≡◌ {A = Result Unit MakeFault} (Ok tt) (Ok tt))
    (λ e. ◌≡◌ {A = Result Unit MakeFault} (Ok tt) (Err e)))
    (sym (ap (numbers_fault format) none) ∙ c.loop-number.invariant) refl
