use Rattle.std.proofs.Common.{rules, ◌≡◌, ◌≢◌, ℕ, ◌^◌, ◌<◌, ◌≤◌, length, true, List, [], ◌∷◌, get_or, Result, Ok, Err}
use Rattle.std.proofs.Common.{arith}
use Rattle.std.specs.Char.{is_ascii_digit}
use Rattle.std.specs.List.{list_all}
use Rattle.std.specs.Result.{OkIff, result_ok}
use Rattle.std.specs.Str.Parse.{digits_value}
use Rattle.std.proofs.lemmas.Bool.Decides.{nat_tests}
use Rattle.std.proofs.lemmas.Str.Parse.{IsNumeralModel, numerals_by_value, parse_plain}
use Rattle.dsp_command.specs.Words.{count_of}
use Rattle.dsp_cli.proofs.command.count.Goals as goal

own : IsNumeralModel (λ ds. list_all is_ascii_digit ds ≡ true) (digits_value 10)
own = numerals_by_value _ (search rules)

no_sign : (word : List ℕ) → list_all is_ascii_digit word ≡ true → get_or word 0 0 ≢ 43
no_sign [] digits = grind (arith, nat_tests)
no_sign (byte ∷ word) digits = grind (arith, nat_tests)

counted : {E : Type 0} (word : List ℕ) (parsed : Result ℕ E) → list_all is_ascii_digit word ≡ true → 1 ≤ length word →
    length word ≤ 10
    → OkIff parsed ((list_all is_ascii_digit word ≡ true) × (0 < length word) × (digits_value 10 word < 2 ^ 32))
    (digits_value 10 word)
    → result_ok parsed ≡ count_of word
counted word (Ok n) digits some short parses = grind (arith, nat_tests)
counted word (Err e) digits some short parses = grind (arith, nat_tests)

pub returns : goal.returns
returns c =
    let digits : list_all is_ascii_digit c.args.word.now ≡ true = search rules in
    rw c.ok.ensures.value
    (counted c.args.word.now c.parse.result digits (grind (arith, nat_tests)) (omega arith)
    (parse_plain own 32 c.args.word.now c.parse.result c.parse.ensures.value.0 (no_sign c.args.word.now digits)))
