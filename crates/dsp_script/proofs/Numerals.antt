-- Reading digits one after another.
use Rattle.std.proofs.Common.{◌≡◌, ℕ, ◌+◌, ◌-◌, ◌*◌, ◌^◌, ◌<◌, ◌≤◌, Bool, true, false, List, length, get_or, take}
use Rattle.std.proofs.Common.{refl, arith}
use Rattle.std.specs.List.{list_all}
use Rattle.std.specs.Char.{is_ascii_digit}
use Rattle.std.specs.Str.Parse.{digits_value}
use Rattle.std.proofs.lemmas.Bool.Decides.{nat_tests}
use Rattle.std.proofs.lemmas.List.Folds.{list_all_at}
use Rattle.std.proofs.lemmas.Int.Digits.{digits_value_more}
use Rattle.std.proofs.lemmas.Str.{digit_value_digit}
use Rattle.std.proofs.Math.Pow.{pow-add}

pub in_range : (c : ℕ) → is_ascii_digit c ≡ true → (48 ≤ c) × (c ≤ 57)
in_range c h = (grind (arith, nat_tests), grind (arith, nat_tests))

tested : (b : Bool) (ds : List ℕ) (i : ℕ) → list_all is_ascii_digit ds ≡ true → i < length ds →
    is_ascii_digit (get_or ds i 0) ≡ b → is_ascii_digit (get_or ds i 0) ≡ true
tested true ds i all lt e = e
tested false ds i all lt e = let no = list_all_at is_ascii_digit ds i 0 lt e in absurd cc

digit_at : (ds : List ℕ) (i : ℕ) → list_all is_ascii_digit ds ≡ true → i < length ds → (48 ≤ get_or ds i 0) ×
    (get_or ds i 0 ≤ 57)
digit_at ds i all lt = in_range (get_or ds i 0) (tested (is_ascii_digit (get_or ds i 0)) ds i all lt refl)

pub next_value : (ds : List ℕ) (i value digit : ℕ) → list_all is_ascii_digit ds ≡ true → i < length ds →
    value ≡ digits_value 10 (take i ds) → digit ≡ get_or ds i 0 - 48 →
    value * 10 + digit ≡ digits_value 10 (take (i + 1) ds)
next_value ds i value digit all lt e d =
    let range = digit_at ds i all lt in
    let more = digits_value_more 10 ds i lt in
    omega (arith, digit_value_digit (get_or ds i 0) range)

pub next_bound : (ds : List ℕ) (i value digit : ℕ) → list_all is_ascii_digit ds ≡ true → i < length ds →
    value < 10 ^ i → digit ≡ get_or ds i 0 - 48 → value * 10 + digit < 10 ^ (i + 1)
next_bound ds i value digit all lt below d =
    let range = digit_at ds i all lt in
    omega (arith, pow-add 10 i 1)
