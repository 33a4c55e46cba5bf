-- For each place a token that it takes.
use Rattle.std.proofs.Common.{◌≡◌, ◌≢◌, ℕ, zero, suc, ℤ, pos, ◌+◌, ◌<◌, ◌≤◌, Bool, true, false, cond, eqb, List, []}
use Rattle.std.proofs.Common.{◌∷◌, length, map, Option, Some, None, refl, ap, arith, inl, inr}
use Rattle.std.proofs.lemmas.List.{length-map}
use Rattle.std.specs.Prelude.{◌⊎◌, codes, find}
use Rattle.std.specs.List.{AllByRecursion, list_all}
use Rattle.std.specs.Option.{option_map}
use Rattle.std.specs.Str.{bytes_eq}
use Rattle.std.proofs.lemmas.Bool.{cases_lt}
use Rattle.std.proofs.lemmas.Bool.Decides.{nat_tests}
use Rattle.std.proofs.lemmas.Slice.Eq.{bytes_eq-Decides}
use Rattle.dsp_defs.specs.declared.list_rule.ListRule.{ListRule}
use Rattle.dsp_defs.specs.declared.format.Fmt.{Fmt}
use Rattle.dsp_defs.specs.declared.format.Fmt.TheVariants.{Q7, Q15}
use Rattle.dsp_defs.specs.declared.flow.Flow.{Flow}
use Rattle.dsp_defs.specs.Token.{Open, Run, is_run_byte}
use Rattle.dsp_defs.specs.Numeral.{value_of}
use Rattle.dsp_defs.specs.Parameters.{IsBetween}
use Rattle.dsp_defs.specs.Table.{by_name}
use Rattle.dsp_defs.specs.Tables.{Named, is_table_name, numbers_of}
use Rattle.dsp_defs.specs.Places.{choice, number, Environment, opening, new_name, conversion}
use Rattle.dsp_defs.specs.Reading.{next_block}
use Rattle.dsp_script.proofs.Names.{IsRun, place_again_output}
use Rattle.dsp_script.proofs.Steps.{between_again}
use Rattle.dsp_first_fault.proofs.Readers.{Accepts}
use Rattle.dsp_first_fault.proofs.Endings.{is_named, run_ending, ending_more, ending_none}

-- ---- words and numbers

-- a run that is neither the word of a block length nor that of a table, with at most so many bytes
pub record IsWord (bytes : ℕ) (run : List ℕ) : Type 0 where
  pub is : IsRun run
  pub block : is_named (codes "block") (Run run) ≡ false
  pub table : is_named (codes "table") (Run run) ≡ false
  pub short : length run ≤ bytes

pub word_accepted : {A : Type 0} (meaning : List ℕ → Option A) (bytes : ℕ) (run : List ℕ) (x : A) →
    IsWord bytes run → meaning run ≡ Some x → Accepts (choice meaning) (bytes + 1)
word_accepted meaning bytes run x w e = record {
  token = Run run;
  x = x;
  is = tt;
  ending = run_ending (bytes + 1) run w.is w.block w.table (omega (arith, w.short));
  takes = rw e refl;
}

-- a numeral of at most 11 bytes
pub record IsNumeral (n : ℤ) : Type 0 where
  pub run : List ℕ
  pub word : IsWord 11 run
  pub value : value_of run ≡ Some n

pub number_accepted : (low high n : ℤ) → IsNumeral n → IsBetween low high n → Accepts (number low high) 12
number_accepted low high n numeral between = record {
  token = Run numeral.run;
  x = n;
  is = tt;
  ending = run_ending 12 numeral.run numeral.word.is numeral.word.block numeral.word.table
      (omega (arith, numeral.word.short));
  takes = rw (numeral.value, between_again low high n between) refl;
}

-- a run that is short enough for a numeral
abbrev written_here : List ℕ → ℤ → Type 0
written_here run n = (list_all is_run_byte run ≡ true) × (0 < length run) × (length run ≤ 11)

numeral : (run : List ℕ) (n : ℤ) → written_here run n → is_named (codes "block") (Run run) ≡ false →
    is_named (codes "table") (Run run) ≡ false → value_of run ≡ Some n → IsNumeral n
numeral run n h block table value = record {
  run = run;
  word = record { is = (h.0, h.1); block = block; table = table; short = h.2 };
  value = value;
}

pub numeral_0 : IsNumeral (pos 0)
unfolding value_of
numeral_0 = numeral (codes "0") (pos 0) (refl, omega arith, omega arith) refl refl refl

pub numeral_1 : IsNumeral (pos 1)
unfolding value_of
numeral_1 = numeral (codes "1") (pos 1) (refl, omega arith, omega arith) refl refl refl

pub numeral_7 : IsNumeral (pos 7)
unfolding value_of
numeral_7 = numeral (codes "7") (pos 7) (refl, omega arith, omega arith) refl refl refl

pub numeral_15 : IsNumeral (pos 15)
unfolding value_of
numeral_15 = numeral (codes "15") (pos 15) (refl, omega arith, omega arith) refl refl refl

pub numeral_30 : IsNumeral (pos 30)
unfolding value_of
numeral_30 = numeral (codes "30") (pos 30) (refl, omega arith, omega arith) refl refl refl

pub numeral_31 : IsNumeral (pos 31)
unfolding value_of
numeral_31 = numeral (codes "31") (pos 31) (refl, omega arith, omega arith) refl refl refl

pub numeral_127 : IsNumeral (pos 127)
unfolding value_of
numeral_127 = numeral (codes "127") (pos 127) (refl, omega arith, omega arith) refl refl refl

pub numeral_32767 : IsNumeral (pos 32767)
unfolding value_of
numeral_32767 = numeral (codes "32767") (pos 32767) (refl, omega arith, omega arith) refl refl refl

pub numeral_2147483647 : IsNumeral (pos 2147483647)
unfolding value_of
numeral_2147483647 =
    numeral (codes "2147483647") (pos 2147483647) (refl, omega arith, omega arith) refl refl refl

-- ---- a brace, a format, the output

pub opening_accepted : (tables : Environment) (rule : ListRule) → Accepts (opening tables rule) 2
opening_accepted None rule = record {
  token = Open;
  x = None;
  is = tt;
  ending = ending_more 2 0 Open [] tt refl refl (omega arith) (ending_none 0);
  takes = refl;
}
opening_accepted (Some tables) rule = record {
  token = Open;
  x = None;
  is = tt;
  ending = ending_more 2 0 Open [] tt refl refl (omega arith) (ending_none 0);
  takes = refl;
}

pub conversion_accepted : (from : Fmt) → Accepts (conversion from) 4
unfolding by_name
conversion_accepted Q7 = record {
  token = Run (codes "q15");
  x = Q15;
  is = tt;
  ending = run_ending 4 (codes "q15") (refl, omega arith) refl refl (omega arith);
  takes = refl;
}
conversion_accepted from = record {
  token = Run (codes "q7");
  x = Q7;
  is = tt;
  ending = run_ending 4 (codes "q7") (refl, omega arith) refl refl (omega arith);
  takes = refl;
}

pub output_accepted : (left : ℕ) (correlated : Bool) (flow : Flow) → Accepts (next_block left correlated flow) 7
output_accepted left correlated flow = record {
  token = Run (codes "output");
  x = None;
  is = tt;
  ending = run_ending 7 (codes "output") (refl, omega arith) refl refl (omega arith);
  takes = rw place_again_output refl;
}

-- ---- a new name

-- what follows this byte in the names that begin with it
abbrev tails : ℕ → List (List ℕ) → List (List ℕ)
tails c [] = []
tails c ([] ∷ names) = tails c names
tails c ((b ∷ name) ∷ names) = cond (eqb b c) (name ∷ tails c names) (tails c names)

shared : (x y : Bool) (a b : List (List ℕ)) (name : List ℕ) (n : ℕ) → (x ≡ true → y ≡ false) →
    length a + length b ≤ n → length (cond x (name ∷ a) a) + length (cond y (name ∷ b) b) ≤ suc n
shared true true a b name n one h = let no = one refl in absurd cc
shared true false a b name n one h = omega arith
shared false true a b name n one h = omega arith
shared false false a b name n one h = omega arith

two_tails : (names : List (List ℕ)) → length (tails 120 names) + length (tails 121 names) ≤ length names
two_tails [] = omega arith
two_tails ([] ∷ names) = omega (arith, two_tails names)
two_tails ((b ∷ name) ∷ names) = shared (eqb b 120) (eqb b 121) (tails 120 names) (tails 121 names) name (length names)
    (λ e. grind (arith, nat_tests)) (two_tails names)

-- none of the names
abbrev Absent : List ℕ → List (List ℕ) → Type 0
Absent name names = AllByRecursion (λ other. name ≢ other) names

absent_tail : (c b : ℕ) (tail name : List ℕ) (names : List (List ℕ)) (same : Bool) → eqb b c ≡ same →
    (Absent tail (tails c names) → Absent (c ∷ tail) names) →
    Absent tail (cond same (name ∷ tails c names) (tails c names)) → Absent (c ∷ tail) ((b ∷ name) ∷ names)
absent_tail c b tail name names true e later h = (λ is. h.0 cc, later h.1)
absent_tail c b tail name names false e later h =
    (λ is. let equal : c ≡ b = cc in let no : eqb b c ≡ true = grind (arith, nat_tests) in absurd cc, later h)

absent : (c : ℕ) (tail : List ℕ) (names : List (List ℕ)) → Absent tail (tails c names) → Absent (c ∷ tail) names
absent c tail [] h = tt
absent c tail ([] ∷ names) h = (λ is. absurd cc, absent c tail names h)
absent c tail ((b ∷ name) ∷ names) h = absent_tail c b tail name names (eqb b c) refl (absent c tail names) h

-- 2^n
abbrev doubled : ℕ → ℕ
doubled zero = 1
doubled (suc n) = doubled n + doubled n

-- a name of so many letters x and y that is none of few names
record IsFresh (n : ℕ) (names : List (List ℕ)) (name : List ℕ) : Type 0 where
  long : length name ≡ n
  letters : AllByRecursion (λ b. (120 ≤ b) × (b ≤ 121)) name
  absent_is : Absent name names

fresh : (n : ℕ) (names : List (List ℕ)) → length names < doubled n → (name : List ℕ) × IsFresh n names name
fresh zero [] few = ([], record { long = refl; letters = tt; absent_is = tt })
fresh zero (x ∷ names) few = absurd (omega arith)
fresh (suc n) names few =
    let both = two_tails names in
    halves (cases_lt (length (tails 120 names)) (doubled n)) (fresh n)
  where
    halves : (length (tails 120 names) < doubled n) ⊎ (doubled n ≤ length (tails 120 names)) →
        ((xs : List (List ℕ)) → length xs < doubled n → (name : List ℕ) × IsFresh n xs name) →
        (name : List ℕ) × IsFresh (suc n) names name
    halves (inl lt) later =
        let f = later (tails 120 names) lt in (
          120 ∷ f.0,
          record {
            long = ap (λ k. suc k) f.1.long;
            letters = ((omega arith, omega arith), f.1.letters);
            absent_is = absent 120 f.0 names f.1.absent_is;
          },
        )
    halves (inr le) later =
        let both = two_tails names in
        let f = later (tails 121 names) (omega arith) in (
          121 ∷ f.0,
          record {
            long = ap (λ k. suc k) f.1.long;
            letters = ((omega arith, omega arith), f.1.letters);
            absent_is = absent 121 f.0 names f.1.absent_is;
          },
        )

run_letters : (name : List ℕ) → AllByRecursion (λ b. (120 ≤ b) × (b ≤ 121)) name → list_all is_run_byte name ≡ true
run_letters [] h = refl
run_letters (b ∷ name) h = let here : is_run_byte b ≡ true = grind (arith, nat_tests, h.0.0, h.0.1) in
    rw (here, run_letters name h.1) refl

named_letters : (name : List ℕ) → AllByRecursion (λ b. (120 ≤ b) × (b ≤ 121)) name → length name ≡ 7 →
    is_table_name name ≡ true
named_letters [] h long = absurd (omega arith)
named_letters (b ∷ name) h long = grind (arith, nat_tests, h.0.0, h.0.1)

unequal : (run name : List ℕ) → (run ≡ name → ⊥) → bytes_eq run name ≡ false
unequal run name differs = tested (bytes_eq run name) refl
  where
    tested : (b : Bool) → bytes_eq run name ≡ b → b ≡ false
    tested true e = absurd (differs ((bytes_eq-Decides run name).0 e))
    tested false e = refl

other_length : (name run : List ℕ) → (run ≡ name → ⊥) → is_named name (Run run) ≡ false
other_length name run differs = rw (unequal run name differs) refl

not_found : (name : List ℕ) (tables : List Named) → Absent name (map (λ t. t.name) tables) →
    numbers_of tables name ≡ None
unfolding numbers_of
not_found name [] h = refl
not_found name (t ∷ tables) h = tested (bytes_eq name t.name) refl (not_found name tables h.1)
  where
    tested : (b : Bool) → bytes_eq name t.name ≡ b →
        option_map (λ t. t.numbers) (find (λ t. bytes_eq name t.name) tables) ≡ None →
        option_map (λ t. t.numbers) (cond b (Some t) (find (λ t. bytes_eq name t.name) tables)) ≡ None
    tested true e later = absurd (h.0 ((bytes_eq-Decides name t.name).0 e))
    tested false e later = later

pub name_accepted : (tables : List Named) → length tables ≤ 64 → Accepts (new_name tables) 8
name_accepted tables few =
    let names = map (λ (t : Named). t.name) tables in
    let f = fresh 7 names (omega (arith, length-map tables (λ (t : Named). t.name))) in
    let no_block = other_length (codes "block") f.0
    (λ is. let five : length f.0 ≡ 5 = ap (λ (xs : List ℕ). length xs) is in absurd (omega (arith, f.1.long))) in
    let no_table = other_length (codes "table") f.0
    (λ is. let five : length f.0 ≡ 5 = ap (λ (xs : List ℕ). length xs) is in absurd (omega (arith, f.1.long))) in
    record {
      token = Run f.0;
      x = f.0;
      is = tt;
      ending = run_ending 8 f.0 (run_letters f.0 f.1.letters, omega (arith, f.1.long)) no_block no_table
          (omega (arith, f.1.long));
      takes = rw (named_letters f.0 f.1.letters f.1.long, not_found f.0 tables f.1.absent_is) refl;
    }
