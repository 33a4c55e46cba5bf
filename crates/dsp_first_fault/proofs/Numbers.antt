-- What the places of numbers, tables and conversions do.
use Rattle.std.proofs.Common.{◌≡◌, ℕ, zero, suc, ℤ, pos, ◌+◌, ◌*◌, ◌≤◌, Bool, true, false, cond, eqb, List, [], ◌∷◌}
use Rattle.std.proofs.Common.{◌++◌, length, Option, Some, None, Result, Ok, refl, sym, ap, subst, ◌∙◌, append_assoc}
use Rattle.std.proofs.Common.{length-append, inl, arith}
use Rattle.std.specs.Prelude.{⊤, codes, unsigned_abs, is_some}
use Rattle.std.proofs.lemmas.Bool.Decides.{nat_tests}
use Rattle.std.proofs.lemmas.Int.{ints}
use Rattle.dsp_defs.specs.declared.limits.TheConstants.{MAX_TABLES, MAX_TAPS}
use Rattle.dsp_defs.specs.declared.script_fault.ScriptFault.{ScriptFault}
use Rattle.dsp_defs.specs.declared.script_fault.ScriptKind.TheVariants.{Missing, TooMany, UnknownWord}
use Rattle.dsp_defs.specs.declared.format.Fmt.{Fmt}
use Rattle.dsp_defs.specs.Token.{Token, Run, Item, Rest}
use Rattle.dsp_defs.specs.Numeral.{value_of}
use Rattle.dsp_defs.specs.Tables.{Named, table_rule}
use Rattle.dsp_defs.specs.Parameters.{IsBetween}
use Rattle.dsp_defs.specs.Places.{◌>>=◌, fault, or_fault, first_of, next_at, meaning_of, named, number, natural_at}
use Rattle.dsp_defs.specs.Places.{begins_with, table_word, new_name, list_at, table_at, tables_at, environment_at}
use Rattle.dsp_defs.specs.Places.{conversion}
use Rattle.dsp_script.proofs.Steps.{natural_takes, Strips, written_number}
use Rattle.dsp_script.proofs.Tokens.{IsToken}
use Rattle.dsp_script.proofs.PlainLaws.{as_items}
use Rattle.dsp_defs.specs.Grammar.{Numeral}
use Rattle.dsp_first_fault.proofs.Readers.{Reader, TakesAs, Faulty, Goes, Room, even, next_outcome, faults_here}
use Rattle.dsp_first_fault.proofs.Readers.{next_there, word_token, Took}
use Rattle.dsp_first_fault.proofs.Sequences.{and_then, then, then_done, done_outcome}
use Rattle.dsp_first_fault.proofs.Options.{WantsMore, word_wants, there, complete_none, optional, optional_outcome}
use Rattle.dsp_first_fault.proofs.Options.{optional_room, word_there, skipped}
use Rattle.dsp_first_fault.specs.Fault.{IsFull}
use Rattle.dsp_first_fault.proofs.Items.{rest_at, tokens_as}
use Rattle.dsp_first_fault.proofs.Judges.{number_steady, table_word_steady, new_name_steady, conversion_steady}
use Rattle.dsp_first_fault.proofs.Accepted.{IsNumeral, number_accepted, name_accepted, conversion_accepted}
use Rattle.dsp_first_fault.proofs.Lists.{IsEasy, easy_list, list_room, shorter}

-- ---- numbers

pub number_outcome : (full : List Token → Type 0) (low high n : ℤ) (items : List Item) (end : ℕ) → IsNumeral n →
    IsBetween low high n → Goes full (next_at (number low high)) (even 12) (rest_at items end)
number_outcome full low high n items end numeral between = next_outcome full (number low high) 12
    (number_steady low high) (number_accepted low high n numeral between) items end

pub natural_outcome : (full : List Token → Type 0) (low high : ℕ) (items : List Item) (end : ℕ) →
    IsNumeral (pos low) → low ≤ high → Goes full (natural_at low high) (even 12) (rest_at items end)
unfolding natural_at
natural_outcome full low high items end numeral le =
    then_done full (next_at (number (pos low) (pos high))) (λ n. unsigned_abs n) (even 12) items end
    (number_outcome full (pos low) (pos high) (pos low) items end numeral
    (omega (arith, ints), omega (arith, ints)))

stripped : (items left : List Item) (n : ℤ) → Strips [] items (Numeral n ∷ []) left → (item : Item) ×
    (items ≡ item ∷ left) × (run : List ℕ) × (item.token ≡ Run run) × (value_of run ≡ Some n)
stripped [] left n h = absurd h
stripped (item ∷ items) left n h =
    let run = written_number [] item.token n h.0 in
    (item, ap (λ (xs : List Item). item ∷ xs) h.1, run.0, run.1, run.2)

-- a natural number that was taken was one run
pub took_natural : (low high n : ℕ) (ts : List Token) (left : List Item) → TakesAs (natural_at low high) ts n left →
    (run : List ℕ) × (ts ≡ Run run ∷ []) × (value_of run ≡ Some (pos n)) × (low ≤ n) × (n ≤ high)
took_natural low high n ts left takes =
    let t = natural_takes [] low high (rest_at (as_items ts ++ left) 0) (rest_at left 0) n
    (takes (as_items ts) left 0 (tokens_as ts) (inl refl)) in
    let s = stripped (as_items ts ++ left) left (pos n) t.0.strips in
    (s.2, shorter ts left s.0 s.1 ∙ ap (λ (t : Token). t ∷ []) s.3, s.4, t.1, t.2)

-- ---- conversions

pub conversion_outcome : (full : List Token → Type 0) (from : Fmt) (items : List Item) (end : ℕ) →
    Goes full (next_at (conversion from)) (even 4) (rest_at items end)
conversion_outcome full from items end =
    next_outcome full (conversion from) 4 (conversion_steady from) (conversion_accepted from) items end

-- ---- tables

pub full_behind : (ts ts2 : List Token) → IsFull ts2 → IsFull (ts ++ ts2)
full_behind ts ts2 full = record {
  before = ts ++ full.before;
  numeral = full.numeral;
  taps = full.taps;
  factor = full.factor;
  ends = ap (λ (more : List Token). ts ++ more) full.ends ∙ sym (append_assoc ts full.before _);
  value = full.value;
  small = full.small;
  few = full.few;
  none = full.none;
}

-- the numbers of a table of this name
abbrev numbers_reader : List ℕ → Reader Named
numbers_reader name rest = list_at None table_rule rest >>= λ numbers. Ok
    (record { name = name; numbers = numbers.0 }, numbers.1)

-- the name of a table behind these, and its numbers
abbrev name_reader : List Named → Reader Named
name_reader tables rest = next_at (new_name tables) rest >>= λ name. numbers_reader name.0 name.1

easy_table : IsEasy table_rule
easy_table = record { zero = (omega (arith, ints), omega (arith, ints)); complete = refl }

pub some_word : (o : Option ⊤) → is_some o ≡ true → or_fault 0 UnknownWord o ≡ Ok tt
some_word None e = absurd cc
some_word (Some x) e = refl

-- the word of a table, where more may come
table_word_is : (left : ℕ) (token : Token) → is_some (meaning_of (named (codes "table")) token) ≡ true →
    table_word (suc left) 0 token ≡ Ok tt
table_word_is left token is =
    let some : eqb (suc left) 0 ≡ false = grind (arith, nat_tests) in
    rw (some_word (meaning_of (named (codes "table")) token) is, some) refl

no_more_tables : (token : Token) → is_some (meaning_of (named (codes "table")) token) ≡ true →
    table_word 0 0 token ≡ fault 0 (TooMany MAX_TABLES)
no_more_tables token is = rw (some_word (meaning_of (named (codes "table")) token) is) refl

-- the room that a table may want
abbrev table_most : ℕ
table_most = 2 * MAX_TAPS + 12

table_outcome : (left : ℕ) (tables : List Named) (items : List Item) (end : ℕ) → length tables ≤ 64 →
    begins_with (codes "table") items ≡ true →
    Goes IsFull (table_at (suc left) tables) (even table_most) (rest_at items end)
unfolding table_at
table_outcome left tables items end few next =
    then IsFull full_behind (next_at (table_word (suc left))) (λ _. name_reader tables) (even 0) (even table_most)
    (even table_most) items end (record { empty = omega arith; most = omega arith; later = omega arith })
    (word_there IsFull (codes "table") (table_word (suc left)) tt (even 0) items end (table_word_steady (suc left)) next
    (table_word_is left))
    (λ _ ts r e _. then IsFull full_behind (next_at (new_name tables)) numbers_reader (even 8)
    (even (list_room table_rule)) (even table_most) r e
    (record { empty = omega arith; most = omega arith; later = omega arith })
    (next_outcome IsFull (new_name tables) 8 (new_name_steady tables) (name_accepted tables few) r e)
    (λ name ts s e _. then_done IsFull (list_at None table_rule)
    (λ numbers. record { name = name; numbers = numbers }) (even (list_room table_rule)) s e
    (easy_list IsFull None table_rule s e easy_table)))

table_wants : (left : ℕ) (tables : List Named) (end : ℕ) → table_at left tables (rest_at [] end) ≡ fault end Missing
unfolding table_at next_at first_of
table_wants left tables end = refl

table_wants_more : (left : ℕ) (tables : List Named) → WantsMore (codes "table") (table_at (suc left) tables)
unfolding table_at next_at first_of
table_wants_more left tables = word_wants (table_word (suc left)) tt (λ _. name_reader tables) (codes "table")
    (table_word_steady (suc left)) (table_word_is left) (λ end. refl)

-- the room that the tables may want
abbrev pub tables_room : Room
tables_room = optional_room (even table_most)

-- no more tables may come, and one comes
one_too_many : (tables : List Named) (item other : Item) (ys : List Item) (end : ℕ) →
    is_some (meaning_of (named (codes "table")) item.token) ≡ true → other.token ≡ item.token →
    table_at 0 tables (rest_at (other ∷ ys) end) ≡ fault other.offset (TooMany MAX_TABLES)
unfolding table_at
one_too_many tables item other ys end is same =
    ap (λ (r : Result (⊤ × Rest) ScriptFault). r >>= λ word. name_reader tables word.1)
    (next_there (table_word 0) (record { offset = 0; token = item.token }) other ys end (fault 0 (TooMany MAX_TABLES))
    (table_word_steady 0) (word_token (codes "table") item.token is) same (no_more_tables item.token is))

no_table_more : (tables : List Named) (items : List Item) (end : ℕ) → begins_with (codes "table") items ≡ true →
    Goes IsFull (tables_at 0 tables) tables_room (rest_at items end)
unfolding tables_at
no_table_more tables [] end next = absurd cc
no_table_more tables (item ∷ items) end next =
    let read = and_then (table_at 0 tables) (λ _ r. Ok (tables, r)) in
    Faulty [] items item (TooMany MAX_TABLES) refl
    (λ is. absurd cc, λ bad. absurd (subst IsToken bad (word_token (codes "table") item.token next)))
    (faults_here (optional (codes "table") read tables) item.token (TooMany MAX_TABLES)
    (λ ys other end same. there (codes "table") read tables (other ∷ ys) end _
    (ap (λ (t : Token). is_some (meaning_of (named (codes "table")) t)) same ∙ next)
    (ap (λ (r : Result (Named × Rest) ScriptFault). r >>= λ t. Ok (tables, t.1))
    (one_too_many tables item other ys end next same))))
    (complete_none (codes "table") read tables 0 (λ ys quiet. quiet.table)) (λ missing. absurd cc)

tables_outcome : (left : ℕ) (tables : List Named) (items : List Item) (end : ℕ) → length tables + left ≤ 64 →
    Goes IsFull (tables_at left tables) tables_room (rest_at items end)
unfolding tables_at
tables_outcome zero tables items end few = tested (begins_with (codes "table") items) refl
  where
    tested : (b : Bool) → begins_with (codes "table") items ≡ b →
        Goes IsFull (tables_at 0 tables) tables_room (rest_at items end)
    tested true e = no_table_more tables items end e
    tested false e = Took [] items tables refl (skipped (codes "table") (and_then (table_at 0 tables)
        (λ _ r. Ok (tables, r))) tables items (λ ys quiet. quiet.table) e)
tables_outcome (suc left) tables items end few =
    let later = tables_outcome left in
    optional_outcome IsFull (codes "table")
    (and_then (table_at (suc left) tables) (λ t r. tables_at left (tables ++ t ∷ []) r)) tables (even table_most) items
    end (λ e. ap (λ (r : Result (Named × Rest) ScriptFault). r >>= λ t. tables_at left (tables ++ t.0 ∷ []) t.1)
    (table_wants (suc left) tables e))
    (λ item end is. ap (λ (r : Result (Named × Rest) ScriptFault). r >>= λ t. tables_at left (tables ++ t.0 ∷ []) t.1)
    (table_wants_more left tables item end is))
    (λ ys quiet. quiet.table)
    (λ next. then IsFull full_behind (table_at (suc left) tables) (λ t r. tables_at left (tables ++ t ∷ []) r)
    (even table_most) tables_room (even table_most) items end
    (record { empty = omega arith; most = omega arith; later = omega arith })
    (table_outcome left tables items end (omega arith) next)
    (λ t ts r e _. later (tables ++ t ∷ []) r e (omega (arith, length-append tables (t ∷ [])))))

pub environment_outcome : (version : ℕ) (items : List Item) (end : ℕ) →
    Goes IsFull (environment_at version) tables_room (rest_at items end)
unfolding environment_at
environment_outcome version items end = cases (eqb version 1)
  where
    cases : (one : Bool) → Goes IsFull (λ r. cond one (Ok (None, r))
        (tables_at MAX_TABLES [] r >>= λ t. Ok (Some t.0, t.1))) tables_room (rest_at items end)
    cases true = done_outcome _ None items end
    cases false = then_done IsFull (tables_at MAX_TABLES []) (λ t. Some t) tables_room items end
        (tables_outcome MAX_TABLES [] items end (omega arith))
