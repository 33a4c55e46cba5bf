-- What the places of lists do.
use Rattle.std.proofs.Common.{◌≡◌, ℕ, zero, suc, ℤ, pos, ◌+◌, ◌-◌, ◌*◌, ◌<◌, ◌≤◌, Bool, true, false, List, [], ◌∷◌}
use Rattle.std.proofs.Common.{◌++◌, length, map, Option, Some, None, Result, Ok, Err, refl, sym, ap, ◌∙◌, inl, inr}
use Rattle.std.proofs.Common.{arith, length-append}
use Rattle.std.specs.Prelude.{◌⊎◌, nat_le, codes}
use Rattle.std.proofs.lemmas.Bool.{cases_lt}
use Rattle.std.proofs.lemmas.Bool.Decides.{nat_tests}
use Rattle.dsp_defs.specs.declared.script_fault.ScriptFault.{ScriptFault}
use Rattle.dsp_defs.specs.declared.script_fault.ScriptKind.TheVariants.{BadByte}
use Rattle.dsp_defs.specs.declared.list_rule.ListRule.{ListRule}
use Rattle.dsp_defs.specs.Token.{Token, Open, Close, Run, Bad, Item, Rest}
use Rattle.dsp_defs.specs.Numeral.{value_of}
use Rattle.dsp_defs.specs.Parameters.{IsBetween, is_complete}
use Rattle.dsp_defs.specs.Places.{◌>>=◌, or_fault, next_number, Judge, next_at, Environment, opening, entry}
use Rattle.dsp_defs.specs.Places.{entries_at, list_at, list_end, judged}
use Rattle.dsp_defs.specs.Tables.{numbers_of}
use Rattle.dsp_script.specs.Plain.{tokens}
use Rattle.dsp_script.proofs.Steps.{bind_ok, refused, between_again, next_takes}
use Rattle.dsp_first_fault.proofs.Readers.{takes_brace, TakesBrace, Reader, TakesAs, Outcome, Took, Faulty, Wants}
use Rattle.dsp_first_fault.proofs.Readers.{Completion, Hope, NoneRead, Goes, even, takes_more, takes_one, faults_here}
use Rattle.dsp_first_fault.proofs.Readers.{faults_more, bad_or_token, other_kind, next_bad, next_there, next_outcome}
use Rattle.dsp_first_fault.proofs.Sequences.{done_outcome, other_hope, then_full}
use Rattle.dsp_script.proofs.ListLaws.{entries_take}
use Rattle.dsp_script.proofs.Tokens.{IsToken}
use Rattle.dsp_script.proofs.PlainLaws.{as_items}
use Rattle.dsp_first_fault.proofs.Items.{rest_at, tokens_as}
use Rattle.dsp_first_fault.proofs.Endings.{IsEnding, ending_none, ending_more, ending_wider}
use Rattle.dsp_first_fault.proofs.Judges.{opening_steady, entry_steady}
use Rattle.dsp_first_fault.proofs.Accepted.{opening_accepted}

-- ---- the numbers of a list, up to its end

-- the rest of a list that has so many numbers
abbrev entries_reader : ListRule → ℕ → Reader (List ℤ)
entries_reader rule count rest = entries_at rule count rest.end rest.items

entries_fault : (rule : ListRule) (count end : ℕ) (item : Item) (items : List Item) (f : ScriptFault) →
    next_at (entry rule count) (rest_at (item ∷ items) end) ≡ Err f → entries_at rule count end (item ∷ items) ≡ Err f
unfolding entries_at
entries_fault rule count end item items f e = rw e refl

entries_end : (rule : ListRule) (count end : ℕ) (item : Item) (items : List Item) (r : Rest) →
    next_at (entry rule count) (rest_at (item ∷ items) end) ≡ Ok (None, r) →
    entries_at rule count end (item ∷ items) ≡ Ok ([], r)
unfolding entries_at
entries_end rule count end item items r e = rw e refl

entries_number : (rule : ListRule) (count end : ℕ) (item : Item) (items : List Item) (n : ℤ) (r : Rest) →
    next_at (entry rule count) (rest_at (item ∷ items) end) ≡ Ok (Some n, r) →
    entries_at rule count end (item ∷ items) ≡
    (entries_at rule (count + 1) end items >>= λ more. Ok (n ∷ more.0, more.1))
unfolding entries_at
entries_number rule count end item items n r e = rw e refl

-- a number, and the rest of the list
number_here : (rule : ListRule) (count : ℕ) (item other : Item) (ys : List Item) (end : ℕ) (n : ℤ)
    (r : Result (List ℤ × Rest) ScriptFault) → IsToken item.token →
    entry rule count item.offset item.token ≡ Ok (Some n) → other.token ≡ item.token →
    entries_at rule (count + 1) end ys ≡ r →
    entries_at rule count end (other ∷ ys) ≡ (r >>= λ more. Ok (n ∷ more.0, more.1))
number_here rule count item other ys end n r is e same more =
    entries_number rule count end other ys n (rest_at ys end)
    (next_there (entry rule count) item other ys end (Ok (Some n)) (entry_steady rule count) is same e) ∙
    ap (λ (r : Result (List ℤ × Rest) ScriptFault). r >>= λ more. Ok (n ∷ more.0, more.1)) more

number_takes : (rule : ListRule) (count : ℕ) (item : Item) (n : ℤ) (ts : List Token) (ns : List ℤ)
    (left : List Item) → IsToken item.token → entry rule count item.offset item.token ≡ Ok (Some n) →
    TakesAs (entries_reader rule (count + 1)) ts ns left →
    TakesAs (entries_reader rule count) (item.token ∷ ts) (n ∷ ns) left
number_takes rule count item n ts ns left is e takes = takes_more (entries_reader rule count) item.token ts (n ∷ ns)
    left
    (λ other others ys end same later admits. number_here rule count item other (others ++ ys) end n _ is e same
    (takes others ys end later admits))

end_takes : (rule : ListRule) (count : ℕ) (item : Item) (left : List Item) → IsToken item.token →
    entry rule count item.offset item.token ≡ Ok None →
    TakesAs (entries_reader rule count) (item.token ∷ []) [] left
end_takes rule count item left is e = takes_one (entries_reader rule count) item.token [] left
    (λ ys other end same admits. entries_end rule count end other ys (rest_at ys end)
    (next_there (entry rule count) item other ys end (Ok None) (entry_steady rule count) is same e))

-- ---- how a list can be ended

-- zeros, and the end
abbrev zeros : ℕ → List Token
zeros zero = Close ∷ []
zeros (suc k) = Run (codes "0") ∷ zeros k

-- the numbers of those tokens
abbrev no_numbers : ℕ → List ℤ
no_numbers zero = []
no_numbers (suc k) = pos 0 ∷ no_numbers k

zeros_ending : (k : ℕ) → IsEnding (2 * k + 2) (zeros k)
zeros_ending zero = ending_more 2 0 Close [] tt refl refl (omega arith) (ending_none 0)
zeros_ending (suc k) = ending_more (2 * suc k + 2) (2 * k + 2) (Run (codes "0")) (zeros k) (refl, omega arith) refl refl
    (omega arith) (zeros_ending k)

zero_is : (rule : ListRule) (count : ℕ) → IsBetween rule.low rule.high (pos 0) → count < rule.limit →
    entry rule count 0 (Run (codes "0")) ≡ Ok (Some (pos 0))
unfolding value_of
zero_is rule count between room =
    let more : nat_le rule.limit count ≡ false = grind (arith, nat_tests) in
    rw (more, between_again rule.low rule.high (pos 0) between) refl

close_is : (rule : ListRule) (count : ℕ) → is_complete rule.count count ≡ true → entry rule count 0 Close ≡ Ok None
close_is rule count complete = rw complete refl

zeros_take : (k : ℕ) (rule : ListRule) (count : ℕ) → IsBetween rule.low rule.high (pos 0) →
    is_complete rule.count (count + k) ≡ true → count + k ≤ rule.limit →
    TakesAs (entries_reader rule count) (zeros k) (no_numbers k) []
zeros_take zero rule count between complete fits =
    let same : count + 0 ≡ count = omega arith in
    end_takes rule count (record { offset = 0; token = Close }) [] tt (close_is rule count (rw same at complete))
zeros_take (suc k) rule count between complete fits =
    let same : count + suc k ≡ (count + 1) + k = omega arith in
    number_takes rule count (record { offset = 0; token = Run (codes "0") }) (pos 0) (zeros k) (no_numbers k) [] tt
    (zero_is rule count between (omega arith))
    (zeros_take k rule (count + 1) between (rw same at complete) (omega arith))

-- no more numbers make the list complete
abbrev IsStuck : ListRule → ℕ → Type 0
IsStuck rule count = (n : ℕ) → count ≤ n → n ≤ rule.limit → is_complete rule.count n ≡ false

-- so many more make it complete
record Ends (rule : ListRule) (count : ℕ) : Type 0 where
  k : ℕ
  complete : is_complete rule.count (count + k) ≡ true
  fits : count + k ≤ rule.limit

ends_here : (rule : ListRule) (count : ℕ) → is_complete rule.count count ≡ true → count ≤ rule.limit → Ends rule count
ends_here rule count complete fits = record {
  k = 0;
  complete = let same : count + 0 ≡ count = omega arith in rw same complete;
  fits = omega arith;
}

ends_later : (rule : ListRule) (count : ℕ) → Ends rule (count + 1) → Ends rule count
ends_later rule count e = record {
  k = suc e.k;
  complete = let same : count + suc e.k ≡ (count + 1) + e.k = omega arith in rw same e.complete;
  fits = omega (arith, e.fits);
}

stuck_here : (rule : ListRule) (count : ℕ) → is_complete rule.count count ≡ false →
    ((n : ℕ) → count < n → n ≤ rule.limit → is_complete rule.count n ≡ false) → IsStuck rule count
stuck_here rule count here later n low high = tested (cases_lt count n)
  where
    tested : (count < n) ⊎ (n ≤ count) → is_complete rule.count n ≡ false
    tested (inl lt) = later n lt high
    tested (inr le) = let same : n ≡ count = omega arith in rw same here

end_or_stuck : (gap : ℕ) (rule : ListRule) (count : ℕ) → count + gap ≡ rule.limit → Ends rule count ⊎ IsStuck rule count
end_or_stuck zero rule count e = tested (is_complete rule.count count) refl
  where
    tested : (b : Bool) → is_complete rule.count count ≡ b → Ends rule count ⊎ IsStuck rule count
    tested true c = inl (ends_here rule count c (omega arith))
    tested false c = inr (stuck_here rule count c (λ n low high. absurd (omega arith)))
end_or_stuck (suc gap) rule count e =
    tested (is_complete rule.count count) refl (end_or_stuck gap rule (count + 1) (omega arith))
  where
    tested : (b : Bool) → is_complete rule.count count ≡ b → Ends rule (count + 1) ⊎ IsStuck rule (count + 1) →
        Ends rule count ⊎ IsStuck rule count
    tested true c more = inl (ends_here rule count c (omega arith))
    tested false c (inl ends) = inl (ends_later rule count ends)
    tested false c (inr stuck) = inr (stuck_here rule count c (λ n low high. stuck n (omega arith) high))

-- ---- where a list stops

-- these numbers were taken, and no more make the list complete
abbrev EntriesFull : ListRule → ℕ → List Token → Type 0
EntriesFull rule count ts = (runs : List (List ℕ)) × (ts ≡ map Run runs) × (count + length runs ≤ rule.limit) ×
    IsStuck rule (count + length runs)

-- the room that the numbers of a list may want
abbrev entries_room : ListRule → ℕ
entries_room rule = 2 * rule.limit + 2

-- the numbers can be ended; or they are full, and nothing ends them
abbrev EntriesHope : ListRule → ℕ → List Token → Type 0
EntriesHope rule count ts = Completion (entries_reader rule count) (entries_room rule) ts ⊎
    (EntriesFull rule count ts × NoneRead (entries_reader rule count) ts)

-- where no more numbers make the list complete, it is read with no more items
none_more : (rule : ListRule) (count : ℕ) → count ≤ rule.limit → IsStuck rule count →
    NoneRead (entries_reader rule count) []
none_more rule count few stuck others ys end (numbers, after) same e =
    let is = entries_take [] rule count end (others ++ ys) numbers after e in
    let unfinished : is_complete rule.count (count + length numbers) ≡ false =
    stuck (count + length numbers) (omega arith) (is.rest.room few) in
    let finished : is_complete rule.count (count + length numbers) ≡ true = is.rest.complete in
    absurd cc

none_behind : (rule : ListRule) (count : ℕ) (item : Item) (n : ℤ) (ts : List Token) → IsToken item.token →
    entry rule count item.offset item.token ≡ Ok (Some n) → NoneRead (entries_reader rule (count + 1)) ts →
    NoneRead (entries_reader rule count) (item.token ∷ ts)
none_behind rule count item n ts is e none [] ys end p same read = absurd cc
none_behind rule count item n ts is e none (o ∷ others) ys end p same read =
    let here : o.token ≡ item.token = cc in
    let later : tokens others ≡ ts = cc in
    let b = bind_ok (entries_at rule (count + 1) end (others ++ ys)) _ p
    (sym (number_here rule count item o (others ++ ys) end n _ is e here refl) ∙ read) in
    none others ys end b.0 later b.1

-- what the list can be ended by, or that it can't
hope_here : (rule : ListRule) (count : ℕ) → IsBetween rule.low rule.high (pos 0) → count ≤ rule.limit →
    EntriesHope rule count []
hope_here rule count between few = cases (end_or_stuck (rule.limit - count) rule count (omega arith))
  where
    cases : Ends rule count ⊎ IsStuck rule count → EntriesHope rule count []
    cases (inl e) = inl (record {
      more = zeros e.k;
      x = no_numbers e.k;
      ending = ending_wider (2 * e.k + 2) (entries_room rule) (zeros e.k) (omega (arith, e.fits)) (zeros_ending e.k);
      takes = zeros_take e.k rule count between e.complete e.fits;
    })
    cases (inr stuck) = inr (
      ([], refl, omega arith, λ n low high. stuck n (omega arith) high),
      none_more rule count few stuck,
    )

-- a number that was taken leaves room for it
taken_run : (rule : ListRule) (count offset : ℕ) (token : Token) (n : ℤ) →
    entry rule count offset token ≡ Ok (Some n) → (run : List ℕ) × (token ≡ Run run) × (count < rule.limit)
taken_run rule count offset Open n e = absurd cc
taken_run rule count offset Bad n e = absurd cc
taken_run rule count offset Close n e =
    let b = bind_ok (list_end rule count offset) _ (Some n) e in
    absurd (let no_number = b.2 in cc)
taken_run rule count offset (Run run) n e =
    let b = bind_ok (or_fault offset _ (value_of run)) _ (Some n) e in
    let m = bind_ok (next_number rule count offset b.0) _ (Some n) b.2 in
    let g = refused (nat_le rule.limit count) _ _ m.0 m.1 in
    (run, refl, grind (arith, nat_tests, g.0))

hope_more : (rule : ListRule) (count : ℕ) (item : Item) (n : ℤ) (ts : List Token) → IsToken item.token →
    entry rule count item.offset item.token ≡ Ok (Some n) → EntriesHope rule (count + 1) ts →
    EntriesHope rule count (item.token ∷ ts)
hope_more rule count item n ts is e (inl c) = inl (record {
  more = c.more;
  x = n ∷ c.x;
  ending = c.ending;
  takes = number_takes rule count item n (ts ++ c.more) c.x [] is e c.takes;
})
hope_more rule count item n ts is e (inr ((runs, same, few, stuck), none)) =
    let run = taken_run rule count item.offset item.token n e in
    inr (
      (
        run.0 ∷ runs,
        ap (λ (t : Token). t ∷ ts) run.1 ∙ ap (λ (more : List Token). Run run.0 ∷ more) same,
        omega arith,
        λ m low high. stuck m (omega arith) high,
      ),
      none_behind rule count item n ts is e none,
    )

number_then : (rule : ListRule) (count end : ℕ) (item : Item) (items : List Item) (n : ℤ) → IsToken item.token →
    entry rule count item.offset item.token ≡ Ok (Some n) →
    Outcome (entries_reader rule (count + 1)) (EntriesHope rule (count + 1)) (rest_at items end) →
    Outcome (entries_reader rule count) (EntriesHope rule count) (rest_at (item ∷ items) end)
number_then rule count end item items n is e (Took front left ns split takes) =
    Took (item ∷ front) left (n ∷ ns) (ap (λ (xs : List Item). item ∷ xs) split)
    (number_takes rule count item n (tokens front) ns left is e takes)
number_then rule count end item items n is e (Faulty front back f kind split bad faults hope brace) =
    Faulty (item ∷ front) back f kind (ap (λ (xs : List Item). item ∷ xs) split) bad
    (faults_more (entries_reader rule count) item.token (tokens front) f.token kind
    (λ o others ys other end same later is_f. number_here rule count item o (others ++ other ∷ ys) end n _ is e same
    (faults others ys other end later is_f)))
    (hope_more rule count item n (tokens front) is e hope)
    (λ missing. hope_more rule count item n (tokens front ++ Open ∷ []) is e (brace missing))
number_then rule count end item items n is e (Wants w hope) =
    Wants (number_here rule count item item items end n _ is e refl w)
    (hope_more rule count item n (tokens items) is e hope)

entries_outcome : (rule : ListRule) (count : ℕ) (items : List Item) (end : ℕ) →
    IsBetween rule.low rule.high (pos 0) → count ≤ rule.limit →
    Outcome (entries_reader rule count) (EntriesHope rule count) (rest_at items end)
unfolding entries_at
entries_outcome rule count [] end between few = Wants refl (hope_here rule count between few)
entries_outcome rule count (item ∷ items) end between few = cases (bad_or_token item.token)
    (entry rule count item.offset item.token) refl (entries_outcome rule (count + 1) items end between)
  where
    no_brace : TakesBrace (entry rule count) → ⊥
    no_brace taken = let refused = taken.1 in cc

    cases : (item.token ≡ Bad) ⊎ IsToken item.token → (r : Result (Option ℤ) ScriptFault) →
        entry rule count item.offset item.token ≡ r → (count + 1 ≤ rule.limit →
        Outcome (entries_reader rule (count + 1)) (EntriesHope rule (count + 1)) (rest_at items end)) →
        Outcome (entries_reader rule count) (EntriesHope rule count) (rest_at (item ∷ items) end)
    cases (inl bad) r e later = Faulty [] items item BadByte refl (λ _. bad, λ _. refl)
        (faults_here (entries_reader rule count) item.token BadByte
        (λ ys other end same. entries_fault rule count end other ys _
        (next_bad (entry rule count) other ys end (same ∙ bad))))
        (hope_here rule count between few) (λ missing. absurd cc)
    cases (inr is) (Err f) e later = Faulty [] items item f.kind refl
        (other_kind (entry rule count) item.offset item.token f (entry_steady rule count) is e)
        (faults_here (entries_reader rule count) item.token f.kind
        (λ ys other end same. entries_fault rule count end other ys _
        (next_there (entry rule count) item other ys end (Err f) (entry_steady rule count) is same e)))
        (hope_here rule count between few)
        (λ missing. absurd (no_brace (takes_brace (entry rule count) item.offset item.token f (entry_steady rule count)
        e missing)))
    cases (inr is) (Ok None) e later = Took (item ∷ []) items [] refl (end_takes rule count item items is e)
    cases (inr is) (Ok (Some n)) e later =
        let run = taken_run rule count item.offset item.token n e in
        number_then rule count end item items n is e (later (omega (arith, run.2)))

-- ---- lists

-- the tokens end within the numbers of a list, and no more make it complete
abbrev pub ListFull : ListRule → List Token → Type 0
ListFull rule ts = (runs : List (List ℕ)) × (ts ≡ Open ∷ map Run runs) × (length runs ≤ rule.limit) ×
    IsStuck rule (length runs)

-- a list of zeros can be had
pub record IsPossible (rule : ListRule) : Type 0 where
  pub zero : IsBetween rule.low rule.high (pos 0)
  pub count : ℕ
  pub fits : count ≤ rule.limit
  pub complete : is_complete rule.count count ≡ true

-- what follows the first token of a list
abbrev opened_reader : ListRule → Option (List ℤ) → Reader (List ℤ)
opened_reader rule opened rest = elim opened [
  | None ↦ entries_at rule 0 rest.end rest.items
  | Some numbers ↦ Ok (numbers, rest)
]

-- what is full behind the first token of a list
abbrev OpenedFull : ListRule → Option (List ℤ) → List Token → Type 0
OpenedFull rule None ts = EntriesFull rule 0 ts
OpenedFull rule (Some numbers) ts = ⊥

opened_hope : (rule : ListRule) → IsPossible rule → (ts : List Token) → EntriesHope rule 0 ts →
    Hope (EntriesFull rule 0) (entries_reader rule 0) (even (entries_room rule)) ts
opened_hope rule possible [] (inl c) = c
opened_hope rule possible (t ∷ ts) (inl c) = inl c
opened_hope rule possible [] (inr ((r ∷ runs, same, few, stuck), none)) = absurd cc
opened_hope rule possible [] (inr (([], same, few, stuck), none)) =
    let unfinished : is_complete rule.count possible.count ≡ false = stuck possible.count (omega arith) possible.fits in
    let finished : is_complete rule.count possible.count ≡ true = possible.complete in
    absurd cc
opened_hope rule possible (t ∷ ts) (inr full) = inr full

opened_outcome : (rule : ListRule) (opened : Option (List ℤ)) (items : List Item) (end : ℕ) → IsPossible rule →
    Goes (OpenedFull rule opened) (opened_reader rule opened) (even (entries_room rule)) (rest_at items end)
opened_outcome rule None items end possible =
    other_hope (entries_reader rule 0) (EntriesHope rule 0)
    (Hope (EntriesFull rule 0) (entries_reader rule 0) (even (entries_room rule))) (rest_at items end)
    (opened_hope rule possible) (entries_outcome rule 0 items end possible.zero (omega arith))
opened_outcome rule (Some numbers) items end possible = done_outcome _ numbers items end

-- what a reader of one token took is one token
pub shorter : (ts : List Token) (left : List Item) (item : Item) → as_items ts ++ left ≡ item ∷ left →
    ts ≡ item.token ∷ []
shorter [] left item e = absurd (omega (arith, ap (λ (xs : List Item). length xs) e))
shorter (t ∷ ts) left item e =
    let first : t ≡ item.token = cc in
    let later : as_items ts ++ left ≡ left = cc in
    ap (λ (more : List Token). t ∷ more) (none ts left later) ∙ ap (λ (t : Token). t ∷ []) first
  where
    none : (ts : List Token) (left : List Item) → as_items ts ++ left ≡ left → ts ≡ []
    none [] left e = refl
    none (t ∷ ts) left e = absurd (omega (
      arith,
      length-append (as_items (t ∷ ts)) left,
      ap (λ (xs : List Item). length xs) e,
    ))

pub took_one : {A : Type 0} (judge : Judge A) (ts : List Token) (x : A) (left : List Item) →
    TakesAs (next_at judge) ts x left → (item : Item) × (ts ≡ item.token ∷ []) × (judge item.offset item.token ≡ Ok x)
took_one judge ts x left takes =
    let n = next_takes judge (rest_at (as_items ts ++ left) 0) (rest_at left 0) x
    (takes (as_items ts) left 0 (tokens_as ts) (inl refl)) in
    (n.0, shorter ts left n.0 n.1, n.3)

open_token : (tables : Environment) (rule : ListRule) (offset : ℕ) (token : Token) →
    opening tables rule offset token ≡ Ok None → token ≡ Open
open_token None rule offset Open e = refl
open_token None rule offset Close e = absurd cc
open_token None rule offset Bad e = absurd cc
open_token None rule offset (Run run) e = absurd cc
open_token (Some tables) rule offset Open e = refl
open_token (Some tables) rule offset Close e = absurd cc
open_token (Some tables) rule offset Bad e = absurd cc
open_token (Some tables) rule offset (Run run) e =
    let b = bind_ok (or_fault offset _ (numbers_of tables run)) _ None e in
    let m = bind_ok (judged rule 0 offset b.0) _ None b.2 in
    absurd (let named = m.2 in cc)

list_passes : (tables : Environment) (rule : ListRule) (opened : Option (List ℤ)) (ts ts2 : List Token)
    (left : List Item) → TakesAs (next_at (opening tables rule)) ts opened left → OpenedFull rule opened ts2 →
    ListFull rule (ts ++ ts2)
list_passes tables rule (Some numbers) ts ts2 left takes full = absurd full
list_passes tables rule None ts ts2 left takes (runs, same, few, stuck) =
    let one = took_one (opening tables rule) ts None left takes in
    let brace = open_token tables rule one.0.offset one.0.token one.2 in (
      runs,
      ap (λ (more : List Token). more ++ ts2) (one.1 ∙ ap (λ (t : Token). t ∷ []) brace) ∙
          ap (λ (more : List Token). Open ∷ more) same,
      omega arith,
      λ n low high. stuck n (omega arith) high,
    )

-- the room that a list may want
abbrev pub list_room : ListRule → ℕ
list_room rule = 2 * rule.limit + 4

pub list_outcome : (tables : Environment) (rule : ListRule) (items : List Item) (end : ℕ) → IsPossible rule →
    Goes (ListFull rule) (list_at tables rule) (even (list_room rule)) (rest_at items end)
unfolding list_at
list_outcome tables rule items end possible =
    then_full (next_at (opening tables rule)) (opened_reader rule) (λ _. ⊥) (OpenedFull rule) (ListFull rule) (even 2)
    (even (entries_room rule)) (even (list_room rule)) items end
    (record { empty = omega arith; most = omega arith; later = omega arith })
    (λ ts h. absurd h) (list_passes tables rule)
    (next_outcome (λ _. ⊥) (opening tables rule) 2 (opening_steady tables rule) (opening_accepted tables rule) items
    end)
    (λ opened ts left end takes. opened_outcome rule opened left end possible)

-- a list that can be ended whatever numbers it has
pub record IsEasy (rule : ListRule) : Type 0 where
  pub zero : IsBetween rule.low rule.high (pos 0)
  pub complete : is_complete rule.count rule.limit ≡ true

pub easy_list : (full : List Token → Type 0) (tables : Environment) (rule : ListRule) (items : List Item) (end : ℕ) →
    IsEasy rule → Goes full (list_at tables rule) (even (list_room rule)) (rest_at items end)
easy_list full tables rule items end easy =
    other_hope (list_at tables rule) (Hope (ListFull rule) (list_at tables rule) (even (list_room rule)))
    (Hope full (list_at tables rule) (even (list_room rule))) (rest_at items end) never
    (list_outcome tables rule items end
    (record { zero = easy.zero; count = rule.limit; fits = omega arith; complete = easy.complete }))
  where
    never : (ts : List Token) → Hope (ListFull rule) (list_at tables rule) (even (list_room rule)) ts →
        Hope full (list_at tables rule) (even (list_room rule)) ts
    never [] c = c
    never (t ∷ ts) (inl c) = inl c
    never (t ∷ ts) (inr ((runs, same, few, stuck), none)) =
        let unfinished : is_complete rule.count rule.limit ≡ false = stuck rule.limit few (omega arith) in
        let finished : is_complete rule.count rule.limit ≡ true = easy.complete in
        absurd cc
