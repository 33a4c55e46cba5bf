-- A list of numbers: what is read is written so, and what is written so is read.
use Rattle.std.proofs.Common.{◌≡◌, ℕ, suc, ℤ, ◌+◌, ◌<◌, ◌≤◌, true, false, List, [], ◌∷◌, ◌++◌, length, map, Option}
use Rattle.std.proofs.Common.{Some, None, Ok, refl, ap, subst, ◌∙◌, append-nil, arith}
use Rattle.std.specs.Prelude.{⊤, nat_le}
use Rattle.std.specs.List.{AllByRecursion}
use Rattle.std.proofs.lemmas.Bool.Decides.{nat_tests}
use Rattle.dsp_defs.specs.declared.list_rule.ListRule.{ListRule}
use Rattle.dsp_defs.specs.Token.{Token, Open, Close, Run, Bad, Item, Rest}
use Rattle.dsp_defs.specs.Numeral.{value_of}
use Rattle.dsp_defs.specs.Parameters.{IsBetween, IsWithin, is_complete}
use Rattle.dsp_defs.specs.Tables.{Named, numbers_of}
use Rattle.dsp_defs.specs.Grammar.{Symbol, Numeral, OpenBrace, CloseBrace, Whole, IsWritten, unwritten}
use Rattle.dsp_defs.specs.Places.{◌>>=◌, or_fault, next_number, list_end, judged, Environment, next_at, opening}
use Rattle.dsp_defs.specs.Places.{entry, entries_at, list_at}
use Rattle.dsp_script.proofs.Steps.{bind_ok, read_to, or_fault_ok, passed, refused, pair, pair_is, ok_is, is_between}
use Rattle.dsp_script.proofs.Steps.{between_is, between_again, next_takes, next_again, IsOne, numerals_one}
use Rattle.dsp_script.proofs.Steps.{written_number, written_close, written_open, Strips, Strips-any, Takes}
use Rattle.dsp_script.proofs.Tokens.{IsToken}

-- ---- one number, and the end

next_is : (rule : ListRule) (count offset : ℕ) (n m : ℤ) → next_number rule count offset n ≡ Ok m → (n ≡ m) ×
    IsBetween rule.low rule.high n × (count < rule.limit)
next_is rule count offset n m e =
    let g = refused (nat_le rule.limit count) _ _ m e in
    let between = passed (is_between rule.low rule.high n) _ n m g.1 in
    (between.1, between_is rule.low rule.high n between.0, grind (arith, nat_tests))

next_read : (rule : ListRule) (count offset : ℕ) (n : ℤ) → IsBetween rule.low rule.high n → count < rule.limit →
    next_number rule count offset n ≡ Ok n
next_read rule count offset n between room =
    let more : nat_le rule.limit count ≡ false = grind (arith, nat_tests) in
    rw (more, between_again rule.low rule.high n between) refl

-- numbers that a list may have, after count of them, up to its end
pub record IsRest (rule : ListRule) (count : ℕ) (numbers : List ℤ) : Type 0 where
  pub each : AllByRecursion (IsBetween rule.low rule.high) numbers
  pub complete : is_complete rule.count (count + length numbers) ≡ true
  pub room : count ≤ rule.limit → count + length numbers ≤ rule.limit

rest_end : (rule : ListRule) (count : ℕ) → is_complete rule.count count ≡ true → IsRest rule count []
rest_end rule count complete = record {
  each = tt;
  complete = let none : count + 0 ≡ count = omega arith in rw none complete;
  room = λ h. omega arith;
}

rest_more : (rule : ListRule) (count : ℕ) (n : ℤ) (numbers : List ℤ) → IsBetween rule.low rule.high n →
    count < rule.limit → IsRest rule (count + 1) numbers → IsRest rule count (n ∷ numbers)
rest_more rule count n numbers between room more = record {
  each = (between, more.each);
  complete = let one : count + suc (length numbers) ≡ (count + 1) + length numbers = omega arith in
      rw one more.complete;
  room = λ h. omega (arith, room, more.room (omega (arith, room)));
}

rest_within : (rule : ListRule) (numbers : List ℤ) → IsRest rule 0 numbers → IsWithin rule numbers
rest_within rule numbers m =
    let zero-add : 0 + length numbers ≡ length numbers = omega arith in
    record { each = m.each; count = rw zero-add at m.complete; limit = omega (arith, m.room (omega arith)) }

judged_is : (rule : ListRule) (count offset : ℕ) (numbers : List ℤ) (x : ⊤) →
    judged rule count offset numbers ≡ Ok x → IsRest rule count numbers
unfolding judged
judged_is rule count offset [] x e = rest_end rule count (passed (is_complete rule.count count) _ tt x e).0
judged_is rule count offset (n ∷ numbers) x e =
    let b = bind_ok (next_number rule count offset n) _ x e in
    let is = next_is rule count offset n b.0 b.1 in
    rest_more rule count n numbers is.1 is.2 (judged_is rule (count + 1) offset numbers x b.2)

judged_read : (rule : ListRule) (count offset : ℕ) (numbers : List ℤ) →
    AllByRecursion (IsBetween rule.low rule.high) numbers → is_complete rule.count (count + length numbers) ≡ true →
    count + length numbers ≤ rule.limit → judged rule count offset numbers ≡ Ok tt
unfolding judged
judged_read rule count offset [] each complete room =
    let none : count + 0 ≡ count = omega arith in
    rw (rw none at complete) refl
judged_read rule count offset (n ∷ numbers) each complete room =
    let one : count + suc (length numbers) ≡ (count + 1) + length numbers = omega arith in
    rw (next_read rule count offset n each.0 (omega arith))
    (judged_read rule (count + 1) offset numbers each.1 (rw one at complete) (omega arith))

-- ---- lists in braces

-- a number that the list may have next
record IsNext (tables : List Named) (rule : ListRule) (count : ℕ) (token : Token) (n : ℤ) : Type 0 where
  written : IsWritten tables token (Numeral n)
  between : IsBetween rule.low rule.high n
  room : count < rule.limit

-- what the next token of the list is
abbrev Entered : List Named → ListRule → ℕ → Token → Option ℤ → Type 0
Entered tables rule count token None = (token ≡ Close) × (is_complete rule.count count ≡ true)
Entered tables rule count token (Some n) = IsNext tables rule count token n

entered : (tables : List Named) (rule : ListRule) (count offset : ℕ) (token : Token) (x : Option ℤ) →
    entry rule count offset token ≡ Ok x → Entered tables rule count token x
entered tables rule count offset Open x e = absurd cc
entered tables rule count offset Bad x e = absurd cc
entered tables rule count offset Close x e =
    let b = bind_ok (list_end rule count offset) _ x e in
    let P : Option ℤ → Type 0 = Entered tables rule count Close in
    subst P (ok_is None x b.2) (refl, (passed (is_complete rule.count count) _ tt b.0 b.1).0)
entered tables rule count offset (Run run) x e =
    let b = bind_ok (or_fault offset _ (value_of run)) _ x e in
    let m = bind_ok (next_number rule count offset b.0) _ x b.2 in
    let n = next_is rule count offset b.0 m.0 m.1 in
    let fact : IsNext tables rule count (Run run) b.0 = record {
      written = or_fault_ok offset _ (value_of run) b.0 b.1;
      between = n.1;
      room = n.2;
    } in
    let P : Option ℤ → Type 0 = Entered tables rule count (Run run) in
    subst P (ok_is (Some b.0) x m.2) fact

-- the numbers that were read, after count of them
pub record IsEntries (tables : List Named) (rule : ListRule) (count end : ℕ) (items : List Item) (numbers : List ℤ)
    (after : Rest) : Type 0 where
  pub strips : Strips tables items (map Numeral numbers ++ CloseBrace ∷ []) after.items
  end_same : end ≡ after.end
  pub rest : IsRest rule count numbers

entries_end : (tables : List Named) (rule : ListRule) (count end : ℕ) (item : Item) (after : Rest) → end ≡ after.end →
    item.token ≡ Close → is_complete rule.count count ≡ true →
    IsEntries tables rule count end (item ∷ after.items) [] after
entries_end tables rule count end item after e is complete = record {
  strips = (rw is tt, refl);
  end_same = e;
  rest = rest_end rule count complete;
}

entries_more : (tables : List Named) (rule : ListRule) (count end : ℕ) (item : Item) (items : List Item) (n : ℤ)
    (numbers : List ℤ) (after : Rest) → IsNext tables rule count item.token n →
    IsEntries tables rule (count + 1) end items numbers after →
    IsEntries tables rule count end (item ∷ items) (n ∷ numbers) after
entries_more tables rule count end item items n numbers after next more = record {
  strips = (next.written, more.strips);
  end_same = more.end_same;
  rest = rest_more rule count n numbers next.between next.room more.rest;
}

pub entries_take : (tables : List Named) (rule : ListRule) (count end : ℕ) (items : List Item) (numbers : List ℤ)
    (after : Rest) → entries_at rule count end items ≡ Ok (numbers, after) →
    IsEntries tables rule count end items numbers after
unfolding entries_at
entries_take tables rule count end [] numbers after e = absurd cc
entries_take tables rule count end (item ∷ items) numbers after e =
    let a = bind_ok (next_at (entry rule count) (record { items = item ∷ items; end = end })) _ (numbers, after) e in
    let t = next_takes (entry rule count) (record { items = item ∷ items; end = end }) a.0.1 a.0.0 a.1 in
    let first : item ≡ t.0 = cc in
    let others : items ≡ a.0.1.items = cc in
    cases a.0.0 a.0.1 (rw (← first) at (entered tables rule count t.0.offset t.0.token a.0.0 t.3)) others t.2 a.2
    (λ ns. entries_take tables rule (count + 1) end items ns after)
  where
    cases : (x : Option ℤ) (r : Rest) → Entered tables rule count item.token x → items ≡ r.items → end ≡ r.end
        → elim x [
          | None ↦ Ok ([], r)
          | Some n ↦ (entries_at rule (count + 1) end items >>= λ more. Ok
              (n ∷ more.0, more.1))
        ] ≡ pair numbers after
        → ((ns : List ℤ) → entries_at rule (count + 1) end items ≡ Ok (ns, after) →
        IsEntries tables rule (count + 1) end items ns after) →
        IsEntries tables rule count end (item ∷ items) numbers after
    cases None r is same end_same h later =
        let p = pair_is [] numbers r after h in
        rw (← p.0, ← p.1, same) (entries_end tables rule count end item r end_same is.0 is.1)
    cases (Some n) r is same end_same h later =
        let b = bind_ok (entries_at rule (count + 1) end items) _ (numbers, after) h in
        let p = pair_is (n ∷ b.0.0) numbers b.0.1 after b.2 in
        let read : entries_at rule (count + 1) end items ≡ pair b.0.0 after =
        read_to (entries_at rule (count + 1) end items) b.0 after b.1 p.1 in
        rw (← p.0) (entries_more tables rule count end item items n b.0.0 after is (later b.0.0 read))

number_next : (tables : List Named) (rule : ListRule) (count offset : ℕ) (token : Token) (n : ℤ) →
    IsWritten tables token (Numeral n) → IsBetween rule.low rule.high n → count < rule.limit → IsToken token ×
    (entry rule count offset token ≡ Ok (Some n))
number_next tables rule count offset token n w between room =
    let run = written_number tables token n w in
    (rw run.1 tt, rw (run.1, run.2, next_read rule count offset n between room) refl)

close_next : (tables : List Named) (rule : ListRule) (count offset : ℕ) (token : Token) →
    IsWritten tables token CloseBrace → is_complete rule.count count ≡ true → IsToken token ×
    (entry rule count offset token ≡ Ok None)
close_next tables rule count offset token w complete =
    let close = written_close tables token w in
    (rw close tt, rw (close, complete) refl)

entries_read : (tables : List Named) (rule : ListRule) (count end : ℕ) (items : List Item) (numbers : List ℤ)
    (left : List Item) → Strips tables items (map Numeral numbers ++ CloseBrace ∷ []) left
    → AllByRecursion (IsBetween rule.low rule.high) numbers → is_complete rule.count (count + length numbers) ≡ true →
    count + length numbers ≤ rule.limit
    → entries_at rule count end items ≡ Ok (numbers, record { items = left; end = end })
unfolding entries_at
entries_read tables rule count end [] [] left h each complete room = absurd h
entries_read tables rule count end [] (n ∷ numbers) left h each complete room = absurd h
entries_read tables rule count end (item ∷ items) [] left h each complete room =
    let none : count + 0 ≡ count = omega arith in
    let c = close_next tables rule count item.offset item.token h.0 (rw none at complete) in
    rw (next_again (entry rule count) item items end None c.0 c.1)
    (ap (λ (xs : List Item). pair [] (record { items = xs; end = end })) h.1)
entries_read tables rule count end (item ∷ items) (n ∷ numbers) left h each complete room =
    let one : count + suc (length numbers) ≡ (count + 1) + length numbers = omega arith in
    let c = number_next tables rule count item.offset item.token n h.0 each.0 (omega arith) in
    let more = entries_read tables rule (count + 1) end items numbers left h.1 each.1 (rw one at complete)
    (omega arith) in
    rw (next_again (entry rule count) item items end (Some n) c.0 c.1, more) refl

-- ---- lists

-- the tables that a list may name
abbrev pub tables_in : Environment → List Named
tables_in None = []
tables_in (Some tables) = tables

-- what the first token of a list is
abbrev Opened : List Named → ListRule → Token → Option (List ℤ) → Type 0
Opened tables rule token None = token ≡ Open
Opened tables rule token (Some numbers) = (name : List ℕ) × (token ≡ Run name) ×
    (numbers_of tables name ≡ Some numbers) × IsWithin rule numbers

opened_brace : (tables : List Named) (rule : ListRule) (x : Option (List ℤ)) → None ≡ x → Opened tables rule Open x
opened_brace tables rule x e = let P : Option (List ℤ) → Type 0 = Opened tables rule Open in subst P e refl

opened : (environment : Environment) (rule : ListRule) (offset : ℕ) (token : Token) (x : Option (List ℤ)) →
    opening environment rule offset token ≡ Ok x → Opened (tables_in environment) rule token x
opened None rule offset Open x e = opened_brace [] rule x (ok_is None x e)
opened None rule offset Close x e = absurd cc
opened None rule offset Bad x e = absurd cc
opened None rule offset (Run name) x e = absurd cc
opened (Some tables) rule offset Open x e = opened_brace tables rule x (ok_is None x e)
opened (Some tables) rule offset Close x e = absurd cc
opened (Some tables) rule offset Bad x e = absurd cc
opened (Some tables) rule offset (Run name) x e =
    let b = bind_ok (or_fault offset _ (numbers_of tables name)) _ x e in
    let j = bind_ok (judged rule 0 offset b.0) _ x b.2 in
    let P : Option (List ℤ) → Type 0 = Opened tables rule (Run name) in
    subst P (ok_is (Some b.0) x j.2) (
      name,
      refl,
      or_fault_ok offset _ (numbers_of tables name) b.0 b.1,
      rest_within rule b.0 (judged_is rule 0 offset b.0 j.0 j.1),
    )

pub list_takes : (environment : Environment) (rule : ListRule) (rest after : Rest) (numbers : List ℤ) →
    list_at environment rule rest ≡ Ok (numbers, after) →
    Takes (tables_in environment) rest after (Whole numbers ∷ []) × IsWithin rule numbers
unfolding list_at
list_takes environment rule rest after numbers e =
    let b = bind_ok (next_at (opening environment rule) rest) _ (numbers, after) e in
    let t = next_takes (opening environment rule) rest b.0.1 b.0.0 b.1 in
    cases b.0.0 b.0.1 t.0 t.1 t.2 (opened environment rule t.0.offset t.0.token b.0.0 t.3) b.2
  where
    cases : (x : Option (List ℤ)) (r : Rest) (item : Item) → rest.items ≡ item ∷ r.items → rest.end ≡ r.end →
        Opened (tables_in environment) rule item.token x
        → elim x [ None ↦ entries_at rule 0 r.end r.items | Some ns ↦ Ok (ns, r) ] ≡ pair numbers after →
        Takes (tables_in environment) rest after (Whole numbers ∷ []) × IsWithin rule numbers
    cases None r item first end is h =
        let m = entries_take (tables_in environment) rule 0 r.end r.items numbers after h in (
          record {
            strips = rw (first, is, append-nil (map Numeral numbers ++ CloseBrace ∷ [])) (tt, m.strips);
            end =
                end ∙ m.end_same;
          },
          rest_within rule numbers m.rest,
        )
    cases (Some ns) r item first end is h =
        let p = pair_is ns numbers r after h in (
          record {
            strips = rw (first, is.1) (is.2 ∙ ap Some p.0, ap (λ (x : Rest). x.items) p.1);
            end = end ∙
                ap (λ (x : Rest). x.end) p.1;
          },
          rw p.0 at is.3,
        )

within_end : (rule : ListRule) (numbers : List ℤ) → IsWithin rule numbers →
    (is_complete rule.count (0 + length numbers) ≡ true) × (0 + length numbers ≤ rule.limit)
within_end rule numbers fits = let zero-add : 0 + length numbers ≡ length numbers = omega arith in
    (rw zero-add fits.count, omega (arith, fits.limit))

opened_again : (environment : Environment) (rule : ListRule) (numbers : List ℤ) (offset : ℕ) (name : List ℕ) →
    IsWithin rule numbers → numbers_of (tables_in environment) name ≡ Some numbers →
    opening environment rule offset (Run name) ≡ Ok (Some numbers)
unfolding numbers_of
opened_again None rule numbers offset name fits h = absurd cc
opened_again (Some tables) rule numbers offset name fits h = let w = within_end rule numbers fits in
    rw (h, judged_read rule 0 offset numbers fits.each w.0 w.1) refl

opened_none : (environment : Environment) (rule : ListRule) (offset : ℕ) →
    opening environment rule offset Open ≡ Ok None
opened_none None rule offset = refl
opened_none (Some tables) rule offset = refl

list_at_item : (environment : Environment) (rule : ListRule) (numbers : List ℤ) (offset : ℕ) (token : Token)
    (items left : List Item) (end : ℕ) → IsWithin rule numbers →
    IsWritten (tables_in environment) token (Whole numbers) →
    Strips (tables_in environment) items (unwritten (Whole numbers) token ++ []) left
    → list_at environment rule (record { items = record { offset = offset; token = token } ∷ items; end = end }) ≡ Ok
    (numbers, record { items = left; end = end })
unfolding list_at
list_at_item environment rule numbers offset Close items left end fits written h = absurd written
list_at_item environment rule numbers offset Bad items left end fits written h = absurd written
list_at_item environment rule numbers offset (Run name) items left end fits written h =
    rw (
      next_again (opening environment rule) (record { offset = offset; token = Run name }) items end (Some numbers)
          tt (opened_again environment rule numbers offset name fits written),
      h,
    ) refl
list_at_item environment rule numbers offset Open items left end fits written h =
    let w = within_end rule numbers fits in
    let more = entries_read (tables_in environment) rule 0 end items numbers left
    (rw (append-nil (map Numeral numbers ++ CloseBrace ∷ [])) at h) fits.each w.0 w.1 in
    rw (next_again (opening environment rule) (record { offset = offset; token = Open }) items end None tt
    (opened_none environment rule offset)) more

pub list_read : (environment : Environment) (rule : ListRule) (numbers : List ℤ) (items left : List Item) (end : ℕ) →
    IsWithin rule numbers → Strips (tables_in environment) items (Whole numbers ∷ []) left →
    list_at environment rule (record { items = items; end = end }) ≡ Ok (numbers, record { items = left; end = end })
list_read environment rule numbers [] left end fits h = absurd h
list_read environment rule numbers (item ∷ items) left end fits h =
    list_at_item environment rule numbers item.offset item.token items left end fits h.0 h.1

-- ---- lists that no name may stand for

abbrev pub braced : List ℤ → List Symbol
braced numbers = OpenBrace ∷ map Numeral numbers ++ CloseBrace ∷ []

pub braced_one : (numbers : List ℤ) → AllByRecursion IsOne (braced numbers)
braced_one numbers = (tt, numerals_one numbers (CloseBrace ∷ []) (tt, tt))

unnamed : (token : Token) (numbers : List ℤ) → IsWritten [] token (Whole numbers) → token ≡ Open
unfolding numbers_of
unnamed Open numbers h = refl
unnamed Close numbers h = absurd h
unnamed Bad numbers h = absurd h
unnamed (Run name) numbers h = absurd cc

whole_braced : (items left : List Item) (numbers : List ℤ) → Strips [] items (Whole numbers ∷ []) left →
    Strips [] items (braced numbers) left
whole_braced [] left numbers h = absurd h
whole_braced (item ∷ items) left numbers h =
    let is = unnamed item.token numbers h.0 in
    rw is (tt, rw (is, append-nil (map Numeral numbers ++ CloseBrace ∷ [])) at h.1)

braced_whole : (items left : List Item) (numbers : List ℤ) → Strips [] items (braced numbers) left →
    Strips [] items (Whole numbers ∷ []) left
braced_whole [] left numbers h = absurd h
braced_whole (item ∷ items) left numbers h =
    let is = written_open [] item.token h.0 in
    rw (is, append-nil (map Numeral numbers ++ CloseBrace ∷ [])) (tt, h.1)

pub braced_takes : (tables : List Named) (rule : ListRule) (rest after : Rest) (numbers : List ℤ) →
    list_at None rule rest ≡ Ok (numbers, after) → Takes tables rest after (braced numbers) × IsWithin rule numbers
braced_takes tables rule rest after numbers e =
    let t = list_takes None rule rest after numbers e in (
      record {
        strips = Strips-any [] tables rest.items (braced numbers) after.items (braced_one numbers)
            (whole_braced rest.items after.items numbers t.0.strips);
        end = t.0.end;
      },
      t.1,
    )

pub braced_read : (tables : List Named) (rule : ListRule) (numbers : List ℤ) (items left : List Item) (end : ℕ) →
    IsWithin rule numbers → Strips tables items (braced numbers) left →
    list_at None rule (record { items = items; end = end }) ≡ Ok (numbers, record { items = left; end = end })
braced_read tables rule numbers items left end fits h =
    list_read None rule numbers items left end fits (braced_whole items left numbers
    (Strips-any tables [] items (braced numbers) left (braced_one numbers) h))
