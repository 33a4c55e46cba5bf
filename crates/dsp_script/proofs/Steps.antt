-- One token: what a reader takes is written so, and what is written so is taken.
use Rattle.std.proofs.Common.{◌≡◌, ◌≢◌, ℕ, ℤ, pos, ◌≤◌, Bool, true, false, cond, List, [], ◌∷◌, ◌++◌, map, Option}
use Rattle.std.proofs.Common.{Some, None, Result, Ok, Err, refl, sym, ap, subst, ◌∙◌, append_assoc, arith}
use Rattle.std.specs.Prelude.{⊤, find, unsigned_abs, ◌&&◌, int_le}
use Rattle.std.specs.Str.{bytes_eq}
use Rattle.std.specs.List.{AllByRecursion}
use Rattle.std.proofs.lemmas.Int.{ints}
use Rattle.std.proofs.lemmas.Slice.Eq.{bytes_eq-Decides}
use Rattle.dsp_defs.specs.declared.script_fault.ScriptFault.{ScriptFault}
use Rattle.dsp_defs.specs.declared.script_fault.ScriptKind.{ScriptKind}
use Rattle.dsp_defs.specs.declared.format.Fmt.{Fmt}
use Rattle.dsp_defs.specs.declared.format.Fmt.TheVariants.{Q7, Q15, Q31}
use Rattle.dsp_defs.specs.Token.{Token, Open, Close, Run, Bad, Item, Rest}
use Rattle.dsp_defs.specs.Numeral.{value_of}
use Rattle.dsp_defs.specs.Tables.{Named}
use Rattle.dsp_defs.specs.Table.{by_name, every_format, format_name}
use Rattle.dsp_defs.specs.Parameters.{IsBetween}
use Rattle.dsp_defs.specs.Grammar.{Symbol, Name, Numeral, OpenBrace, CloseBrace, Whole, IsWritten, unwritten, Spells}
use Rattle.dsp_defs.specs.Places.{◌>>=◌, or_fault, first_of, Judge, next_at, meaning_of, choice, named, begins_with}
use Rattle.dsp_defs.specs.Places.{number, natural_at, conversion}
use Rattle.dsp_script.proofs.Names.{format_again}
use Rattle.dsp_script.proofs.Tokens.{IsToken}
use Rattle.dsp_shape.proofs.Paces.{both_true}

-- ---- results

pub bind_ok : {A B : Type 0} (r : Result A ScriptFault) (f : A → Result B ScriptFault) (y : B) → (r >>= f) ≡ Ok y →
    (x : A) × (r ≡ Ok x) × (f x ≡ Ok y)
bind_ok (Ok x) f y e = (x, refl, e)
bind_ok (Err d) f y e = absurd cc

abbrev done : {A : Type 0} → A → Result A ScriptFault
done x = Ok x

pub ok_is : {A : Type 0} (x y : A) → done x ≡ done y → x ≡ y
ok_is x y e = cc

pub or_fault_ok : {A : Type 0} (offset : ℕ) (kind : ScriptKind) (o : Option A) (x : A) →
    or_fault offset kind o ≡ Ok x → o ≡ Some x
or_fault_ok offset kind (Some y) x e = ap Some (ok_is y x e)
or_fault_ok offset kind None x e = absurd cc

-- a test that did not fail
pub passed : {A : Type 0} (b : Bool) (d : ScriptFault) (x y : A) → cond b (Ok x) (Err d) ≡ Ok y → (b ≡ true) × (x ≡ y)
passed true d x y e = (refl, ok_is x y e)
passed false d x y e = absurd cc

-- a test that did not refuse
pub refused : {A : Type 0} (b : Bool) (d : ScriptFault) (r : Result A ScriptFault) (y : A) → cond b (Err d) r ≡ Ok y →
    (b ≡ false) × (r ≡ Ok y)
refused true d r y e = absurd cc
refused false d r y e = (refl, e)

-- a test that chose the first
pub chosen : {A : Type 0} (b : Bool) (r : Result A ScriptFault) (d : ScriptFault) (y : A) → cond b r (Err d) ≡ Ok y →
    (b ≡ true) × (r ≡ Ok y)
chosen true r d y e = (refl, e)
chosen false r d y e = absurd cc

-- ---- tokens

-- symbols are written at the front of the items, and these are left
abbrev pub Strips : List Named → List Item → List Symbol → List Item → Type 0
Strips tables items [] left = items ≡ left
Strips tables [] (symbol ∷ symbols) left = ⊥
Strips tables (item ∷ items) (symbol ∷ symbols) left = IsWritten tables item.token symbol ×
    Strips tables items (unwritten symbol item.token ++ symbols) left

pub Strips-append : (tables : List Named) (items : List Item) (xs ys : List Symbol) (between left : List Item) →
    Strips tables items xs between → Strips tables between ys left → Strips tables items (xs ++ ys) left
Strips-append tables items [] ys between left first then = rw first then
Strips-append tables [] (x ∷ xs) ys between left first then = absurd first
Strips-append tables (item ∷ items) (x ∷ xs) ys between left first then =
    let more = Strips-append tables items (unwritten x item.token ++ xs) ys between left first.1 then in (
      first.0,
      subst (λ (symbols : List Symbol). Strips tables items symbols left)
          (append_assoc (unwritten x item.token) xs ys) more,
    )

pub Strips-split : (tables : List Named) (items : List Item) (xs ys : List Symbol) (left : List Item) →
    Strips tables items (xs ++ ys) left → (between : List Item) × Strips tables items xs between ×
    Strips tables between ys left
Strips-split tables items [] ys left h = (items, refl, h)
Strips-split tables [] (x ∷ xs) ys left h = absurd h
Strips-split tables (item ∷ items) (x ∷ xs) ys left h =
    let same = sym (append_assoc (unwritten x item.token) xs ys) in
    let more = Strips-split tables items (unwritten x item.token ++ xs) ys left
    (subst (λ (symbols : List Symbol). Strips tables items symbols left) same h.1) in
    (more.0, (h.0, more.1), more.2)

pub Strips-from_spells : (tables : List Named) (items : List Item) (symbols : List Symbol) →
    Spells tables items symbols → Strips tables items symbols []
Strips-from_spells tables [] [] h = refl
Strips-from_spells tables [] (x ∷ xs) h = absurd h
Strips-from_spells tables (item ∷ items) [] h = absurd h
Strips-from_spells tables (item ∷ items) (x ∷ xs) h =
    (h.0, Strips-from_spells tables items (unwritten x item.token ++ xs) h.1)

pub spells_from_Strips : (tables : List Named) (items : List Item) (symbols : List Symbol) →
    Strips tables items symbols [] → Spells tables items symbols
spells_from_Strips tables [] [] h = tt
spells_from_Strips tables [] (x ∷ xs) h = absurd h
spells_from_Strips tables (item ∷ items) [] h = absurd cc
spells_from_Strips tables (item ∷ items) (x ∷ xs) h =
    (h.0, spells_from_Strips tables items (unwritten x item.token ++ xs) h.1)

-- a symbol that is written by one token
abbrev pub IsOne : Symbol → Type 0
IsOne (Whole numbers) = ⊥
IsOne symbol = Unit {0}

-- such symbols are written in one way, whatever the tables are
pub written_any : (tables others : List Named) (token : Token) (symbol : Symbol) → IsOne symbol →
    IsWritten tables token symbol → IsWritten others token symbol
written_any tables others (Run run) (Name name) one h = h
written_any tables others Open (Name name) one h = absurd h
written_any tables others Close (Name name) one h = absurd h
written_any tables others Bad (Name name) one h = absurd h
written_any tables others (Run run) (Numeral n) one h = h
written_any tables others Open (Numeral n) one h = absurd h
written_any tables others Close (Numeral n) one h = absurd h
written_any tables others Bad (Numeral n) one h = absurd h
written_any tables others (Run run) OpenBrace one h = absurd h
written_any tables others Open OpenBrace one h = tt
written_any tables others Close OpenBrace one h = absurd h
written_any tables others Bad OpenBrace one h = absurd h
written_any tables others (Run run) CloseBrace one h = absurd h
written_any tables others Open CloseBrace one h = absurd h
written_any tables others Close CloseBrace one h = tt
written_any tables others Bad CloseBrace one h = absurd h
written_any tables others token (Whole numbers) one h = absurd one

pub unwritten_one : (symbol : Symbol) (token : Token) → IsOne symbol → unwritten symbol token ≡ []
unwritten_one (Name name) token one = refl
unwritten_one (Numeral n) token one = refl
unwritten_one OpenBrace token one = refl
unwritten_one CloseBrace token one = refl
unwritten_one (Whole numbers) token one = absurd one

pub Strips-any : (tables others : List Named) (items : List Item) (symbols : List Symbol) (left : List Item) →
    AllByRecursion IsOne symbols → Strips tables items symbols left → Strips others items symbols left
Strips-any tables others items [] left one h = h
Strips-any tables others [] (x ∷ xs) left one h = absurd h
Strips-any tables others (item ∷ items) (x ∷ xs) left one h =
    let none : unwritten x item.token ++ xs ≡ xs = ap (λ (symbols : List Symbol). symbols ++ xs)
    (unwritten_one x item.token one.0) in (
      written_any tables others item.token x one.0 h.0,
      rw none
          (Strips-any tables others items xs left one.1 (rw none at h.1)),
    )

pub numerals_one : (numbers : List ℤ) (symbols : List Symbol) → AllByRecursion IsOne symbols →
    AllByRecursion IsOne (map Numeral numbers ++ symbols)
numerals_one [] symbols one = one
numerals_one (n ∷ numbers) symbols one = (tt, numerals_one numbers symbols one)

-- a reader went from here to there over the symbols
pub record Takes (tables : List Named) (rest after : Rest) (symbols : List Symbol) : Type 0 where
  pub strips : Strips tables rest.items symbols after.items
  pub end : rest.end ≡ after.end

pub Takes-then : {tables : List Named} {a b c : Rest} {xs ys : List Symbol} → Takes tables a b xs →
    Takes tables b c ys → Takes tables a c (xs ++ ys)
Takes-then {tables = tables} {a = a} {b = b} {c = c} {xs = xs} {ys = ys} p q = record {
  strips = Strips-append tables a.items xs ys b.items c.items p.strips q.strips;
  end = p.end ∙ q.end;
}

-- nothing was taken
pub Takes-none : (tables : List Named) (a b : Rest) → a ≡ b → Takes tables a b []
Takes-none tables a b same = record { strips = ap (λ (r : Rest). r.items) same; end = ap (λ (r : Rest). r.end) same }

abbrev pub pair : {A B : Type 0} → A → B → Result (A × B) ScriptFault
pair a b = Ok (a, b)

pub pair_is : {A B : Type 0} (a c : A) (b d : B) → pair a b ≡ pair c d → (a ≡ c) × (b ≡ d)
pair_is a c b d e = let p = ok_is (a, b) (c, d) e in (ap (λ (x : _ × _). x.0) p, ap (λ (x : _ × _). x.1) p)

-- what was read, where what is left has another name
pub read_to : {A : Type 0} (read : Result (A × Rest) ScriptFault) (x : A × Rest) (after : Rest) → read ≡ Ok x →
    x.1 ≡ after → read ≡ Ok (x.0, after)
read_to read (x, left) after e same = rw same at e

token_parts : (end : ℕ) (i : Item) (items : List Item) (item : Item) (after : Rest) →
    pair i (record { items = items; end = end }) ≡ pair item after → (i ∷ items ≡ item ∷ after.items) ×
    (end ≡ after.end)
token_parts end i items item after e =
    let p = pair_is i item (record { items = items; end = end }) after e in
    let left = ap (λ (r : Rest). r.items) p.1 in
    (cc, ap (λ (r : Rest). r.end) p.1)

first_takes : (end : ℕ) (items : List Item) (item : Item) (after : Rest) → first_of end items ≡ Ok (item, after) →
    (items ≡ item ∷ after.items) × (end ≡ after.end)
unfolding first_of
first_takes end [] item after e = absurd cc
first_takes end (i ∷ items) item after e =
    (elim i.token as (λ (t : Token). first_of end (record { offset = i.offset; token = t } ∷ items) ≡ Ok (item, after)
    → (record { offset = i.offset; token = t } ∷ items ≡ item ∷ after.items) × (end ≡ after.end)) [
      | Bad ↦ (λ h. absurd cc)
      | Open ↦ (λ h. token_parts end (record { offset = i.offset; token = Open }) items item after h)
      | Close ↦ (λ h. token_parts end (record { offset = i.offset; token = Close }) items item after h)
      | Run run ↦ (λ h. token_parts end (record { offset = i.offset; token = Run run }) items item after h)
    ]) e

pub next_takes : {A : Type 0} (judge : Judge A) (rest after : Rest) (x : A) → next_at judge rest ≡ Ok (x, after) →
    (item : Item) × (rest.items ≡ item ∷ after.items) × (rest.end ≡ after.end) × (judge item.offset item.token ≡ Ok x)
unfolding next_at
next_takes judge rest after x e =
    let a = bind_ok (first_of rest.end rest.items) _ (x, after) e in
    let b = bind_ok (judge a.0.0.offset a.0.0.token) _ (x, after) a.2 in
    let p = pair_is b.0 x a.0.1 after b.2 in
    let t = first_takes rest.end rest.items a.0.0 a.0.1 a.1 in
    (a.0.0, rw p.1 at t.0, rw p.1 at t.1, rw p.0 at b.1)

first_again : (end : ℕ) (item : Item) (items : List Item) → IsToken item.token →
    first_of end (item ∷ items) ≡ Ok (item, record { items = items; end = end })
unfolding first_of
first_again end item items is =
    (elim item.token as (λ (t : Token). IsToken t → first_of end (record { offset = item.offset; token = t } ∷ items)
    ≡ pair (record { offset = item.offset; token = t }) (record { items = items; end = end })) [
      | Bad ↦ (λ h. absurd h)
      | Open ↦ (λ h. refl)
      | Close ↦ (λ h. refl)
      | Run run ↦ (λ h. refl)
    ]) is

pub next_again : {A : Type 0} (judge : Judge A) (item : Item) (items : List Item) (end : ℕ) (x : A) →
    IsToken item.token → judge item.offset item.token ≡ Ok x →
    next_at judge (record { items = item ∷ items; end = end }) ≡ Ok (x, record { items = items; end = end })
unfolding next_at
next_again judge item items end x is e = rw (first_again end item items is, e) refl

-- ---- words

find_passes : {A : Type 0} (p : A → Bool) (xs : List A) (x : A) → find p xs ≡ Some x → p x ≡ true
find_passes p [] x e = absurd cc
find_passes p (y ∷ ys) x e = cases (p y) refl e (find_passes p ys x)
  where
    cases : (b : Bool) → p y ≡ b → cond b (Some y) (find p ys) ≡ Some x → (find p ys ≡ Some x → p x ≡ true) → p x ≡ true
    cases true h e later = let same : y ≡ x = cc in rw same at h
    cases false h e later = later e

pub named_is : (name run : List ℕ) (x : ⊤) → named name run ≡ Some x → run ≡ name
named_is name run x e = tested (bytes_eq run name) refl e
  where
    tested : (b : Bool) → bytes_eq run name ≡ b → cond b (Some tt) None ≡ Some x → run ≡ name
    tested true h e = (bytes_eq-Decides run name).0 h
    tested false h e = absurd cc

pub named_again : (name : List ℕ) → named name name ≡ Some tt
named_again name = rw ((bytes_eq-Decides name name).1 refl) refl

pub by_name_is : {A : Type 0} (name : A → List ℕ) (those : List A) (run : List ℕ) (x : A) →
    by_name name those run ≡ Some x → run ≡ name x
unfolding by_name
by_name_is name those run x e = (bytes_eq-Decides run (name x)).0 (find_passes (λ y. bytes_eq run (name y)) those x e)

-- a word that has a meaning is a run
meaning_run : {A : Type 0} (meaning : List ℕ → Option A) (token : Token) (x : A) →
    meaning_of meaning token ≡ Some x → (run : List ℕ) × (token ≡ Run run) × (meaning run ≡ Some x)
meaning_run meaning Open x e = absurd cc
meaning_run meaning Close x e = absurd cc
meaning_run meaning Bad x e = absurd cc
meaning_run meaning (Run run) x e = (run, refl, e)

pub choice_run : {A : Type 0} (meaning : List ℕ → Option A) (offset : ℕ) (token : Token) (x : A) →
    choice meaning offset token ≡ Ok x → (run : List ℕ) × (token ≡ Run run) × (meaning run ≡ Some x)
choice_run meaning offset token x e = meaning_run meaning token x (or_fault_ok offset _ (meaning_of meaning token) x e)

-- ---- readers of one token

pub one_taken : (tables : List Named) (rest after : Rest) (item : Item) (symbol : Symbol) → IsOne symbol →
    rest.items ≡ item ∷ after.items → rest.end ≡ after.end → IsWritten tables item.token symbol →
    Takes tables rest after (symbol ∷ [])
one_taken tables rest after item symbol one e end h =
    record { strips = rw (e, unwritten_one symbol item.token one) (h, refl); end = end }

pub word_takes : (tables : List Named) (name : List ℕ) (rest after : Rest) (x : ⊤) →
    next_at (choice (named name)) rest ≡ Ok (x, after) → Takes tables rest after (Name name ∷ [])
word_takes tables name rest after x e =
    let n = next_takes (choice (named name)) rest after x e in
    let run = choice_run (named name) n.0.offset n.0.token x n.3 in
    one_taken tables rest after n.0 (Name name) tt n.1 n.2 (rw run.1 (named_is name run.0 x run.2))

pub name_takes : {A : Type 0} (tables : List Named) (name : A → List ℕ) (those : List A) (rest after : Rest) (x : A) →
    next_at (choice (by_name name those)) rest ≡ Ok (x, after) → Takes tables rest after (Name (name x) ∷ [])
name_takes tables name those rest after x e =
    let n = next_takes (choice (by_name name those)) rest after x e in
    let run = choice_run (by_name name those) n.0.offset n.0.token x n.3 in
    one_taken tables rest after n.0 (Name (name x)) tt n.1 n.2 (rw run.1 (by_name_is name those run.0 x run.2))

-- low <= n <= high
abbrev pub is_between : (low high n : ℤ) → Bool
is_between low high n = int_le low n && int_le n high

pub between_is : (low high n : ℤ) → is_between low high n ≡ true → IsBetween low high n
between_is low high n e = let both = both_true (int_le low n) (int_le n high) e in
    (grind (arith, ints), grind (arith, ints))

pub number_takes : (tables : List Named) (low high : ℤ) (rest after : Rest) (n : ℤ) →
    next_at (number low high) rest ≡ Ok (n, after) → Takes tables rest after (Numeral n ∷ []) × IsBetween low high n
number_takes tables low high rest after n e =
    let t = next_takes (number low high) rest after n e in
    let b = bind_ok (or_fault t.0.offset _ (meaning_of value_of t.0.token)) _ n t.3 in
    let g = passed (is_between low high b.0) _ b.0 n b.2 in
    let run = meaning_run value_of t.0.token b.0 (or_fault_ok t.0.offset _ (meaning_of value_of t.0.token) b.0 b.1) in (
      one_taken tables rest after t.0 (Numeral n) tt t.1 t.2 (rw (run.1, run.2, g.1) refl),
      between_is low high n (rw g.1 at g.0),
    )

pub between_again : (low high n : ℤ) → IsBetween low high n → is_between low high n ≡ true
between_again low high n h = let first : int_le low n ≡ true = grind (arith, ints) in let then
    : int_le n high ≡ true = grind (arith, ints) in rw (first, then) refl

pub natural_takes : (tables : List Named) (low high : ℕ) (rest after : Rest) (n : ℕ) →
    natural_at low high rest ≡ Ok (n, after) → Takes tables rest after (Numeral (pos n) ∷ []) × (low ≤ n) × (n ≤ high)
unfolding natural_at
natural_takes tables low high rest after n e =
    let b = bind_ok (next_at (number (pos low) (pos high)) rest) _ (n, after) e in
    let p = pair_is (unsigned_abs b.0.0) n b.0.1 after b.2 in
    let t = number_takes tables (pos low) (pos high) rest b.0.1 b.0.0 b.1 in
    let is : b.0.0 ≡ pos n = omega (arith, ints, p.0, t.1) in
    (rw (is, p.1) at t.0, omega (arith, ints, t.1), omega (arith, ints, t.1))

-- the name tells the format
other_name : (f g : Fmt) → f ≢ g → bytes_eq (format_name f) (format_name g) ≡ false
other_name Q7 Q7 ne = absurd (ne refl)
other_name Q7 Q15 ne = refl
other_name Q7 Q31 ne = refl
other_name Q15 Q7 ne = refl
other_name Q15 Q15 ne = absurd (ne refl)
other_name Q15 Q31 ne = refl
other_name Q31 Q7 ne = refl
other_name Q31 Q15 ne = refl
other_name Q31 Q31 ne = absurd (ne refl)

own_name : (f : Fmt) → bytes_eq (format_name f) (format_name f) ≡ true
own_name f = (bytes_eq-Decides (format_name f) (format_name f)).1 refl

pub conversion_takes : (tables : List Named) (from : Fmt) (rest after : Rest) (f : Fmt) →
    next_at (conversion from) rest ≡ Ok (f, after) → Takes tables rest after (Name (format_name f) ∷ []) × (f ≢ from)
conversion_takes tables from rest after f e =
    let n = next_takes (conversion from) rest after f e in
    let b = bind_ok (choice (by_name format_name every_format) n.0.offset n.0.token) _ f n.3 in
    let run = choice_run (by_name format_name every_format) n.0.offset n.0.token b.0 b.1 in
    let other = refused (bytes_eq (format_name b.0) (format_name from)) _ _ f b.2 in
    let same = ok_is b.0 f other.1 in
    let differs : f ≢ from = λ is. let equal : bytes_eq (format_name b.0) (format_name from) ≡ true =
    rw (same, is) (own_name from) in absurd cc in (
      one_taken tables rest after n.0 (Name (format_name f)) tt n.1 n.2
          (rw run.1 (by_name_is format_name every_format run.0 b.0 run.2 ∙ ap format_name same)),
      differs,
    )

-- ---- what is written is read again

-- a token that is written as a symbol
pub written_name : (tables : List Named) (token : Token) (name : List ℕ) → IsWritten tables token (Name name) →
    token ≡ Run name
written_name tables (Run run) name h = rw h refl
written_name tables Open name h = absurd h
written_name tables Close name h = absurd h
written_name tables Bad name h = absurd h

pub written_number : (tables : List Named) (token : Token) (n : ℤ) → IsWritten tables token (Numeral n) →
    (run : List ℕ) × (token ≡ Run run) × (value_of run ≡ Some n)
written_number tables (Run run) n h = (run, refl, h)
written_number tables Open n h = absurd h
written_number tables Close n h = absurd h
written_number tables Bad n h = absurd h

pub written_open : (tables : List Named) (token : Token) → IsWritten tables token OpenBrace → token ≡ Open
written_open tables (Run run) h = absurd h
written_open tables Open h = refl
written_open tables Close h = absurd h
written_open tables Bad h = absurd h

pub written_close : (tables : List Named) (token : Token) → IsWritten tables token CloseBrace → token ≡ Close
written_close tables (Run run) h = absurd h
written_close tables Open h = absurd h
written_close tables Close h = refl
written_close tables Bad h = absurd h

-- one token is written, and a judge that takes it reads it
pub one_again : {A : Type 0} (tables : List Named) (judge : Judge A) (x : A) (symbol : Symbol)
    (items left : List Item) (end : ℕ) → IsOne symbol → Strips tables items (symbol ∷ []) left
    → ((item : Item) → IsWritten tables item.token symbol → IsToken item.token ×
    (judge item.offset item.token ≡ Ok x)) → next_at judge (record { items = items; end = end }) ≡ Ok
    (x, record { items = left; end = end })
one_again tables judge x symbol [] left end one h judged = absurd h
one_again tables judge x symbol (item ∷ items) left end one h judged =
    let j = judged item h.0 in
    let same : items ≡ left = rw (unwritten_one symbol item.token one) at h.1 in
    rw (← same) (next_again judge item items end x j.0 j.1)

pub word_read : (tables : List Named) (name : List ℕ) (items left : List Item) (end : ℕ) →
    Strips tables items (Name name ∷ []) left → next_at (choice (named name)) (record { items = items; end = end }) ≡ Ok
    (tt, record { items = left; end = end })
word_read tables name items left end h = one_again tables (choice (named name)) tt (Name name) items left end tt h
    (λ item w. let e = written_name tables item.token name w in (rw e tt, rw (e, named_again name) refl))

pub begins_word : (tables : List Named) (name : List ℕ) (items left : List Item) (symbols : List Symbol) →
    Strips tables items (Name name ∷ symbols) left → begins_with name items ≡ true
begins_word tables name [] left symbols h = absurd h
begins_word tables name (item ∷ items) left symbols h =
    rw (written_name tables item.token name h.0, named_again name) refl

pub begins_other : (tables : List Named) (name other : List ℕ) (items left : List Item) (symbols : List Symbol) →
    named name other ≡ None → Strips tables items (Name other ∷ symbols) left → begins_with name items ≡ false
begins_other tables name other [] left symbols differs h = absurd h
begins_other tables name other (item ∷ items) left symbols differs h =
    rw (written_name tables item.token other h.0, differs) refl

pub name_read : {A : Type 0} (tables : List Named) (name : A → List ℕ) (those : List A) (x : A)
    (items left : List Item) (end : ℕ) → by_name name those (name x) ≡ Some x →
    Strips tables items (Name (name x) ∷ []) left
    → next_at (choice (by_name name those)) (record { items = items; end = end }) ≡ Ok
    (x, record { items = left; end = end })
name_read tables name those x items left end is h = one_again tables (choice (by_name name those)) x (Name (name x))
    items left end tt h (λ item w. let e = written_name tables item.token (name x) w in (rw e tt, rw (e, is) refl))

pub number_read : (tables : List Named) (low high n : ℤ) (items left : List Item) (end : ℕ) → IsBetween low high n →
    Strips tables items (Numeral n ∷ []) left → next_at (number low high) (record { items = items; end = end }) ≡ Ok
    (n, record { items = left; end = end })
number_read tables low high n items left end fits h =
    one_again tables (number low high) n (Numeral n) items left end tt h
    (λ item w. let e = written_number tables item.token n w in
    (rw e.1 tt, rw (e.1, e.2, between_again low high n fits) refl))

pub natural_read : (tables : List Named) (low high n : ℕ) (items left : List Item) (end : ℕ) → low ≤ n → n ≤ high →
    Strips tables items (Numeral (pos n) ∷ []) left → natural_at low high (record { items = items; end = end }) ≡ Ok
    (n, record { items = left; end = end })
unfolding natural_at
natural_read tables low high n items left end above below h =
    rw (number_read tables (pos low) (pos high) (pos n) items left end (omega (arith, ints), omega (arith, ints)) h)
    refl

pub conversion_read : (tables : List Named) (from f : Fmt) (items left : List Item) (end : ℕ) → f ≢ from →
    Strips tables items (Name (format_name f) ∷ []) left →
    next_at (conversion from) (record { items = items; end = end }) ≡ Ok (f, record { items = left; end = end })
conversion_read tables from f items left end ne h = one_again tables (conversion from) f (Name (format_name f)) items
    left end tt h (λ item w. let e = written_name tables item.token (format_name f) w in
    (rw e tt, rw (e, format_again f, other_name f from ne) refl))
