-- Tables: what is read is written so and may stand, and what is written so and may stand is read.
use Rattle.std.proofs.Common.{◌≡◌, ℕ, zero, suc, ◌<◌, ◌≤◌, Bool, true, false, cond, eqb, List, [], ◌∷◌, ◌++◌, length}
use Rattle.std.proofs.Common.{Option, Some, None, Ok, refl, sym, ap, subst, ◌∙◌, append_assoc, append-nil, arith}
use Rattle.std.specs.Prelude.{⊤, is_some, codes}
use Rattle.std.specs.List.{flat_map}
use Rattle.std.proofs.lemmas.Bool.Decides.{nat_tests}
use Rattle.std.proofs.lemmas.List.Concat.{flat_map-cons}
use Rattle.dsp_defs.specs.declared.limits.TheConstants.{MAX_TABLES}
use Rattle.dsp_defs.specs.Token.{Token, Open, Close, Run, Bad, Item, Rest}
use Rattle.dsp_defs.specs.Tables.{Named, is_table_name, numbers_of, table_rule, IsTable, AreTables, MayStand}
use Rattle.dsp_defs.specs.Grammar.{Symbol, Name, table_symbols}
use Rattle.dsp_defs.specs.Places.{◌>>=◌, named, choice, next_at, begins_with, Environment, list_at, table_word}
use Rattle.dsp_defs.specs.Places.{new_name, table_at, tables_at, environment_at}
use Rattle.dsp_script.proofs.Steps.{bind_ok, ok_is, refused, chosen, pair, pair_is, named_is, choice_run}
use Rattle.dsp_script.proofs.Steps.{written_name, Strips, Strips-split, Takes, Takes-then, Takes-none, one_taken}
use Rattle.dsp_script.proofs.Steps.{one_again}
use Rattle.dsp_script.proofs.Steps.{next_takes, begins_word}
use Rattle.dsp_script.proofs.Loops.{tables_done}
use Rattle.dsp_script.proofs.ListLaws.{tables_in, braced, braced_takes, braced_read}

-- ---- one table

-- the word of a table was taken, where so many more may come
record IsWord (tables : List Named) (left : ℕ) (rest after : Rest) : Type 0 where
  takes : Takes tables rest after (Name (codes "table") ∷ [])
  some : 0 < left

word_is : (tables : List Named) (left : ℕ) (rest after : Rest) (x : ⊤) →
    next_at (table_word left) rest ≡ Ok (x, after) → IsWord tables left rest after
word_is tables left rest after x e =
    let n = next_takes (table_word left) rest after x e in
    let b = bind_ok (choice (named (codes "table")) n.0.offset n.0.token) _ x n.3 in
    let run = choice_run (named (codes "table")) n.0.offset n.0.token b.0 b.1 in
    let more = refused (eqb left 0) _ _ x b.2 in
    record {
      takes = one_taken tables rest after n.0 (Name (codes "table")) tt n.1 n.2
          (rw run.1 (named_is (codes "table") run.0 b.0 run.2));
      some = grind (arith, nat_tests);
    }

word_again : (tables : List Named) (left : ℕ) (items after : List Item) (end : ℕ) → 0 < left →
    Strips tables items (Name (codes "table") ∷ []) after →
    next_at (table_word left) (record { items = items; end = end }) ≡ Ok (tt, record { items = after; end = end })
word_again tables left items after end some h =
    let more : eqb left 0 ≡ false = grind (arith, nat_tests) in
    one_again tables (table_word left) tt (Name (codes "table")) items after end tt h
    (λ item w. let e = written_name tables item.token (codes "table") w in (rw e tt, rw (e, more) refl))

-- a name is good, and none of these tables has it
record IsNew (before : List Named) (name : List ℕ) : Type 0 where
  good : is_table_name name ≡ true
  new : numbers_of before name ≡ None

none_of : {A : Type 0} (o : Option A) → is_some o ≡ false → o ≡ None
none_of None e = refl
none_of (Some x) e = absurd cc

name_is : (before : List Named) (offset : ℕ) (token : Token) (name : List ℕ) →
    new_name before offset token ≡ Ok name → (token ≡ Run name) × IsNew before name
name_is before offset Open name e = absurd cc
name_is before offset Close name e = absurd cc
name_is before offset Bad name e = absurd cc
name_is before offset (Run run) name e =
    let good = chosen (is_table_name run) _ _ name e in
    let free = refused (is_some (numbers_of before run)) _ _ name good.1 in
    let same : run ≡ name = ok_is run name free.1 in
    let fact : IsNew before run = record { good = good.0; new = none_of (numbers_of before run) free.0 } in
    (ap Run same, rw same at fact)

name_takes : (tables before : List Named) (rest after : Rest) (name : List ℕ) →
    next_at (new_name before) rest ≡ Ok (name, after) → Takes tables rest after (Name name ∷ []) × IsNew before name
name_takes tables before rest after name e =
    let n = next_takes (new_name before) rest after name e in
    let is = name_is before n.0.offset n.0.token name n.3 in
    (one_taken tables rest after n.0 (Name name) tt n.1 n.2 (rw is.0 refl), is.1)

name_read : (tables before : List Named) (name : List ℕ) (items after : List Item) (end : ℕ) → IsNew before name →
    Strips tables items (Name name ∷ []) after → next_at (new_name before) (record { items = items; end = end }) ≡ Ok
    (name, record { items = after; end = end })
name_read tables before name items after end is h =
    one_again tables (new_name before) name (Name name) items after end tt h
    (λ item w. let e = written_name tables item.token name w in (rw e tt, rw (e, is.good, is.new) refl))

-- a table that was read
record IsRead (tables : List Named) (left : ℕ) (before : List Named) (rest after : Rest) (t : Named) : Type 0 where
  takes : Takes tables rest after (table_symbols t)
  is : IsTable before t
  some : 0 < left

table_takes : (tables : List Named) (left : ℕ) (before : List Named) (rest after : Rest) (t : Named) →
    table_at left before rest ≡ Ok (t, after) → IsRead tables left before rest after t
unfolding table_at
table_takes tables left before rest after t e =
    let w = bind_ok (next_at (table_word left) rest) _ (t, after) e in
    let n = bind_ok (next_at (new_name before) w.0.1) _ (t, after) w.2 in
    let l = bind_ok (list_at None table_rule n.0.1) _ (t, after) n.2 in
    let p = pair_is (record { name = n.0.0; numbers = l.0.0 }) t l.0.1 after l.2 in
    let word = word_is tables left rest w.0.1 w.0.0 w.1 in
    let name = name_takes tables before w.0.1 n.0.1 n.0.0 n.1 in
    let list = braced_takes tables table_rule n.0.1 l.0.1 l.0.0 l.1 in
    let whole = Takes-then word.takes (Takes-then name.0 list.0) in
    let made : Named = record { name = n.0.0; numbers = l.0.0 } in
    let read : IsRead tables left before rest l.0.1 made =
    record {
      takes = whole;
      is = record { name = name.1.good; new = name.1.new; numbers = list.1 };
      some =
          word.some;
    } in
    subst (λ (r : Rest). IsRead tables left before rest r t) p.1 (subst (IsRead tables left before rest l.0.1) p.0 read)

table_read : (tables : List Named) (left : ℕ) (before : List Named) (t : Named) (items after : List Item) (end : ℕ) →
    0 < left → IsTable before t → Strips tables items (table_symbols t) after →
    table_at left before (record { items = items; end = end }) ≡ Ok (t, record { items = after; end = end })
unfolding table_at
table_read tables left before t items after end some is h =
    let w = Strips-split tables items (Name (codes "table") ∷ []) (Name t.name ∷ braced t.numbers) after h in
    let n = Strips-split tables w.0 (Name t.name ∷ []) (braced t.numbers) after w.2 in
    rw (
      word_again tables left items w.0 end some w.1,
      name_read tables before t.name w.0 n.0 end (record { good = is.name; new = is.new }) n.1,
      braced_read tables table_rule t.numbers n.0 after end is.numbers n.2,
    ) refl

-- ---- the tables

-- the tables that were read behind these
pub record IsTables (tables : List Named) (left : ℕ) (before : List Named) (rest after : Rest) (whole : List Named) :
    Type 0 where
  pub more : List Named
  joined : whole ≡ before ++ more
  pub takes : Takes tables rest after (flat_map table_symbols more)
  pub are : AreTables before more
  pub few : length more ≤ left

no_more : (tables : List Named) (left : ℕ) (before : List Named) (rest after : Rest) (whole : List Named) →
    pair before rest ≡ pair whole after → IsTables tables left before rest after whole
no_more tables left before rest after whole e =
    let p = pair_is before whole rest after e in
    record {
      more = [];
      joined = sym p.0 ∙ sym (append-nil before);
      takes = Takes-none tables rest after p.1;
      are = tt;
      few = omega arith;
    }

one_more : (tables : List Named) (left : ℕ) (before : List Named) (rest r1 after : Rest) (t : Named)
    (whole : List Named) → IsRead tables (suc left) before rest r1 t →
    IsTables tables left (before ++ t ∷ []) r1 after whole → IsTables tables (suc left) before rest after whole
one_more tables left before rest r1 after t whole first then = record {
  more = t ∷ then.more;
  joined = then.joined ∙ append_assoc before (t ∷ []) then.more;
  takes = subst (Takes tables rest after) (sym (flat_map-cons table_symbols t then.more))
      (Takes-then first.takes then.takes);
  are = (first.is, then.are);
  few = omega (arith, then.few);
}

tables_take : (tables : List Named) (left : ℕ) (before : List Named) (rest after : Rest) (whole : List Named) →
    tables_at left before rest ≡ Ok (whole, after) → IsTables tables left before rest after whole
unfolding tables_at
tables_take tables zero before rest after whole e = tested (begins_with (codes "table") rest.items) e
  where
    tested : (b : Bool) → cond b (table_at 0 before rest >>= λ t. Ok (before, t.1)) (Ok (before, rest)) ≡ pair whole
        after → IsTables tables 0 before rest after whole
    tested false e = no_more tables 0 before rest after whole e
    tested true e =
        let t = bind_ok (table_at 0 before rest) _ (whole, after) e in
        let is = table_takes tables 0 before rest t.0.1 t.0.0 t.1 in
        absurd (omega (arith, is.some))
tables_take tables (suc left) before rest after whole e =
    tested (begins_with (codes "table") rest.items) e (tables_take tables left)
  where
    tested : (b : Bool) → cond b (table_at (suc left) before rest >>= λ t. tables_at left (before ++ t.0 ∷ []) t.1)
        (Ok (before, rest)) ≡ pair whole after
        → ((b : List Named) (from to : Rest) (all : List Named) → tables_at left b from ≡ Ok (all, to) →
        IsTables tables left b from to all) → IsTables tables (suc left) before rest after whole
    tested false e later = no_more tables (suc left) before rest after whole e
    tested true e later =
        let t = bind_ok (table_at (suc left) before rest) _ (whole, after) e in
        one_more tables left before rest t.0.1 after t.0.0 whole
        (table_takes tables (suc left) before rest t.0.1 t.0.0 t.1)
        (later (before ++ t.0.0 ∷ []) t.0.1 after whole t.2)

tables_read : (tables : List Named) (left : ℕ) (before more : List Named) (items after : List Item) (end : ℕ) →
    AreTables before more → length more ≤ left → Strips tables items (flat_map table_symbols more) after →
    begins_with (codes "table") after ≡ false
    → tables_at left before (record { items = items; end = end }) ≡ Ok
    (before ++ more, record { items = after; end = end })
unfolding tables_at
tables_read tables left before [] items after end are few h none =
    rw (h, append-nil before) (tables_done left before (record { items = after; end = end }) none)
tables_read tables zero before (t ∷ more) items after end are few h none = absurd (omega arith)
tables_read tables (suc left) before (t ∷ more) items after end are few h none =
    let symbols = subst (λ (x : List Symbol). Strips tables items x after) (flat_map-cons table_symbols t more) h in
    let first = Strips-split tables items (table_symbols t) (flat_map table_symbols more) after symbols in
    rw (
      begins_word tables (codes "table") items first.0 (Name t.name ∷ braced t.numbers) first.1,
      table_read tables (suc left) before t items first.0 end (omega arith) are.0 first.1,
    )
    (tables_read tables left (before ++ t ∷ []) more first.0 after end are.1 (omega arith) first.2 none ∙
    ap (λ (x : List Named). pair x (record { items = after; end = end })) (append_assoc before (t ∷ []) more))

-- ---- the tables of a version

-- the tables of a text of this version were read
pub record IsEnvironment (tables : List Named) (version : ℕ) (rest after : Rest) (environment : Environment) : Type 0
  where
    pub takes : Takes tables rest after (flat_map table_symbols (tables_in environment))
    pub stand : MayStand version (tables_in environment)

pub environment_takes : (tables : List Named) (version : ℕ) (rest after : Rest) (environment : Environment) →
    environment_at version rest ≡ Ok (environment, after) → IsEnvironment tables version rest after environment
unfolding environment_at
environment_takes tables version rest after environment e = tested (eqb version 1) refl e
  where
    tested : (b : Bool) → eqb version 1 ≡ b → cond b (Ok (None, rest))
        (tables_at MAX_TABLES [] rest >>= λ t. Ok (Some t.0, t.1)) ≡ pair environment after →
        IsEnvironment tables version rest after environment
    tested true first e =
        let p = pair_is None environment rest after e in
        rw (← p.0) (record {
          takes = Takes-none tables rest after p.1;
          stand = record { few = omega arith; each = tt; allowed = λ _. refl };
        })
    tested false later e =
        let t = bind_ok (tables_at MAX_TABLES [] rest) _ (environment, after) e in
        let p = pair_is (Some t.0.0) environment t.0.1 after t.2 in
        let is = tables_take tables MAX_TABLES [] rest t.0.1 t.0.0 t.1 in
        let more : IsEnvironment tables version rest t.0.1 (Some is.more) = record {
          takes = is.takes;
          stand = record {
            few = is.few;
            each = is.are;
            allowed = λ one. let first : eqb version 1 ≡ true =
                rw one refl in absurd cc;
          };
        } in
        let read : IsEnvironment tables version rest t.0.1 (Some t.0.0) =
        subst (λ (named : List Named). IsEnvironment tables version rest t.0.1 (Some named)) (sym is.joined) more in
        subst (λ (r : Rest). IsEnvironment tables version rest r environment) p.1
        (subst (IsEnvironment tables version rest t.0.1) p.0 read)

-- what tables a list may name in a version
abbrev pub environment_of : ℕ → List Named → Environment
environment_of version tables = cond (eqb version 1) None (Some tables)

pub tables_of : (version : ℕ) (tables : List Named) → MayStand version tables →
    tables_in (environment_of version tables) ≡ tables
tables_of version tables stand = tested (eqb version 1) refl
  where
    tested : (b : Bool) → eqb version 1 ≡ b → tables_in (cond b None (Some tables)) ≡ tables
    tested false e = refl
    tested true e = let one : version ≡ 1 = grind (arith, nat_tests) in sym (stand.allowed one)

pub environment_read : (version : ℕ) (tables : List Named) (items after : List Item) (end : ℕ) →
    MayStand version tables → Strips tables items (flat_map table_symbols tables) after →
    begins_with (codes "table") after ≡ false
    → environment_at version (record { items = items; end = end }) ≡ Ok
    (environment_of version tables, record { items = after; end = end })
unfolding environment_at
environment_read version tables items after end stand h none = tested (eqb version 1) refl
  where
    tested : (b : Bool) → eqb version 1 ≡ b → cond b (Ok (None, record { items = items; end = end }))
        (tables_at MAX_TABLES [] (record { items = items; end = end }) >>= λ t. Ok (Some t.0, t.1)) ≡ pair
        (cond b None (Some tables)) (record { items = after; end = end })
    tested true e =
        let one : version ≡ 1 = grind (arith, nat_tests) in
        let same : items ≡ after = rw (stand.allowed one) at h in
        rw same refl
    tested false e = rw (tables_read tables MAX_TABLES [] tables items after end stand.each stand.few h none) refl
