-- Reading a list of numbers, or of blocks, one after another, as a loop does.
use Rattle.std.proofs.Common.{◌≡◌, ℕ, zero, suc, ℤ, ◌+◌, ◌-◌, ◌<◌, Bool, ◌||◌, true, false, List, [], ◌∷◌, ◌++◌}
use Rattle.std.proofs.Common.{length, get_or, drop, add-one, drop-cons, pos, Option, Some, None, Result, Ok, Err}
use Rattle.std.proofs.Common.{refl, sym, ap, ◌∙◌, append_assoc, arith}
use Rattle.std.proofs.lemmas.List.{append-nil}
use Rattle.dsp_defs.specs.declared.script_fault.ScriptFault.{ScriptFault}
use Rattle.dsp_script.specs.declared.fault.ParseFault.{ParseFault}
use Rattle.dsp_script.specs.declared.fault.ParseFault.TheVariants as errors
use Rattle.dsp_defs.specs.declared.script.Block.{Block}
use Rattle.dsp_defs.specs.declared.word.Word.{Word}
use Rattle.dsp_defs.specs.declared.list_rule.ListRule.{ListRule}
use Rattle.dsp_defs.specs.declared.flow.Flow.{Flow}
use Rattle.dsp_defs.specs.Token.{Token, Open, Close, Run, Bad, Item, Rest}
use Rattle.dsp_defs.specs.Places.{◌>>=◌, first_of, begins_with, next_at, next_number, judged, entry, entries_at}
use Rattle.dsp_defs.specs.Places.{Environment, table_at, tables_at}
use Rattle.dsp_defs.specs.Tables.{Named}
use Rattle.std.specs.Prelude.{⊤, codes}
use Rattle.dsp_script.specs.Answers.{Fails, parameters}
use Rattle.dsp_defs.specs.Reading.{next_block, block_at, blocks_at}
use Rattle.dsp_defs.specs.Table.{is_correlate, flow_after}

-- ---- what was read before, and what is still read

abbrev with_front : {A : Type 0} → List A → Result (List A × Rest) ScriptFault → Result (List A × Rest) ScriptFault
with_front front read = read >>= λ x. Ok (front ++ x.0, x.1)

abbrev pub with_numbers : List ℤ → Result (List ℤ × Rest) ScriptFault → Result (List ℤ × Rest) ScriptFault
with_numbers front read = with_front front read

abbrev pub with_blocks : List Block → Result (List Block × Rest) ScriptFault → Result (List Block × Rest) ScriptFault
with_blocks front read = with_front front read

regroup : {A : Type 0} (front : List A) (x : A) (read : Result (List A × Rest) ScriptFault) →
    with_front front (read >>= λ more. Ok (x ∷ more.0, more.1)) ≡ with_front (front ++ x ∷ []) read
regroup front x (Ok more) = ap (λ (xs : List _). Ok (xs, more.1)) (simp append_assoc)
regroup front x (Err f) = refl

-- ---- the numbers of a list

abbrev numbers_after : ListRule → ℕ → Option ℤ × Rest → Result (List ℤ × Rest) ScriptFault
numbers_after rule count e = elim e.0 [
  | None ↦ Ok ([], e.1)
  | Some n ↦ (entries_at rule (count + 1) e.1.end e.1.items >>= λ more. Ok (n ∷ more.0, more.1))
]

abbrev behind : Rest → Result (Option ℤ) ScriptFault → Result (Option ℤ × Rest) ScriptFault
behind rest e = e >>= λ x. Ok (x, rest)

abbrev in_place : ListRule → ℕ → ℕ → List Item → Option ℤ × Rest → Result (List ℤ × Rest) ScriptFault
in_place rule count end items e = elim e.0 [
  | None ↦ Ok ([], e.1)
  | Some n ↦ (entries_at rule (count + 1) end items >>= λ more. Ok (n ∷ more.0, more.1))
]

-- what is done with the next entry depends on the entry alone
entry_alone : (rule : ListRule) (count end : ℕ) (items : List Item) (e : Result (Option ℤ) ScriptFault)
    → (behind (record { items = items; end = end }) e >>= in_place rule count end items) ≡
    (behind (record { items = items; end = end }) e >>= numbers_after rule count)
entry_alone rule count end items (Err f) = refl
entry_alone rule count end items (Ok None) = refl
entry_alone rule count end items (Ok (Some n)) = refl

entries_step : (rule : ListRule) (count end : ℕ) (items : List Item) →
    entries_at rule count end items ≡ (next_at (entry rule count) (record { items = items; end = end }) >>=
    numbers_after rule count)
unfolding first_of next_at entries_at
entries_step rule count end [] = refl
entries_step rule count end (item ∷ items) =
    elim item.token as (λ (t : Token). entries_at rule count end (record { offset = item.offset; token = t } ∷ items)
    ≡ (next_at (entry rule count) (record { items = record { offset = item.offset; token = t } ∷ items; end = end })
    >>= numbers_after rule count)) [
      | Bad ↦ refl
      | Open ↦ refl
      | Close ↦ entry_alone rule count end items (entry rule count item.offset Close)
      | Run run ↦ entry_alone rule count end items (entry rule count item.offset (Run run))
    ]

pub numbers_go_on : (front : List ℤ) (rule : ListRule) (count : ℕ) (rest after : Rest) (n : ℤ)
    (total : Result (List ℤ × Rest) ScriptFault) → next_at (entry rule count) rest ≡ Ok (Some n, after)
    → with_numbers front (entries_at rule count rest.end rest.items) ≡ total →
    with_numbers (front ++ n ∷ []) (entries_at rule (count + 1) after.end after.items) ≡ total
numbers_go_on front rule count rest after n total h so_far =
    let step : entries_at rule count rest.end rest.items ≡
    (entries_at rule (count + 1) after.end after.items >>= λ more. Ok (n ∷ more.0, more.1)) =
    entries_step rule count rest.end rest.items ∙ rw h refl in
    sym (regroup front n (entries_at rule (count + 1) after.end after.items)) ∙ sym (ap (with_numbers front) step) ∙
    so_far

pub numbers_fail : (front : List ℤ) (rule : ListRule) (count : ℕ) (rest : Rest) (f : ScriptFault)
    (total : Result (List ℤ × Rest) ScriptFault) → next_at (entry rule count) rest ≡ Err f
    → with_numbers front (entries_at rule count rest.end rest.items) ≡ total → total ≡ Err f
numbers_fail front rule count rest f total h so_far =
    let step : entries_at rule count rest.end rest.items ≡ Err f = entries_step rule count rest.end rest.items ∙
    rw h refl in
    sym so_far ∙ ap (with_numbers front) step

pub numbers_done : (front : List ℤ) (rule : ListRule) (count : ℕ) (rest after : Rest)
    (total : Result (List ℤ × Rest) ScriptFault) → next_at (entry rule count) rest ≡ Ok (None, after)
    → with_numbers front (entries_at rule count rest.end rest.items) ≡ total → total ≡ Ok (front, after)
numbers_done front rule count rest after total h so_far =
    let step : entries_at rule count rest.end rest.items ≡ Ok ([], after) =
    entries_step rule count rest.end rest.items ∙ rw h refl in
    sym so_far ∙ ap (with_numbers front) step ∙ ap (λ (xs : List ℤ). Ok (xs, after)) (append-nil front)

-- ---- the numbers of a table

judged_first : (rule : ListRule) (i offset : ℕ) (numbers : List ℤ) → i < length numbers →
    judged rule i offset (drop i numbers) ≡ (next_number rule i offset (get_or numbers i (pos 0)) >>= λ _. judged rule
    (i + 1) offset (drop (i + 1) numbers))
unfolding judged
judged_first rule i offset numbers lt =
    let parts : drop i numbers ≡ get_or numbers i (pos 0) ∷ drop (i + 1) numbers =
    rw (add-one, drop-cons numbers i (pos 0) lt) refl in
    rw parts refl

pub judged_goes_on : (rule : ListRule) (i offset : ℕ) (numbers : List ℤ) (n m : ℤ) (whole : Result ⊤ ScriptFault) →
    i < length numbers → n ≡ get_or numbers i (pos 0) → next_number rule i offset n ≡ Ok m
    → judged rule i offset (drop i numbers) ≡ whole → judged rule (i + 1) offset (drop (i + 1) numbers) ≡ whole
judged_goes_on rule i offset numbers n m whole lt is next so_far =
    sym (judged_first rule i offset numbers lt ∙ rw (← is, next) refl) ∙ so_far

pub judged_fails : (rule : ListRule) (i offset : ℕ) (numbers : List ℤ) (n : ℤ) (f : ScriptFault)
    (whole : Result ⊤ ScriptFault) → i < length numbers → n ≡ get_or numbers i (pos 0) →
    next_number rule i offset n ≡ Err f
    → judged rule i offset (drop i numbers) ≡ whole → whole ≡ Err f
judged_fails rule i offset numbers n f whole lt is next so_far = sym so_far ∙ judged_first rule i offset numbers lt ∙
    rw (← is, next) refl

-- ---- the tables of a script

pub tables_go_on : (left : ℕ) (tables : List Named) (rest r1 : Rest) (t : Named)
    (whole : Result (List Named × Rest) ScriptFault) → 0 < left → begins_with (codes "table") rest.items ≡ true →
    table_at left tables rest ≡ Ok (t, r1)
    → tables_at left tables rest ≡ whole → tables_at (left - 1) (tables ++ t ∷ []) r1 ≡ whole
unfolding tables_at
tables_go_on zero tables rest r1 t whole some begins read so_far = absurd (omega arith)
tables_go_on (suc left) tables rest r1 t whole some begins read so_far =
    let one : suc left - 1 ≡ left = omega arith in
    let step : tables_at (suc left) tables rest ≡ tables_at left (tables ++ t ∷ []) r1 = rw (begins, read) refl in
    rw one (sym step ∙ so_far)

pub tables_fail : (e : ParseFault) (left : ℕ) (tables : List Named) (rest : Rest)
    (whole : Result (List Named × Rest) ScriptFault) → begins_with (codes "table") rest.items ≡ true →
    Fails e (table_at left tables rest) → tables_at left tables rest ≡ whole → Fails e whole
unfolding tables_at
tables_fail errors.Memory left tables rest whole begins read so_far = tt
tables_fail (errors.Script f) zero tables rest whole begins read so_far = let step : tables_at 0 tables rest ≡ Err f =
    rw (begins, read) refl in sym so_far ∙ step
tables_fail (errors.Script f) (suc left) tables rest whole begins read so_far =
    let step : tables_at (suc left) tables rest ≡ Err f = rw (begins, read) refl in sym so_far ∙ step

pub tables_done : (left : ℕ) (tables : List Named) (rest : Rest) → begins_with (codes "table") rest.items ≡ false →
    tables_at left tables rest ≡ Ok (tables, rest)
unfolding tables_at
tables_done zero tables rest begins = rw begins refl
tables_done (suc left) tables rest begins = rw begins refl

-- ---- the blocks of a script

pub blocks_go_on : (tables : Environment) (front : List Block) (left : ℕ) (correlated : Bool) (flow : Flow)
    (rest r1 r2 : Rest) (w : Word) (b : Block) (total : Result (List Block × Rest) ScriptFault) → 0 < left
    → next_at (next_block left correlated flow) rest ≡ Ok (Some w, r1) →
    block_at tables (parameters w flow) r1 ≡ Ok (b, r2)
    → with_blocks front (blocks_at tables left correlated flow rest) ≡ total →
    with_blocks (front ++ b ∷ []) (blocks_at tables (left - 1) (correlated || is_correlate w) (flow_after b flow)
    r2) ≡ total
unfolding blocks_at
blocks_go_on tables front zero correlated flow rest r1 r2 w b total some next read so_far = absurd (omega arith)
blocks_go_on tables front (suc left) correlated flow rest r1 r2 w b total some next read so_far =
    let one : suc left - 1 ≡ left = omega arith in
    let more = blocks_at tables left (correlated || is_correlate w) (flow_after b flow) r2 in
    let step : blocks_at tables (suc left) correlated flow rest ≡ (more >>= λ m. Ok (b ∷ m.0, m.1)) =
    rw (next, read) refl in
    rw one (sym (regroup front b more) ∙ sym (ap (with_blocks front) step) ∙ so_far)

pub blocks_fail_at_word : (tables : Environment) (front : List Block) (left : ℕ) (correlated : Bool) (flow : Flow)
    (rest : Rest) (f : ScriptFault) (total : Result (List Block × Rest) ScriptFault)
    → next_at (next_block left correlated flow) rest ≡ Err f →
    with_blocks front (blocks_at tables left correlated flow rest) ≡ total → total ≡ Err f
unfolding blocks_at
blocks_fail_at_word tables front zero correlated flow rest f total next so_far =
    let step : blocks_at tables 0 correlated flow rest ≡ Err f = rw next refl in sym so_far ∙
    ap (with_blocks front) step
blocks_fail_at_word tables front (suc left) correlated flow rest f total next so_far =
    let step : blocks_at tables (suc left) correlated flow rest ≡ Err f = rw next refl in sym so_far ∙
    ap (with_blocks front) step

pub blocks_fail_within : (tables : Environment) (e : ParseFault) (front : List Block) (left : ℕ) (correlated : Bool)
    (flow : Flow) (rest r1 : Rest) (w : Word) (total : Result (List Block × Rest) ScriptFault) → 0 < left
    → next_at (next_block left correlated flow) rest ≡ Ok (Some w, r1) →
    Fails e (block_at tables (parameters w flow) r1) →
    with_blocks front (blocks_at tables left correlated flow rest) ≡ total → Fails e total
unfolding blocks_at
blocks_fail_within tables errors.Memory front left correlated flow rest r1 w total some next read so_far = tt
blocks_fail_within tables (errors.Script f) front zero correlated flow rest r1 w total some next read so_far =
    absurd (omega arith)
blocks_fail_within tables (errors.Script f) front (suc left) correlated flow rest r1 w total some next read so_far =
    let step : blocks_at tables (suc left) correlated flow rest ≡ Err f = rw (next, read) refl in
    sym so_far ∙ ap (with_blocks front) step

pub blocks_done : (tables : Environment) (front : List Block) (left : ℕ) (correlated : Bool) (flow : Flow)
    (rest after : Rest) (total : Result (List Block × Rest) ScriptFault)
    → next_at (next_block left correlated flow) rest ≡ Ok (None, after) →
    with_blocks front (blocks_at tables left correlated flow rest) ≡ total → total ≡ Ok (front, after)
unfolding blocks_at
blocks_done tables front zero correlated flow rest after total next so_far =
    let step : blocks_at tables 0 correlated flow rest ≡ Ok ([], after) = rw next refl in
    sym so_far ∙ ap (with_blocks front) step ∙ ap (λ (xs : List Block). Ok (xs, after)) (append-nil front)
blocks_done tables front (suc left) correlated flow rest after total next so_far =
    let step : blocks_at tables (suc left) correlated flow rest ≡ Ok ([], after) = rw next refl in
    sym so_far ∙ ap (with_blocks front) step ∙ ap (λ (xs : List Block). Ok (xs, after)) (append-nil front)
