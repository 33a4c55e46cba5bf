-- What each place of a text wants, and the fault where another thing stands there.
use Rattle.std.specs.Prelude.{ℕ, ℤ, zero, suc, pos, ◌+◌, ◌&&◌, ◌==◌, ⊤, is_some, Bool, false, List, [], ◌∷◌, Option}
use Rattle.std.specs.Prelude.{Some, None, Result, Ok, Err, nat_le, int_le, unsigned_abs, codes, ◌++◌, if◌then◌else◌}
use Rattle.std.specs.Str.{bytes_eq}
use Rattle.dsp_defs.specs.declared.script_fault.ScriptKind.{ScriptKind}
use Rattle.dsp_defs.specs.declared.script_fault.ScriptKind.TheVariants.{BadByte, UnknownWord, BadNumber, OutOfRange}
use Rattle.dsp_defs.specs.declared.script_fault.ScriptKind.TheVariants.{Missing, NoSuchForm, Length, TooMany, BadName}
use Rattle.dsp_defs.specs.declared.script_fault.ScriptKind.TheVariants.{NameTaken}
use Rattle.dsp_defs.specs.declared.script_fault.ScriptFault.{ScriptFault}
use Rattle.dsp_defs.specs.declared.format.Fmt.{Fmt}
use Rattle.dsp_defs.specs.declared.limits.TheConstants.{MAX_TABLES}
use Rattle.dsp_defs.specs.declared.list_rule.ListRule.{ListRule}
use Rattle.dsp_defs.specs.Token.{Token, Open, Close, Run, Bad, Item, Rest}
use Rattle.dsp_defs.specs.Numeral.{value_of}
use Rattle.dsp_defs.specs.Parameters.{is_complete, factor_of}
use Rattle.dsp_defs.specs.Table.{by_name, every_format, format_name}
use Rattle.dsp_defs.specs.Tables.{Named, is_table_name, numbers_of, table_rule}

infixl 10 ◌>>=◌
abbrev pub ◌>>=◌ : {A B : Type 0} → Result A ScriptFault → (A → Result B ScriptFault) → Result B ScriptFault
(Ok x) >>= f = f x
(Err e) >>= f = Err e

-- the fault of this kind at an offset
abbrev pub fault : {A : Type 0} → ℕ → ScriptKind → Result A ScriptFault
fault offset kind = Err (record { offset = offset; kind = kind })

-- the value of an option, or a fault
abbrev pub or_fault : {A : Type 0} → ℕ → ScriptKind → Option A → Result A ScriptFault
or_fault offset kind (Some x) = Ok x
or_fault offset kind None = fault offset kind

-- ---- tokens, words, numbers

-- the first item, which must be there and no bad byte, and what is left behind it
unfoldable pub first_of : ℕ → List Item → Result (Item × Rest) ScriptFault
first_of end [] = fault end Missing
first_of end (item ∷ items) = elim item.token [
  | Bad ↦ fault item.offset BadByte
  | _ ↦ Ok
      (item, record { items = items; end = end })
]

-- what a token at an offset is, or its fault, where a place wants it.
abbrev pub Judge : Type 0 → Type 0
Judge A = ℕ → Token → Result A ScriptFault

-- the next token as what a place wants, and what is left behind it
unfoldable pub next_at : {A : Type 0} → Judge A → Rest → Result (A × Rest) ScriptFault
next_at judge rest = do
  item ← first_of rest.end rest.items
  x ← judge item.0.offset item.0.token
  Ok (x, item.1)

-- what a token is as a word
abbrev pub meaning_of : {A : Type 0} → (List ℕ → Option A) → Token → Option A
meaning_of meaning (Run run) = meaning run
meaning_of meaning token = None

-- a word that has a meaning
abbrev pub choice : {A : Type 0} → (List ℕ → Option A) → Judge A
choice meaning offset token = or_fault offset UnknownWord (meaning_of meaning token)

-- this word
abbrev pub named : List ℕ → List ℕ → Option ⊤
named name run = if bytes_eq run name then Some tt else None

-- the first of the items is this word
abbrev pub begins_with : List ℕ → List Item → Bool
begins_with name [] = false
begins_with name (item ∷ items) = is_some (meaning_of (named name) item.token)

-- n, or a fault where it is not in low..high
abbrev pub in_range : ℕ → (low high n : ℤ) → Result ℤ ScriptFault
in_range offset low high n = if int_le low n && int_le n high then Ok n else fault offset (OutOfRange low high)

-- a number in a range
abbrev pub number : (low high : ℤ) → Judge ℤ
number low high offset token = or_fault offset BadNumber (meaning_of value_of token) >>= λ n. in_range offset low high n

-- a natural number of low..high next
unfoldable pub natural_at : (low high : ℕ) → Rest → Result (ℕ × Rest) ScriptFault
natural_at low high rest = next_at (number (pos low) (pos high)) rest >>= λ n. Ok (unsigned_abs n.0, n.1)

-- ---- lists

-- n as the next number of a list that has count numbers, at an offset
abbrev pub next_number : ListRule → ℕ → ℕ → ℤ → Result ℤ ScriptFault
next_number rule count offset n = if nat_le rule.limit count then fault offset (TooMany rule.limit) else
    in_range offset rule.low rule.high n

-- the end of a list that has count numbers, at an offset
abbrev pub list_end : ListRule → ℕ → ℕ → Result ⊤ ScriptFault
list_end rule count offset = if is_complete rule.count count then Ok tt else
    fault offset (Length count (factor_of rule.count))

-- numbers as a list's, after count of them, up to its end, all at one offset
unfoldable pub judged : ListRule → ℕ → ℕ → List ℤ → Result ⊤ ScriptFault
judged rule count offset [] = list_end rule count offset
judged rule count offset (n ∷ numbers) = next_number rule count offset n >>= λ _. judged rule (count + 1) offset numbers

-- The tables of a text, if its version has them.
abbrev pub Environment : Type 0
Environment = Option (List Named)

-- the brace that opens a list, or the numbers of the table that is named in its place, judged at the name
abbrev pub opening : Environment → ListRule → Judge (Option (List ℤ))
opening tables rule offset Open = Ok None
opening (Some tables) rule offset (Run name) = do
  numbers ← or_fault offset UnknownWord (numbers_of tables name)
  _ ← judged rule 0 offset numbers
  Ok (Some numbers)
opening tables rule offset token = fault offset Missing

-- the next number of a list that has count numbers, or its end
abbrev pub entry : ListRule → ℕ → Judge (Option ℤ)
entry rule count offset Close = list_end rule count offset >>= λ _. Ok None
entry rule count offset token = or_fault offset BadNumber (meaning_of value_of token) >>= λ n. next_number rule count
    offset n >>= λ _. Ok (Some n)

-- the numbers of a list up to its end, after count of them
unfoldable pub entries_at : ListRule → ℕ → ℕ → List Item → Result (List ℤ × Rest) ScriptFault
entries_at rule count end [] = fault end Missing
entries_at rule count end (item ∷ items) = do
  next ← next_at (entry rule count) (record { items = item ∷ items; end = end })
  elim next.0 [
    | None ↦ Ok ([], next.1)
    | Some n ↦ (entries_at rule (count + 1) end items >>= λ more. Ok (n ∷ more.0, more.1))
  ]

-- a list next: its numbers in braces, or the name of a table
unfoldable pub list_at : Environment → ListRule → Rest → Result (List ℤ × Rest) ScriptFault
list_at tables rule rest = do
  opened ← next_at (opening tables rule) rest
  elim opened.0 [
    | None ↦ entries_at rule 0 opened.1.end opened.1.items
    | Some numbers ↦ Ok (numbers, opened.1)
  ]

-- ---- tables

-- the word `table`, where so many more may come
abbrev pub table_word : ℕ → Judge ⊤
table_word left offset token = choice (named (codes "table")) offset token >>= λ _. if left == 0 then
    fault offset (TooMany MAX_TABLES) else Ok tt

-- a name that none of these tables has
abbrev pub new_name : List Named → Judge (List ℕ)
new_name tables offset (Run run) = if is_table_name run then
    (if is_some (numbers_of tables run) then fault offset NameTaken else Ok run) else fault offset BadName
new_name tables offset token = fault offset BadName

-- a table next, behind these, where so many more may come: its word, its name, its numbers in braces
unfoldable pub table_at : ℕ → List Named → Rest → Result (Named × Rest) ScriptFault
table_at left tables rest = do
  word ← next_at (table_word left) rest
  name ← next_at (new_name tables) word.1
  numbers ← list_at None table_rule name.1
  Ok (record { name = name.0; numbers = numbers.0 }, numbers.1)

-- these tables, and those that come next, of which so many may come
unfoldable pub tables_at : ℕ → List Named → Rest → Result (List Named × Rest) ScriptFault
tables_at zero tables rest = if begins_with (codes "table") rest.items then
    (table_at 0 tables rest >>= λ t. Ok (tables, t.1)) else Ok (tables, rest)
tables_at (suc left) tables rest = if begins_with (codes "table") rest.items
    then (table_at (suc left) tables rest >>= λ t. tables_at left (tables ++ t.0 ∷ []) t.1)
    else Ok (tables, rest)

-- the tables next, in a version that has them
unfoldable pub environment_at : ℕ → Rest → Result (Environment × Rest) ScriptFault
environment_at version rest = if version == 1 then Ok (None, rest) else
    (tables_at MAX_TABLES [] rest >>= λ t. Ok (Some t.0, t.1))

-- ---- conversions

-- the name of a format other than the present one
abbrev pub conversion : Fmt → Judge Fmt
conversion from offset token = do
  format ← choice (by_name format_name every_format) offset token
  if bytes_eq (format_name format) (format_name from) then fault offset (NoSuchForm format) else Ok format
