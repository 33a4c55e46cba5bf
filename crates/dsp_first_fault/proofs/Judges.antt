-- What a place says of a token does not depend on where it stands, but for where its fault is.
use Rattle.dsp_defs.specs.Token.{Token, Open, Close, Run, Bad}
use Rattle.dsp_defs.specs.Places.{Judge, ◌>>=◌, or_fault, meaning_of, choice, named, in_range, number, next_number}
use Rattle.dsp_defs.specs.Places.{list_end, judged, Environment, opening, entry, table_word, new_name, conversion}
use Rattle.std.proofs.Common.{◌≡◌, ◌≢◌, ℕ, ℤ, ◌+◌, Bool, true, false, cond, ◌&&◌, eqb, List, [], ◌∷◌, Option, Some}
use Rattle.std.proofs.Common.{None, Result, Ok, Err, refl}
use Rattle.std.specs.Prelude.{codes, int_le, nat_le, is_some}
use Rattle.std.specs.Str.{bytes_eq}
use Rattle.dsp_defs.specs.declared.script_fault.ScriptFault.{ScriptFault}
use Rattle.dsp_defs.specs.declared.script_fault.ScriptKind.{ScriptKind}
use Rattle.dsp_defs.specs.declared.script_fault.ScriptKind.TheVariants.{BadByte, BadNumber, Missing, UnknownWord}
use Rattle.dsp_defs.specs.declared.list_rule.ListRule.{ListRule}
use Rattle.dsp_defs.specs.declared.format.Fmt.{Fmt}
use Rattle.dsp_defs.specs.declared.flow.Flow.{Flow}
use Rattle.dsp_defs.specs.declared.word.Word.{Word}
use Rattle.dsp_defs.specs.Numeral.{value_of}
use Rattle.dsp_defs.specs.Parameters.{is_complete}
use Rattle.dsp_defs.specs.Table.{by_name, every_format, format_name, row_of, has_form, is_correlate}
use Rattle.dsp_defs.specs.Tables.{Named, is_table_name, numbers_of}
use Rattle.dsp_defs.specs.Reading.{place_of, fed, may_come, next_block}
use Rattle.dsp_first_fault.proofs.Readers.{moved, IsMoved, IsSound, IsSoundFault, IsSteady}

moved_then : {A B : Type 0} (b : ℕ) (r s : Result A ScriptFault) (f g : A → Result B ScriptFault) → s ≡ moved b r →
    ((x : A) → g x ≡ moved b (f x)) → (s >>= g) ≡ moved b (r >>= f)
moved_then b (Ok x) s f g same later = rw same (later x)
moved_then b (Err e) s f g same later = rw same refl

moved_option : {A : Type 0} (a b : ℕ) (kind : ScriptKind) (o : Option A) →
    or_fault b kind o ≡ moved b (or_fault a kind o)
moved_option a b kind (Some x) = refl
moved_option a b kind None = refl

-- tests, whatever is said of both cases
moved_test : {A : Type 0} (b : ℕ) (test : Bool) (r s p q : Result A ScriptFault) → p ≡ moved b r → q ≡ moved b s →
    cond test p q ≡ moved b (cond test r s)
moved_test b true r s p q e f = e
moved_test b false r s p q e f = f

choice_moved : {A : Type 0} (meaning : List ℕ → Option A) → IsMoved (choice meaning)
choice_moved meaning a b token = moved_option a b _ (meaning_of meaning token)

in_range_moved : (a b : ℕ) (low high n : ℤ) → in_range b low high n ≡ moved b (in_range a low high n)
in_range_moved a b low high n = moved_test b (int_le low n && int_le n high) _ _ _ _ refl refl

number_moved : (low high : ℤ) → IsMoved (number low high)
number_moved low high a b token = moved_then b _ _ (in_range a low high) (in_range b low high)
    (moved_option a b _ (meaning_of value_of token)) (in_range_moved a b low high)

next_number_moved : (rule : ListRule) (count a b : ℕ) (n : ℤ) →
    next_number rule count b n ≡ moved b (next_number rule count a n)
next_number_moved rule count a b n = moved_test b (nat_le rule.limit count) _ _ _ _ refl
    (in_range_moved a b rule.low rule.high n)

list_end_moved : (rule : ListRule) (count a b : ℕ) → list_end rule count b ≡ moved b (list_end rule count a)
list_end_moved rule count a b = moved_test b (is_complete rule.count count) _ _ _ _ refl refl

judged_moved : (rule : ListRule) (count a b : ℕ) (numbers : List ℤ) →
    judged rule count b numbers ≡ moved b (judged rule count a numbers)
unfolding judged
judged_moved rule count a b [] = list_end_moved rule count a b
judged_moved rule count a b (n ∷ numbers) =
    moved_then b (next_number rule count a n) (next_number rule count b n) (λ _. judged rule (count + 1) a numbers)
    (λ _. judged rule (count + 1) b numbers) (next_number_moved rule count a b n)
    (λ _. judged_moved rule (count + 1) a b numbers)

opening_moved : (tables : Environment) (rule : ListRule) → IsMoved (opening tables rule)
opening_moved None rule a b Open = refl
opening_moved None rule a b Close = refl
opening_moved None rule a b Bad = refl
opening_moved None rule a b (Run name) = refl
opening_moved (Some tables) rule a b Open = refl
opening_moved (Some tables) rule a b Close = refl
opening_moved (Some tables) rule a b Bad = refl
opening_moved (Some tables) rule a b (Run name) =
    moved_then b (or_fault a _ (numbers_of tables name)) (or_fault b _ (numbers_of tables name))
    (λ numbers. judged rule 0 a numbers >>= λ _. Ok (Some numbers))
    (λ numbers. judged rule 0 b numbers >>= λ _. Ok (Some numbers))
    (moved_option a b _ (numbers_of tables name))
    (λ numbers. moved_then b (judged rule 0 a numbers) (judged rule 0 b numbers) (λ _. Ok (Some numbers))
    (λ _. Ok (Some numbers)) (judged_moved rule 0 a b numbers) (λ _. refl))

number_entry : (rule : ListRule) (count a b : ℕ) (o : Option ℤ) (kind : ScriptKind) →
    (or_fault b kind o >>= λ n. next_number rule count b n >>= λ _. Ok (Some n)) ≡
    moved b (or_fault a kind o >>= λ n. next_number rule count a n >>= λ _. Ok (Some n))
number_entry rule count a b o kind =
    moved_then b (or_fault a kind o) (or_fault b kind o) (λ n. next_number rule count a n >>= λ _. Ok (Some n))
    (λ n. next_number rule count b n >>= λ _. Ok (Some n)) (moved_option a b kind o)
    (λ n. moved_then b (next_number rule count a n) (next_number rule count b n) (λ _. Ok (Some n))
    (λ _. Ok (Some n)) (next_number_moved rule count a b n) (λ _. refl))

entry_moved : (rule : ListRule) (count : ℕ) → IsMoved (entry rule count)
entry_moved rule count a b Open = refl
entry_moved rule count a b Bad = refl
entry_moved rule count a b Close =
    moved_then b (list_end rule count a) (list_end rule count b) (λ _. Ok None) (λ _. Ok None)
    (list_end_moved rule count a b) (λ _. refl)
entry_moved rule count a b (Run run) = number_entry rule count a b (value_of run) _

table_word_moved : (left : ℕ) → IsMoved (table_word left)
table_word_moved left a b token =
    moved_then b (choice (named (codes "table")) a token) (choice (named (codes "table")) b token) _ _
    (choice_moved (named (codes "table")) a b token) (λ _. moved_test b (eqb left 0) _ _ _ _ refl refl)

new_name_moved : (tables : List Named) → IsMoved (new_name tables)
new_name_moved tables a b Open = refl
new_name_moved tables a b Close = refl
new_name_moved tables a b Bad = refl
new_name_moved tables a b (Run run) = moved_test b (is_table_name run) _ _ _ _
    (moved_test b (is_some (numbers_of tables run)) _ _ _ _ refl refl) refl

conversion_moved : (from : Fmt) → IsMoved (conversion from)
conversion_moved from a b token =
    moved_then b (choice (by_name format_name every_format) a token) (choice (by_name format_name every_format) b token)
    _ _ (choice_moved (by_name format_name every_format) a b token)
    (λ format. moved_test b (bytes_eq (format_name format) (format_name from)) _ _ _ _ refl refl)

fed_moved : (a b got : ℕ) (wanted : Option ℕ) → fed b got wanted ≡ moved b (fed a got wanted)
fed_moved a b got None = refl
fed_moved a b got (Some wanted) = moved_test b (eqb got wanted) _ _ _ _ refl refl

may_come_moved : (left : ℕ) (correlated : Bool) (flow : Flow) (a b : ℕ) (place : Option Word) →
    may_come left correlated flow b place ≡ moved b (may_come left correlated flow a place)
may_come_moved left correlated flow a b None = refl
may_come_moved left correlated flow a b (Some w) = moved_test b (eqb left 0) _ _ _ _ refl
    (moved_test b (is_correlate w && correlated) _ _ _ _ refl
    (moved_test b (has_form w flow.format) _ _ _ _ (fed_moved a b flow.channels (row_of w).channels) refl))

next_block_moved : (left : ℕ) (correlated : Bool) (flow : Flow) → IsMoved (next_block left correlated flow)
next_block_moved left correlated flow a b token =
    moved_then b (choice place_of a token) (choice place_of b token)
    (λ place. may_come left correlated flow a place >>= λ _. Ok place)
    (λ place. may_come left correlated flow b place >>= λ _. Ok place) (choice_moved place_of a b token)
    (λ place. moved_then b (may_come left correlated flow a place) (may_come left correlated flow b place)
    (λ _. Ok place) (λ _. Ok place) (may_come_moved left correlated flow a b place) (λ _. refl))

-- ---- no place says of a token that it is a bad byte, and only that of a list that something is missing

-- no fault is one of the two
abbrev IsOrdinary : {A : Type 0} → Result A ScriptFault → Type 0
IsOrdinary (Ok x) = Unit {0}
IsOrdinary (Err f) = (f.kind ≢ BadByte) × (f.kind ≢ Missing)

-- whatever the token is
abbrev AreOrdinary : {A : Type 0} → Judge A → Type 0
AreOrdinary judge = (offset : ℕ) (token : Token) → IsOrdinary (judge offset token)

sound_then : {A B : Type 0} (r : Result A ScriptFault) (f : A → Result B ScriptFault) → IsOrdinary r →
    ((x : A) → IsOrdinary (f x)) → IsOrdinary (r >>= f)
sound_then (Ok x) f h later = later x
sound_then (Err e) f h later = h

sound_option : {A : Type 0} (offset : ℕ) (kind : ScriptKind) (o : Option A) → (kind ≢ BadByte) ×
    (kind ≢ Missing) → IsOrdinary (or_fault offset kind o)
sound_option offset kind (Some x) other = tt
sound_option offset kind None other = other

sound_test : {A : Type 0} (test : Bool) (r s : Result A ScriptFault) → IsOrdinary r → IsOrdinary s →
    IsOrdinary (cond test r s)
sound_test true r s h k = h
sound_test false r s h k = k

choice_sound : {A : Type 0} (meaning : List ℕ → Option A) → AreOrdinary (choice meaning)
choice_sound meaning offset token = sound_option offset UnknownWord (meaning_of meaning token) (λ e. cc, λ e. cc)

in_range_sound : (offset : ℕ) (low high n : ℤ) → IsOrdinary (in_range offset low high n)
in_range_sound offset low high n = sound_test (int_le low n && int_le n high) _ _ tt (λ e. cc, λ e. cc)

number_sound : (low high : ℤ) → AreOrdinary (number low high)
number_sound low high offset token = sound_then (or_fault offset BadNumber (meaning_of value_of token))
    (in_range offset low high) (sound_option offset BadNumber (meaning_of value_of token) (λ e. cc, λ e. cc))
    (in_range_sound offset low high)

next_number_sound : (rule : ListRule) (count offset : ℕ) (n : ℤ) → IsOrdinary (next_number rule count offset n)
next_number_sound rule count offset n = sound_test (nat_le rule.limit count) _ _ (λ e. cc, λ e. cc)
    (in_range_sound offset rule.low rule.high n)

list_end_sound : (rule : ListRule) (count offset : ℕ) → IsOrdinary (list_end rule count offset)
list_end_sound rule count offset = sound_test (is_complete rule.count count) _ _ tt (λ e. cc, λ e. cc)

judged_sound : (rule : ListRule) (count offset : ℕ) (numbers : List ℤ) →
    IsOrdinary (judged rule count offset numbers)
unfolding judged
judged_sound rule count offset [] = list_end_sound rule count offset
judged_sound rule count offset (n ∷ numbers) = sound_then (next_number rule count offset n)
    (λ _. judged rule (count + 1) offset numbers) (next_number_sound rule count offset n)
    (λ _. judged_sound rule (count + 1) offset numbers)

ordinary_sound : {A B : Type 0} (judge : Judge A) (r : Result B ScriptFault) → IsOrdinary r → IsSoundFault judge r
ordinary_sound judge (Ok x) h = tt
ordinary_sound judge (Err f) h = (h.0, λ missing. absurd (h.1 missing))

opening_sound : (tables : Environment) (rule : ListRule) → IsSound (opening tables rule)
opening_sound None rule offset Open = tt
opening_sound None rule offset Close = (λ e. cc, λ e. (None, refl))
opening_sound None rule offset Bad = (λ e. cc, λ e. (None, refl))
opening_sound None rule offset (Run name) = (λ e. cc, λ e. (None, refl))
opening_sound (Some tables) rule offset Open = tt
opening_sound (Some tables) rule offset Close = (λ e. cc, λ e. (None, refl))
opening_sound (Some tables) rule offset Bad = (λ e. cc, λ e. (None, refl))
opening_sound (Some tables) rule offset (Run name) =
    ordinary_sound (opening (Some tables) rule) (opening (Some tables) rule offset (Run name))
    (sound_then (or_fault offset UnknownWord (numbers_of tables name))
    (λ numbers. judged rule 0 offset numbers >>= λ _. Ok (Some numbers))
    (sound_option offset UnknownWord (numbers_of tables name) (λ e. cc, λ e. cc))
    (λ numbers. sound_then (judged rule 0 offset numbers) (λ _. Ok (Some numbers)) (judged_sound rule 0 offset numbers)
    (λ _. tt)))

entry_of_sound : (rule : ListRule) (count offset : ℕ) (o : Option ℤ) →
    IsOrdinary (or_fault offset BadNumber o >>= λ n. next_number rule count offset n >>= λ _. Ok (Some n))
entry_of_sound rule count offset o = sound_then (or_fault offset BadNumber o)
    (λ n. next_number rule count offset n >>= λ _. Ok (Some n)) (sound_option offset BadNumber o (λ e. cc, λ e. cc))
    (λ n. sound_then (next_number rule count offset n) (λ _. Ok (Some n)) (next_number_sound rule count offset n)
    (λ _. tt))

entry_sound : (rule : ListRule) (count : ℕ) → AreOrdinary (entry rule count)
entry_sound rule count offset Open = (λ e. cc, λ e. cc)
entry_sound rule count offset Bad = (λ e. cc, λ e. cc)
entry_sound rule count offset Close =
    sound_then (list_end rule count offset) (λ _. Ok None) (list_end_sound rule count offset) (λ _. tt)
entry_sound rule count offset (Run run) = entry_of_sound rule count offset (value_of run)

table_word_sound : (left : ℕ) → AreOrdinary (table_word left)
table_word_sound left offset token = sound_then (choice (named (codes "table")) offset token) _
    (choice_sound (named (codes "table")) offset token) (λ _. sound_test (eqb left 0) _ _ (λ e. cc, λ e. cc) tt)

new_name_sound : (tables : List Named) → AreOrdinary (new_name tables)
new_name_sound tables offset Open = (λ e. cc, λ e. cc)
new_name_sound tables offset Close = (λ e. cc, λ e. cc)
new_name_sound tables offset Bad = (λ e. cc, λ e. cc)
new_name_sound tables offset (Run run) = sound_test (is_table_name run) _ _
    (sound_test (is_some (numbers_of tables run)) _ _ (λ e. cc, λ e. cc) tt) (λ e. cc, λ e. cc)

conversion_sound : (from : Fmt) → AreOrdinary (conversion from)
conversion_sound from offset token =
    sound_then (choice (by_name format_name every_format) offset token) _
    (choice_sound (by_name format_name every_format) offset token)
    (λ format. sound_test (bytes_eq (format_name format) (format_name from)) _ _ (λ e. cc, λ e. cc) tt)

fed_sound : (offset got : ℕ) (wanted : Option ℕ) → IsOrdinary (fed offset got wanted)
fed_sound offset got None = tt
fed_sound offset got (Some wanted) = sound_test (eqb got wanted) _ _ tt (λ e. cc, λ e. cc)

may_come_sound : (left : ℕ) (correlated : Bool) (flow : Flow) (offset : ℕ) (place : Option Word) →
    IsOrdinary (may_come left correlated flow offset place)
may_come_sound left correlated flow offset None = tt
may_come_sound left correlated flow offset (Some w) = sound_test (eqb left 0) _ _ (λ e. cc, λ e. cc)
    (sound_test (is_correlate w && correlated) _ _ (λ e. cc, λ e. cc)
    (sound_test (has_form w flow.format) _ _ (fed_sound offset flow.channels (row_of w).channels) (λ e. cc, λ e. cc)))

next_block_sound : (left : ℕ) (correlated : Bool) (flow : Flow) → AreOrdinary (next_block left correlated flow)
next_block_sound left correlated flow offset token =
    sound_then (choice place_of offset token)
    (λ place. may_come left correlated flow offset place >>= λ _. Ok place) (choice_sound place_of offset token)
    (λ place. sound_then (may_come left correlated flow offset place) (λ _. Ok place)
    (may_come_sound left correlated flow offset place) (λ _. tt))

-- ---- each place

steady_of : {A : Type 0} (judge : Judge A) → IsMoved judge → AreOrdinary judge → IsSteady judge
steady_of judge moved ordinary =
    record { same = moved; sound = λ offset token. ordinary_sound judge (judge offset token) (ordinary offset token) }

pub choice_steady : {A : Type 0} (meaning : List ℕ → Option A) → IsSteady (choice meaning)
choice_steady meaning = steady_of (choice meaning) (choice_moved meaning) (choice_sound meaning)

pub number_steady : (low high : ℤ) → IsSteady (number low high)
number_steady low high = steady_of (number low high) (number_moved low high) (number_sound low high)

pub opening_steady : (tables : Environment) (rule : ListRule) → IsSteady (opening tables rule)
opening_steady tables rule = record { same = opening_moved tables rule; sound = opening_sound tables rule }

pub entry_steady : (rule : ListRule) (count : ℕ) → IsSteady (entry rule count)
entry_steady rule count = steady_of (entry rule count) (entry_moved rule count) (entry_sound rule count)

pub table_word_steady : (left : ℕ) → IsSteady (table_word left)
table_word_steady left = steady_of (table_word left) (table_word_moved left) (table_word_sound left)

pub new_name_steady : (tables : List Named) → IsSteady (new_name tables)
new_name_steady tables = steady_of (new_name tables) (new_name_moved tables) (new_name_sound tables)

pub conversion_steady : (from : Fmt) → IsSteady (conversion from)
conversion_steady from = steady_of (conversion from) (conversion_moved from) (conversion_sound from)

pub next_block_steady : (left : ℕ) (correlated : Bool) (flow : Flow) → IsSteady (next_block left correlated flow)
next_block_steady left correlated flow = steady_of (next_block left correlated flow)
    (next_block_moved left correlated flow) (next_block_sound left correlated flow)
