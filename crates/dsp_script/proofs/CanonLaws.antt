-- The canonical text is read back.
use Rattle.std.proofs.Common.{◌≡◌, ℕ, zero, suc, ℤ, pos, negsuc, ◌+◌, ◌^◌, ◌<◌, ◌≤◌, Bool, true, false, cond, ◌&&◌}
use Rattle.std.proofs.Common.{eqb, List, [], ◌∷◌, ◌++◌, length, map, get_or, drop, Option, Some, None, refl, sym, ap}
use Rattle.std.proofs.Common.{subst, ◌∙◌, append_assoc, append-nil, arith}
use Rattle.std.specs.Prelude.{codes, nat_le, find}
use Rattle.std.specs.Char.{is_ascii_digit}
use Rattle.std.specs.Fmt.{decimal, signed_decimal}
use Rattle.std.specs.List.{AllByRecursion, flat_map, join_by, list_all}
use Rattle.std.specs.Option.{option_map}
use Rattle.std.specs.Str.Parse.{AllDigits, digits_value}
use Rattle.std.proofs.Math.IntN.{neg_ℤ}
use Rattle.std.proofs.lemmas.Bool.Decides.{nat_tests}
use Rattle.std.proofs.lemmas.Fmt.{decimal_is_IsNumeral_wide, length-decimal-le_wide}
use Rattle.std.proofs.lemmas.Str.{digit_value_digit}
use Rattle.std.proofs.lemmas.Str.Parse.{digit_from_value, digits_value_short, numerals_by_value, tells_digits}
use Rattle.dsp_defs.specs.declared.limits.TheConstants.{MAX_SCRIPT}
use Rattle.dsp_defs.specs.declared.script.Block.{Block}
use Rattle.dsp_defs.specs.declared.format.InputKind.{InputKind}
use Rattle.dsp_defs.specs.declared.format.InputKind.TheVariants as kind
use Rattle.dsp_defs.specs.declared.format.Input.{Input}
use Rattle.dsp_defs.specs.declared.script.Script.{Script}
use Rattle.dsp_defs.specs.Token.{Token, Open, Close, Run, Bad, Item, items, items_from, is_run_byte}
use Rattle.dsp_defs.specs.Numeral.{natural_of, value_of}
use Rattle.dsp_defs.specs.Parameters.{Argument, Number, Listed, Format, IsBetween, least, greatest}
use Rattle.dsp_defs.specs.Tables.{Named, numbers_of, AreTables}
use Rattle.dsp_defs.specs.declared.format.Fmt.TheVariants.{Q31}
use Rattle.std.proofs.lemmas.Int.{ints}
use Rattle.std.specs.Str.{bytes_eq}
use Rattle.dsp_defs.specs.Grammar.{Symbol, Name, Numeral, OpenBrace, CloseBrace, Whole, IsWritten, unwritten, Spells}
use Rattle.dsp_defs.specs.Grammar.{version_symbols, table_symbols, word_of, arguments, argument_symbol, block_symbols}
use Rattle.dsp_defs.specs.Grammar.{input_symbols, length_symbols, symbols, Reads, IsSound, container_of, rate_symbols}
use Rattle.dsp_defs.specs.Grammar.{output_symbols}
use Rattle.dsp_defs.specs.Canon.{symbol_text, line_of, canon}
use Rattle.dsp_script.specs.Plain.{front_symbols, chain_symbols}
use Rattle.dsp_script.specs.Printed.{behind_spaces}
use Rattle.dsp_script.proofs.Tokens.{EndsRun, run_begins}
use Rattle.dsp_script.proofs.Names.{IsRun, word_run, format_run, container_run}
use Rattle.dsp_script.proofs.Numerals.{in_range}
use Rattle.dsp_shape.proofs.Paces.{both_true}

-- ---- numerals

-- the number has a numeral, and the decimal text is one
pub record IsNumeralOf (n : ℤ) : Type 0 where
  pub run : IsRun (signed_decimal n)
  pub value : value_of (signed_decimal n) ≡ Some n

digits_all : (ds : List ℕ) → AllDigits 10 ds → list_all is_ascii_digit ds ≡ true
digits_all [] h = refl
digits_all (c ∷ cs) h = let r = digit_from_value c h.0 in let one : is_ascii_digit c ≡ true =
    grind (arith, nat_tests) in rw (one, digits_all cs h.1) refl

all_digits : (ds : List ℕ) → list_all is_ascii_digit ds ≡ true → AllDigits 10 ds
all_digits [] h = tt
all_digits (c ∷ cs) h = let b = both_true (is_ascii_digit c) (list_all is_ascii_digit cs) h in let r =
    in_range c b.0 in (omega (arith, digit_value_digit c r), all_digits cs b.1)

digits_run : (ds : List ℕ) → list_all is_ascii_digit ds ≡ true → list_all is_run_byte ds ≡ true
digits_run [] h = refl
digits_run (c ∷ cs) h = let b = both_true (is_ascii_digit c) (list_all is_ascii_digit cs) h in let r =
    in_range c b.0 in let one : is_run_byte c ≡ true = grind (arith, nat_tests) in rw (one, digits_run cs b.1) refl

natural_decimal : (n : ℕ) → n < 10 ^ 20 → natural_of (decimal n) ≡ Some n
natural_decimal n small =
    let d = decimal_is_IsNumeral_wide n (omega arith) in
    let most = length-decimal-le_wide 20 n (omega arith) small (omega arith) in
    let some : nat_le 1 (length (decimal n)) ≡ true = grind (arith, nat_tests, d.0.0) in
    let few : nat_le (length (decimal n)) 20 ≡ true = grind (arith, nat_tests, most) in
    rw (some, few, digits_all (decimal n) d.0.1, d.1) refl

chosen_some : (b : Bool) (v n : ℕ) → cond b (Some v) None ≡ Some n → (b ≡ true) × (v ≡ n)
chosen_some true v n e = (refl, cc)
chosen_some false v n e = absurd cc

natural_below : (digits : List ℕ) (n : ℕ) → natural_of digits ≡ Some n → n < 10 ^ 20
natural_below digits n e =
    let t = chosen_some _ (digits_value 10 digits) n e in
    let a = both_true (nat_le 1 (length digits) && nat_le (length digits) 20) (list_all is_ascii_digit digits) t.0 in
    let b = both_true (nat_le 1 (length digits)) (nat_le (length digits) 20) a.0 in
    let few : length digits ≤ 20 = grind (arith, nat_tests, b.1) in
    rw (← t.1) (digits_value_short (numerals_by_value (AllDigits 10) tells_digits) digits 20 (all_digits digits a.1)
    few)

first_digit : (ds : List ℕ) → AllDigits 10 ds → 0 < length ds → eqb (get_or ds 0 0) 45 ≡ false
first_digit [] h some = absurd (omega arith)
first_digit (c ∷ cs) h some = let r = digit_from_value c h.0 in grind (arith, nat_tests)

numeral_positive : (n : ℕ) → n < 10 ^ 20 → IsNumeralOf (pos n)
unfolding value_of
numeral_positive n small =
    let d = decimal_is_IsNumeral_wide n (omega arith) in
    record {
      run = (digits_run (decimal n) (digits_all (decimal n) d.0.1), d.0.0);
      value =
          rw (first_digit (decimal n) d.0.1 d.0.0, natural_decimal n small) refl;
    }

numeral_negative : (n : ℕ) → n < 10 ^ 20 → IsNumeralOf (neg_ℤ (pos n))
unfolding value_of
numeral_negative zero small = numeral_positive 0 small
numeral_negative (suc n) small =
    let d = decimal_is_IsNumeral_wide (suc n) (omega arith) in
    record {
      run = (digits_run (decimal (suc n)) (digits_all (decimal (suc n)) d.0.1), omega arith);
      value =
          rw (natural_decimal (suc n) small) refl;
    }

numeral_again : (run : List ℕ) (n : ℤ) → value_of run ≡ Some n → IsNumeralOf n
unfolding value_of
numeral_again run n e = tested (eqb (get_or run 0 0) 45) (natural_of (drop 1 run)) (natural_of run) refl refl e
  where
    tested : (b : Bool) (x y : Option ℕ) → natural_of (drop 1 run) ≡ x → natural_of run ≡ y →
        cond b (option_map (λ m. neg_ℤ (pos m)) x) (option_map (λ m. pos m) y) ≡ Some n → IsNumeralOf n
    tested true None y p q e = absurd cc
    tested false x None p q e = absurd cc
    tested true (Some m) y p q e = let same : neg_ℤ (pos m) ≡ n = cc in
        subst IsNumeralOf same (numeral_negative m (natural_below (drop 1 run) m p))
    tested false x (Some m) p q e = let same : pos m ≡ n = cc in
        subst IsNumeralOf same (numeral_positive m (natural_below run m q))

-- ---- texts

-- whatever place it stands at, the text has tokens that are written as the symbols
abbrev Lexes : List ℕ → List Symbol → Type 0
Lexes text symbols = (at : ℕ) → Spells [] (items_from false at text) symbols

-- the same, behind a run
record Follows (text : List ℕ) (symbols : List Symbol) : Type 0 where
  ends : EndsRun text
  lexes : Lexes text symbols

nothing : Follows [] []
unfolding items_from
nothing = record { ends = tt; lexes = λ at. tt }

after_newline : (text : List ℕ) (symbols : List Symbol) → Lexes text symbols → Follows (10 ∷ text) symbols
unfolding items_from
after_newline text symbols h = record { ends = refl; lexes = λ at. h (at + 1) }

after_space : (text : List ℕ) (symbols : List Symbol) → Lexes text symbols → Follows (32 ∷ text) symbols
unfolding items_from
after_space text symbols h = record { ends = refl; lexes = λ at. h (at + 1) }

after_open : (numbers : List ℤ) (text : List ℕ) (symbols : List Symbol) →
    Lexes text ((map Numeral numbers ++ CloseBrace ∷ []) ++ symbols) → Follows (123 ∷ text) (Whole numbers ∷ symbols)
unfolding items_from
after_open numbers text symbols h = record { ends = refl; lexes = λ at. (tt, h (at + 1)) }

after_open_brace : (text : List ℕ) (symbols : List Symbol) → Lexes text symbols →
    Follows (123 ∷ text) (OpenBrace ∷ symbols)
unfolding items_from
after_open_brace text symbols h = record { ends = refl; lexes = λ at. (tt, h (at + 1)) }

after_close : (text : List ℕ) (symbols : List Symbol) → Lexes text symbols → Follows (125 ∷ text) (CloseBrace ∷ symbols)
unfolding items_from
after_close text symbols h = record { ends = refl; lexes = λ at. (tt, h (at + 1)) }

pub all_run : (run : List ℕ) → list_all is_run_byte run ≡ true → AllByRecursion (λ b. is_run_byte b ≡ true) run
all_run [] h = tt
all_run (b ∷ run) h = let t = both_true (is_run_byte b) (list_all is_run_byte run) h in (t.0, all_run run t.1)

unwritten_run : (symbol : Symbol) (run : List ℕ) → unwritten symbol (Run run) ≡ []
unwritten_run (Name name) run = refl
unwritten_run (Numeral n) run = refl
unwritten_run OpenBrace run = refl
unwritten_run CloseBrace run = refl
unwritten_run (Whole numbers) run = refl

after_run : (run text : List ℕ) (symbol : Symbol) (symbols : List Symbol) → IsRun run →
    IsWritten [] (Run run) symbol → Follows text symbols → Lexes (run ++ text) (symbol ∷ symbols)
after_run run text symbol symbols is written follows =
    λ at. rw (run_begins at run text (all_run run is.0) is.1 follows.ends, unwritten_run symbol run)
    (written, follows.lexes (at + length run))

after_number : (n : ℤ) (text : List ℕ) (symbols : List Symbol) → IsNumeralOf n → Follows text symbols →
    Lexes (signed_decimal n ++ text) (Numeral n ∷ symbols)
after_number n text symbols is follows = after_run (signed_decimal n) text (Numeral n) symbols is.run is.value follows

-- ---- what can be written

-- all the numbers have numerals
abbrev pub AreNumerals : List ℤ → Type 0
AreNumerals numbers = AllByRecursion IsNumeralOf numbers

-- the numbers of the symbol have numerals
abbrev IsWritable : Symbol → Type 0
IsWritable (Numeral n) = IsNumeralOf n
IsWritable (Whole numbers) = AreNumerals numbers
IsWritable symbol = Unit {0}

abbrev AllWritable : List Symbol → Type 0
AllWritable symbols = AllByRecursion IsWritable symbols

writable_parts : (xs ys : List Symbol) → AllWritable (xs ++ ys) → AllWritable xs × AllWritable ys
writable_parts [] ys h = (tt, h)
writable_parts (x ∷ xs) ys h = let more = writable_parts xs ys h.1 in ((h.0, more.0), more.1)

writable_both : (xs ys : List Symbol) → AllWritable xs → AllWritable ys → AllWritable (xs ++ ys)
writable_both [] ys h k = k
writable_both (x ∷ xs) ys h k = (h.0, writable_both xs ys h.1 k)

writable_numbers : (numbers : List ℤ) (symbols : List Symbol) → AllWritable (map Numeral numbers ++ symbols) →
    AreNumerals numbers
writable_numbers [] symbols h = tt
writable_numbers (n ∷ numbers) symbols h = (h.0, writable_numbers numbers symbols h.1)

-- numbers of 32 bits have numerals
within_numeral : (n : ℤ) → IsBetween (least Q31) (greatest Q31) n → IsNumeralOf n
within_numeral (pos n) h = numeral_positive n (omega (arith, ints))
within_numeral (negsuc n) h = numeral_negative (suc n) (omega (arith, ints))

within_numerals : (numbers : List ℤ) → AllByRecursion (IsBetween (least Q31) (greatest Q31)) numbers →
    AreNumerals numbers
within_numerals [] h = tt
within_numerals (n ∷ numbers) h = (within_numeral n h.0, within_numerals numbers h.1)

-- and so have those of tables
pub table_numerals : (before tables : List Named) (name : List ℕ) (numbers : List ℤ) → AreTables before tables →
    numbers_of tables name ≡ Some numbers → AreNumerals numbers
unfolding numbers_of
table_numerals before [] name numbers are e = absurd cc
table_numerals before (t ∷ tables) name numbers are e =
    tested (bytes_eq name t.name) e (table_numerals (before ++ t ∷ []) tables name numbers are.1)
  where
    tested : (b : Bool) → option_map (λ t. t.numbers) (cond b (Some t) (find (λ t. bytes_eq name t.name) tables)) ≡
        Some numbers → (numbers_of tables name ≡ Some numbers → AreNumerals numbers) → AreNumerals numbers
    tested true e later = let same : t.numbers ≡ numbers = cc in
        rw same at (within_numerals t.numbers are.0.numbers.each)
    tested false e later = later e

writable : (tables : List Named) (token : Token) (symbol : Symbol) → AreTables [] tables →
    IsWritten tables token symbol → AllWritable (unwritten symbol token) → IsWritable symbol
writable tables token (Name name) are h w = tt
writable tables token OpenBrace are h w = tt
writable tables token CloseBrace are h w = tt
writable tables (Run run) (Numeral n) are h w = numeral_again run n h
writable tables Open (Numeral n) are h w = absurd h
writable tables Close (Numeral n) are h w = absurd h
writable tables Bad (Numeral n) are h w = absurd h
writable tables (Run name) (Whole numbers) are h w = table_numerals [] tables name numbers are h
writable tables Open (Whole numbers) are h w = writable_numbers numbers (CloseBrace ∷ []) w
writable tables Close (Whole numbers) are h w = absurd h
writable tables Bad (Whole numbers) are h w = absurd h

all_writable : (tables : List Named) (items : List Item) (symbols : List Symbol) → AreTables [] tables →
    Spells tables items symbols → AllWritable symbols
all_writable tables items [] are h = tt
all_writable tables [] (symbol ∷ symbols) are h = absurd h
all_writable tables (item ∷ items) (symbol ∷ symbols) are h =
    let parts = writable_parts (unwritten symbol item.token) symbols
    (all_writable tables items (unwritten symbol item.token ++ symbols) are h.1) in
    (writable tables item.token symbol are h.0 parts.0, parts.1)

-- ---- symbols

after_spaced : (numbers : List ℤ) (text : List ℕ) (symbols : List Symbol) → AreNumerals numbers →
    Follows text symbols → Follows (flat_map (λ n. codes " " ++ signed_decimal n) numbers ++ text)
    (map Numeral numbers ++ symbols)
after_spaced [] text symbols w follows = follows
after_spaced (n ∷ numbers) text symbols w follows =
    let more = after_spaced numbers text symbols w.1 follows in
    let regrouped : signed_decimal n ++ (flat_map (λ n. codes " " ++ signed_decimal n) numbers ++ text) ≡
    (signed_decimal n ++ flat_map (λ n. codes " " ++ signed_decimal n) numbers) ++ text =
    sym (append_assoc (signed_decimal n) (flat_map (λ n. codes " " ++ signed_decimal n) numbers) text) in
    after_space ((signed_decimal n ++ flat_map (λ n. codes " " ++ signed_decimal n) numbers) ++ text)
    (Numeral n ∷ map Numeral numbers ++ symbols) (subst
    (λ (t : List ℕ). Lexes t (Numeral n ∷ map Numeral numbers ++ symbols)) regrouped
    (after_number n _ (map Numeral numbers ++ symbols) w.0 more))

after_joined : (numbers : List ℤ) (text : List ℕ) (symbols : List Symbol) → AreNumerals numbers →
    Follows text symbols → Lexes (join_by signed_decimal (codes " ") numbers ++ text) (map Numeral numbers ++ symbols)
after_joined [] text symbols w follows = follows.lexes
after_joined (n ∷ numbers) text symbols w follows =
    let spaced = flat_map (λ n. codes " " ++ signed_decimal n) numbers in
    let regrouped : signed_decimal n ++ (spaced ++ text) ≡ (signed_decimal n ++ spaced) ++ text =
    sym (append_assoc (signed_decimal n) spaced text) in
    subst (λ (t : List ℕ). Lexes t (Numeral n ∷ map Numeral numbers ++ symbols)) regrouped
    (after_number n (spaced ++ text) (map Numeral numbers ++ symbols) w.0
    (after_spaced numbers text symbols w.1 follows))

-- a word is a run
abbrev IsRunName : Symbol → Type 0
IsRunName (Name name) = IsRun name
IsRunName symbol = Unit {0}

abbrev AreRunNames : List Symbol → Type 0
AreRunNames symbols = AllByRecursion IsRunName symbols

after_symbol : (s : Symbol) (text : List ℕ) (symbols : List Symbol) → IsRunName s → IsWritable s →
    Follows text symbols → Lexes (symbol_text s ++ text) (s ∷ symbols)
after_symbol (Name name) text symbols is w follows = after_run name text (Name name) symbols is refl follows
after_symbol (Numeral n) text symbols is w follows = after_number n text symbols w follows
after_symbol OpenBrace text symbols is w follows = (after_open_brace text symbols follows.lexes).lexes
after_symbol CloseBrace text symbols is w follows = (after_close text symbols follows.lexes).lexes
after_symbol (Whole numbers) text symbols is w follows =
    let closed = after_close text symbols follows.lexes in
    let inner = after_joined numbers (125 ∷ text) (CloseBrace ∷ symbols) w closed in
    let joined = join_by signed_decimal (codes " ") numbers in
    let symbols_is : map Numeral numbers ++ CloseBrace ∷ symbols ≡ (map Numeral numbers ++ CloseBrace ∷ []) ++ symbols
    = sym (append_assoc (map Numeral numbers) (CloseBrace ∷ []) symbols) in
    let opened = after_open numbers (joined ++ 125 ∷ text) symbols
    (subst (λ (x : List Symbol). Lexes (joined ++ 125 ∷ text) x) symbols_is inner) in
    let text_is : 123 ∷ (joined ++ 125 ∷ text) ≡ symbol_text (Whole numbers) ++ text =
    ap (λ (t : List ℕ). 123 ∷ t) (sym (append_assoc joined (125 ∷ []) text)) in
    subst (λ (t : List ℕ). Lexes t (Whole numbers ∷ symbols)) text_is opened.lexes

after_symbols : (these : List Symbol) (text : List ℕ) (symbols : List Symbol) → AreRunNames these →
    AllWritable these → Follows text symbols → Follows (behind_spaces these ++ text) (these ++ symbols)
after_symbols [] text symbols are w follows = follows
after_symbols (s ∷ these) text symbols are w follows =
    let inner = after_symbol s (behind_spaces these ++ text) (these ++ symbols) are.0 w.0
    (after_symbols these text symbols are.1 w.1 follows) in
    let text_is = sym (append_assoc (symbol_text s) (behind_spaces these) text) in
    after_space ((symbol_text s ++ behind_spaces these) ++ text) (s ∷ these ++ symbols)
    (subst (λ (t : List ℕ). Lexes t (s ∷ these ++ symbols)) text_is inner)

-- ---- lines

after_line : (these : List Symbol) (text : List ℕ) (symbols : List Symbol) → AreRunNames these → AllWritable these →
    Lexes text symbols → Lexes (line_of these ++ text) (these ++ symbols)
after_line [] text symbols are w h = h
after_line (s ∷ these) text symbols are w h =
    let more = after_symbols these (10 ∷ text) symbols are.1 w.1 (after_newline text symbols h) in
    let inner = after_symbol s (behind_spaces these ++ 10 ∷ text) (these ++ symbols) are.0 w.0 more in
    let text_is : symbol_text s ++ (behind_spaces these ++ 10 ∷ text) ≡ line_of (s ∷ these) ++ text =
    sym (append_assoc (symbol_text s ++ behind_spaces these) (10 ∷ []) text ∙
    append_assoc (symbol_text s) (behind_spaces these) (10 ∷ text)) in
    subst (λ (t : List ℕ). Lexes t (s ∷ these ++ symbols)) text_is inner

run_arguments : (args : List Argument) → AreRunNames (map argument_symbol args)
run_arguments [] = tt
run_arguments (Number n ∷ args) = (tt, run_arguments args)
run_arguments (Listed numbers ∷ args) = (tt, run_arguments args)
run_arguments (Format format ∷ args) = (format_run format, run_arguments args)

after_blocks : (blocks : List Block) (text : List ℕ) (symbols : List Symbol) →
    AllWritable (flat_map block_symbols blocks) → Lexes text symbols →
    Lexes (flat_map (λ b. line_of (block_symbols b)) blocks ++ text) (flat_map block_symbols blocks ++ symbols)
after_blocks [] text symbols w h = h
after_blocks (b ∷ blocks) text symbols w h =
    let parts = writable_parts (block_symbols b) (flat_map block_symbols blocks) w in
    let lines = flat_map (λ b. line_of (block_symbols b)) blocks in
    let first = after_line (block_symbols b) (lines ++ text) (flat_map block_symbols blocks ++ symbols)
    (word_run (word_of b), run_arguments (arguments b)) parts.0 (after_blocks blocks text symbols parts.1 h) in
    let text_is = sym (append_assoc (line_of (block_symbols b)) lines text) in
    let symbols_is = sym (append_assoc (block_symbols b) (flat_map block_symbols blocks) symbols) in
    subst (λ (t : List ℕ). Lexes t (flat_map block_symbols (b ∷ blocks) ++ symbols)) text_is
    (subst (λ (x : List Symbol). Lexes (line_of (block_symbols b) ++ (lines ++ text)) x) symbols_is first)

run_length : (frames : Option ℕ) → AreRunNames (length_symbols frames)
run_length None = tt
run_length (Some n) = ((refl, omega arith), (tt, tt))

run_rate : (k : InputKind) → AreRunNames (rate_symbols k)
run_rate kind.Wave = tt
run_rate (kind.Raw rate) = (tt, tt)

run_input : (input : Input) → AreRunNames (input_symbols input)
run_input input = (
  (refl, omega arith),
  (
    container_run (container_of input.kind),
    (format_run input.format, (tt, run_rate input.kind)),
  ),
)

lines_joined : (a b c d e : List ℕ) → a ++ (b ++ (c ++ (d ++ e))) ≡ (((a ++ b) ++ c) ++ d) ++ e
lines_joined a b c d e = simp append_assoc

canon_lexes : (s : Script) → AllWritable (symbols [] s) → Lexes (canon s) (symbols [] s)
canon_lexes s w =
    let version = version_symbols s.version in
    let input = input_symbols s.input in
    let frames = length_symbols s.block in
    let blocks = flat_map block_symbols s.blocks in
    let output = output_symbols s.output in
    let nested : symbols [] s ≡ version ++ (input ++ (frames ++ (blocks ++ output))) = simp append_assoc in
    let p0 = writable_parts version (input ++ (frames ++ (blocks ++ output))) (subst AllWritable nested w) in
    let p1 = writable_parts input (frames ++ (blocks ++ output)) p0.1 in
    let p2 = writable_parts frames (blocks ++ output) p1.1 in
    let p3 = writable_parts blocks output p2.1 in
    let end = after_line output [] [] ((refl, omega arith), (container_run s.output, tt)) p3.1 nothing.lexes in
    let end_text : line_of output ++ [] ≡ line_of output = append-nil (line_of output) in
    let last = subst (λ (t : List ℕ). Lexes t output) end_text end in
    let block_lines = flat_map (λ b. line_of (block_symbols b)) s.blocks in
    let l3 = after_blocks s.blocks (line_of output) output p3.0 last in
    let l2 = after_line frames (block_lines ++ line_of output) (blocks ++ output) (run_length s.block) p2.0 l3 in
    let l1 = after_line input (line_of frames ++ (block_lines ++ line_of output)) (frames ++ (blocks ++ output))
    (run_input s.input) p1.0 l2 in
    let l0 = after_line version (line_of input ++ (line_of frames ++ (block_lines ++ line_of output)))
    (input ++ (frames ++ (blocks ++ output))) ((refl, omega arith), (tt, tt)) p0.0 l1 in
    let text_is = lines_joined (line_of version) (line_of input) (line_of frames) block_lines (line_of output) in
    subst (λ (t : List ℕ). Lexes t (symbols [] s)) text_is
    (subst (λ (x : List Symbol). Lexes (line_of version ++
    (line_of input ++ (line_of frames ++ (block_lines ++ line_of output)))) x) (sym nested) l0)

pub canon_read : (s : Script) → IsSound s → length (canon s) ≤ MAX_SCRIPT → Reads (canon s) s
canon_read s (text, reads) short =
    let written = all_writable reads.tables (items text) (symbols reads.tables s) reads.stand.each reads.spelled in
    let front = writable_parts (front_symbols s) (flat_map table_symbols reads.tables ++ chain_symbols s) written in
    let chain = writable_parts (flat_map table_symbols reads.tables) (chain_symbols s) front.1 in
    record {
      short = short;
      tables = [];
      stand = record { few = omega arith; each = tt; allowed = λ _. refl };
      spelled = canon_lexes s (writable_both (front_symbols s) (chain_symbols s) front.0 chain.1) 0;
      fit = reads.fit;
    }
