-- A text whose tables stand in full where its blocks name them reads as the same script.
use Rattle.std.proofs.Common.{◌≡◌, ℕ, ℤ, ◌+◌, ◌≤◌, List, [], ◌∷◌, ◌++◌, length, take, drop, map, Option, Some, None}
use Rattle.std.proofs.Common.{refl, sym, ap, subst, ◌∙◌, length-append, arith}
use Rattle.std.specs.Fmt.{signed_decimal}
use Rattle.std.specs.List.{AllByRecursion, flat_map}
use Rattle.std.proofs.lemmas.List.Concat.{flat_map-cons}
use Rattle.dsp_defs.specs.declared.format.InputKind.{InputKind}
use Rattle.dsp_defs.specs.declared.format.InputKind.TheVariants as kind
use Rattle.dsp_defs.specs.declared.limits.TheConstants.{MAX_SCRIPT}
use Rattle.dsp_defs.specs.declared.script.Script.{Script}
use Rattle.dsp_defs.specs.Token.{Token, Open, Close, Run, Bad, Item, items}
use Rattle.dsp_defs.specs.Tables.{Named, AreTables}
use Rattle.dsp_defs.specs.Grammar.{Symbol, Name, Numeral, OpenBrace, CloseBrace, Whole, IsWritten, unwritten, Spells}
use Rattle.dsp_defs.specs.Grammar.{rate_symbols, length_symbols, table_symbols, symbols, Reads}
use Rattle.dsp_script.specs.Plain.{front_symbols, chain_symbols, tokens, in_place, in_full, plain_tokens}
use Rattle.dsp_script.proofs.Steps.{IsOne, written_any, unwritten_one, Strips, Strips-append, Strips-split}
use Rattle.dsp_script.proofs.Steps.{Strips-from_spells, spells_from_Strips}
use Rattle.dsp_script.proofs.ListLaws.{braced_one}
use Rattle.dsp_script.proofs.CanonLaws.{AreNumerals, table_numerals}

-- ---- tokens alone

-- the tokens, as items of some text
abbrev pub as_items : List Token → List Item
as_items ts = map (λ token. record { offset = 0; token = token }) ts

-- what is spelled depends on the tokens alone
spelled_by_tokens : (xs : List Item) (ts : List Token) (symbols : List Symbol) → tokens xs ≡ ts →
    Spells [] (as_items ts) symbols → Spells [] xs symbols
spelled_by_tokens [] [] symbols e h = h
spelled_by_tokens [] (t ∷ ts) symbols e h = absurd cc
spelled_by_tokens (x ∷ xs) [] symbols e h = absurd cc
spelled_by_tokens (x ∷ xs) (t ∷ ts) [] e h = absurd h
spelled_by_tokens (x ∷ xs) (t ∷ ts) (symbol ∷ symbols) e h =
    let same : t ≡ x.token = cc in
    let more : tokens xs ≡ ts = cc in
    let first : IsWritten [] x.token symbol = rw same at h.0 in
    let then : Spells [] (as_items ts) (unwritten symbol x.token ++ symbols) = rw same at h.1 in
    (first, spelled_by_tokens xs ts (unwritten symbol x.token ++ symbols) more then)

-- ---- symbols of one token each

one_both : (xs ys : List Symbol) → AllByRecursion IsOne xs → AllByRecursion IsOne ys → AllByRecursion IsOne (xs ++ ys)
one_both [] ys h k = k
one_both (x ∷ xs) ys h k = (h.0, one_both xs ys h.1 k)

one_rate : (k : InputKind) → AllByRecursion IsOne (rate_symbols k)
one_rate kind.Wave = tt
one_rate (kind.Raw rate) = (tt, tt)

one_length : (frames : Option ℕ) → AllByRecursion IsOne (length_symbols frames)
one_length None = tt
one_length (Some n) = (tt, (tt, tt))

one_front : (s : Script) → AllByRecursion IsOne (front_symbols s)
one_front s = (
  tt,
  (
    tt,
    (
      tt,
      (
        tt,
        (
          tt,
          (
            tt,
            one_both (rate_symbols s.input.kind) (length_symbols s.block)
                (one_rate s.input.kind) (one_length s.block),
          ),
        ),
      ),
    ),
  ),
)

one_tables : (tables : List Named) → AllByRecursion IsOne (flat_map table_symbols tables)
one_tables [] = tt
one_tables (t ∷ tables) = subst (AllByRecursion IsOne) (sym (flat_map-cons table_symbols t tables))
    (one_both (table_symbols t) (flat_map table_symbols tables) (tt, (tt, braced_one t.numbers)) (one_tables tables))

dropped : (tables : List Named) (items : List Item) (symbols : List Symbol) (left : List Item) →
    AllByRecursion IsOne symbols → Strips tables items symbols left → drop (length symbols) items ≡ left
dropped tables items [] left one h = h
dropped tables [] (x ∷ xs) left one h = absurd h
dropped tables (item ∷ items) (x ∷ xs) left one h = dropped tables items xs left one.1
    (rw (unwritten_one x item.token one.0) at h.1)

front_spelled : (tables : List Named) (items left : List Item) (front symbols : List Symbol) (ts : List Token) →
    AllByRecursion IsOne front → Strips tables items front left → Spells [] (as_items ts) symbols →
    Spells [] (as_items (tokens (take (length front) items) ++ ts)) (front ++ symbols)
front_spelled tables items left [] symbols ts one h then = then
front_spelled tables [] left (x ∷ xs) symbols ts one h then = absurd h
front_spelled tables (item ∷ items) left (x ∷ xs) symbols ts one h then =
    let none = unwritten_one x item.token one.0 in (
      written_any tables [] item.token x one.0 h.0,
      rw none
          (front_spelled tables items left xs symbols ts one.1 (rw none at h.1) then),
    )

-- ---- lists

numbers_spelled : (numbers : List ℤ) (ts : List Token) (symbols : List Symbol) → AreNumerals numbers →
    Spells [] (as_items ts) symbols
    → Spells [] (as_items ((map (λ n. Run (signed_decimal n)) numbers ++ Close ∷ []) ++ ts))
    ((map Numeral numbers ++ CloseBrace ∷ []) ++ symbols)
numbers_spelled [] ts symbols w h = (tt, h)
numbers_spelled (n ∷ numbers) ts symbols w h = (w.0.value, numbers_spelled numbers ts symbols w.1 h)

full_spelled : (tables : List Named) (items : List Item) (symbols : List Symbol) → AreTables [] tables →
    Spells tables items symbols → Spells [] (as_items (in_full items symbols)) symbols
full_spelled tables [] [] are h = tt
full_spelled tables [] (x ∷ xs) are h = absurd h
full_spelled tables (item ∷ items) [] are h = absurd h
full_spelled tables (item ∷ items) (x ∷ xs) are h = cases x item.token h.0
    (full_spelled tables items (unwritten x item.token ++ xs) are h.1)
  where
    cases : (x : Symbol) (token : Token) → IsWritten tables token x →
        Spells [] (as_items (in_full items (unwritten x token ++ xs))) (unwritten x token ++ xs) →
        Spells [] (as_items (in_place x token ++ in_full items (unwritten x token ++ xs))) (x ∷ xs)
    cases (Name name) token w more = (written_any tables [] token (Name name) tt w, more)
    cases (Numeral n) token w more = (written_any tables [] token (Numeral n) tt w, more)
    cases OpenBrace token w more = (written_any tables [] token OpenBrace tt w, more)
    cases CloseBrace token w more = (written_any tables [] token CloseBrace tt w, more)
    cases (Whole numbers) Open w more = (tt, more)
    cases (Whole numbers) Close w more = absurd w
    cases (Whole numbers) Bad w more = absurd w
    cases (Whole numbers) (Run name) w more = (
      tt,
      numbers_spelled numbers (in_full items xs) xs
          (table_numerals [] tables name numbers are w) more,
    )

-- ---- texts

pub plain_read : (text plain : List ℕ) (s : Script) (reads : Reads text s) →
    tokens (items plain) ≡ plain_tokens reads.tables (items text) s → length plain ≤ MAX_SCRIPT → Reads plain s
plain_read text plain s reads same short =
    let tables = reads.tables in
    let front = front_symbols s in
    let named = flat_map table_symbols tables in
    let strips = Strips-from_spells tables (items text) (symbols tables s) reads.spelled in
    let a = Strips-split tables (items text) front (named ++ chain_symbols s) [] strips in
    let n = Strips-split tables a.0 named (chain_symbols s) [] a.2 in
    let both = Strips-append tables (items text) front named a.0 n.0 a.1 n.1 in
    let count : length (front ++ named) ≡ length front + length named = length-append front named in
    let left : drop (length front + length named) (items text) ≡ n.0 =
    rw count at (dropped tables (items text) (front ++ named) n.0
    (one_both front named (one_front s) (one_tables tables)) both) in
    let chain = full_spelled tables n.0 (chain_symbols s) reads.stand.each
    (spells_from_Strips tables n.0 (chain_symbols s) n.2) in
    let whole = front_spelled tables (items text) a.0 front (chain_symbols s) (in_full n.0 (chain_symbols s))
    (one_front s) a.1 chain in
    let tokens_are : tokens (items plain) ≡ tokens (take (length front) (items text)) ++ in_full n.0 (chain_symbols s)
    = same ∙ ap (λ (left : List Item). tokens (take (length front) (items text)) ++ in_full left (chain_symbols s))
    left in
    record {
      short = short;
      tables = [];
      stand = record { few = omega arith; each = tt; allowed = λ _. refl };
      spelled = spelled_by_tokens (items plain) (tokens (take (length front) (items text)) ++ in_full n.0
          (chain_symbols s)) (symbols [] s) tokens_are whole;
      fit = reads.fit;
    }
