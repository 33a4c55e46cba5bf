-- Where the first fault of a text stands, that nothing can follow it, and what can follow what is before it.
use Rattle.std.proofs.Common.{map, ◌≡◌, ℕ, ◌+◌, ◌<◌, ◌≤◌, true, false, ltb, List, [], ◌∷◌, ◌++◌, length, Some, take}
use Rattle.std.proofs.Common.{Result, Ok, Err, refl, sym, ap, subst, ◌∙◌, append_assoc, append-nil, length-append}
use Rattle.std.proofs.Common.{arith, inl, inr}
use Rattle.std.specs.Prelude.{codes, ⊤, ◌⊎◌, ◌↔◌}
use Rattle.std.specs.List.{AllByRecursion}
use Rattle.dsp_defs.specs.declared.limits.TheConstants.{MAX_TAPS, MAX_SCRIPT}
use Rattle.dsp_defs.specs.declared.list_rule.Count.TheVariants.{MultipleOf}
use Rattle.dsp_defs.specs.Parameters.{is_complete}
use Rattle.dsp_first_fault.proofs.Endings.{IsWritable, IsEnding, ending_none, ending_wider, written}
use Rattle.dsp_first_fault.proofs.Forms.{complete_at, block_most}
use Rattle.std.specs.Result.{result_err}
use Rattle.std.proofs.lemmas.Bool.{le-ltb, cases_lt}
use Rattle.std.proofs.lemmas.List.{take_all, length-take-le}
use Rattle.std.proofs.lemmas.Bool.Decides.{nat_tests}
use Rattle.dsp_defs.specs.declared.script_fault.ScriptFault.{ScriptFault}
use Rattle.dsp_defs.specs.declared.script_fault.ScriptKind.{ScriptKind}
use Rattle.dsp_defs.specs.declared.script_fault.ScriptKind.TheVariants.{TooLong, BadByte, UnknownWord, Missing}
use Rattle.dsp_defs.specs.declared.script.Script.{Script}
use Rattle.dsp_defs.specs.Token.{Token, Open, Close, Run, Bad, Item, Rest, items, items_from, rest_of}
use Rattle.dsp_defs.specs.Places.{◌>>=◌, fault}
use Rattle.dsp_defs.specs.Reading.{nothing_of, script_at, reading, first_fault}
use Rattle.dsp_script.specs.Plain.{tokens}
use Rattle.dsp_script.proofs.Steps.{bind_ok}
use Rattle.dsp_script.proofs.ScriptLaws.{reading_read, reading_takes}
use Rattle.dsp_first_fault.proofs.Readers.{IsBadByte, NoneRead, TakesAs, Took, Faulty, Wants, Completion, Hope, Goes}
use Rattle.dsp_first_fault.specs.Fault.{IsFaultAt, CanGoOn, Place, AtItem, AtEnd, AtLimit, IsFull, CanBeEnded, room}
use Rattle.dsp_first_fault.proofs.Items.{rest_at, parted, nothing_quiet, quiet_behind, tokens_append}
use Rattle.dsp_first_fault.proofs.Texts.{behind_newline, cut_at, written_again}
use Rattle.dsp_first_fault.proofs.Scripts.{script_reader, script_outcome, whole, script_is, room_from}
use Rattle.dsp_first_fault.proofs.Offsets.{AreRising, rising, stands_behind, one_place}

-- wherever these tokens stand, and this one behind them, the script has its first fault there
abbrev EndsAt : List Token → Token → ScriptKind → Type 0
EndsAt ts token kind = (others ys : List Item) (other : Item) (end : ℕ) → tokens others ≡ ts → other.token ≡ token →
    script_at (rest_at (others ++ other ∷ ys) end) ≡ fault {A = Script} other.offset kind

-- tokens that end these, so that they are a script
pub record Ended (ts : List Token) : Type 0 where
  more : List Token
  script : Script
  ending : IsEnding (block_most + 11) more
  reads : (others : List Item) (end : ℕ) → tokens others ≡ ts ++ more →
      script_at (rest_at others end) ≡ Ok script

-- no script begins with these tokens
abbrev NoScript : List Token → Type 0
NoScript ts = (others ys : List Item) (end : ℕ) (s : Script) → tokens others ≡ ts →
    script_at (rest_at (others ++ ys) end) ≡ Ok s → ⊥

-- the tokens can be ended; or they are full, and nothing ends them
abbrev EndsOrFull : List Token → Type 0
EndsOrFull ts = Ended ts ⊎ (IsFull ts × NoScript ts)

-- what is known of the item at which the first fault is
pub record AtFault (front : List Item) (item : Item) (f : ScriptFault) : Type 0 where
  ends : EndsAt (tokens front) item.token f.kind
  bad : IsBadByte f.kind item.token
  brace : f.kind ≡ Missing → EndsOrFull (tokens front ++ Open ∷ [])

-- where a fault of these items stands
pub data Stands (items : List Item) (end : ℕ) (f : ScriptFault) : Type 0 where
  AnItem : (front back : List Item) (item : Item) → items ≡ front ++ item ∷ back → item.offset ≡ f.offset →
      AtFault front item f → EndsOrFull (tokens front) → Stands items end f
  TheEnd : f.offset ≡ end → f.kind ≡ Missing → EndsOrFull (tokens items) → Stands items end f

-- what an item is that stands behind the script
abbrev behind_kind : Token → ScriptKind
behind_kind Bad = BadByte
behind_kind token = UnknownWord

behind_bad : (token : Token) (kind other : ScriptKind) → behind_kind token ≡ kind → kind ≡ other →
    IsBadByte other token
behind_bad Bad kind other e same = (λ _. refl, λ _. sym same ∙ sym e)
behind_bad Open kind other e same = (λ is. absurd cc, λ bad. absurd cc)
behind_bad Close kind other e same = (λ is. absurd cc, λ bad. absurd cc)
behind_bad (Run run) kind other e same = (λ is. absurd cc, λ bad. absurd cc)

behind_other : (token : Token) → behind_kind token ≡ Missing → ⊥
behind_other Bad e = cc
behind_other Open e = cc
behind_other Close e = cc
behind_other (Run run) e = cc

something_left : (item : Item) (items : List Item) →
    nothing_of (item ∷ items) ≡ fault item.offset (behind_kind item.token)
something_left item items = elim item.token as (λ (t : Token). nothing_of (record { offset = item.offset; token = t } ∷
    items) ≡ fault item.offset (behind_kind t)) [ Bad ↦ refl | Open ↦ refl | Close ↦ refl | Run run ↦ refl ]

-- the script, or the fault of what is left behind it
abbrev ended : Script → List Item → Result Script ScriptFault
ended s left = nothing_of left >>= λ _. Ok s

-- the fault of a script
abbrev failed : ScriptFault → Result Script ScriptFault
failed f = Err f

fault_is : (a b : ScriptFault) → failed a ≡ failed b → a ≡ b
fault_is a b e = cc

ended_fault : (s : Script) (item : Item) (items : List Item) →
    ended s (item ∷ items) ≡ fault item.offset (behind_kind item.token)
ended_fault s item items = ap (λ (r : Result ⊤ ScriptFault). r >>= λ _. Ok s) (something_left item items)

taken_whole : (rest after : Rest) (s : Script) → script_reader rest ≡ Ok (s, after) →
    script_at rest ≡ ended s after.items
taken_whole rest after s e = sym (script_is rest) ∙ ap whole e

failed_whole : (rest : Rest) (offset : ℕ) (kind : ScriptKind) → script_reader rest ≡ fault offset kind →
    script_at rest ≡ fault offset kind
failed_whole rest offset kind e = sym (script_is rest) ∙ ap whole e

-- what ends the tokens of the reader ends the script
ended_whole : (room : ℕ) (ts : List Token) → room ≤ block_most + 11 → Completion script_reader room ts → Ended ts
ended_whole room ts le c = record {
  more = c.more;
  script = c.x;
  ending = ending_wider room (block_most + 11) c.more le c.ending;
  reads = λ others end same.
      ap (λ (xs : List Item). script_at (rest_at xs end)) (sym (append-nil others)) ∙
      taken_whole (rest_at (others ++ []) end) (rest_at [] end) c.x
      (c.takes others [] end same (inr nothing_quiet));
}

no_script : (ts : List Token) → NoneRead script_reader ts → NoScript ts
no_script ts none others ys end s same e =
    let b = bind_ok (script_reader (rest_at (others ++ ys) end)) _ s (script_is (rest_at (others ++ ys) end) ∙ e) in
    none others ys end b.0 same b.1

hoped : (ts : List Token) → Hope IsFull script_reader (room_from 67) ts → EndsOrFull ts
hoped [] c = inl (ended_whole 67 [] (omega arith) c)
hoped (t ∷ ts) (inl c) = inl (ended_whole (block_most + 11) (t ∷ ts) (omega arith) c)
hoped (t ∷ ts) (inr (full, none)) = inr (full, no_script (t ∷ ts) none)

-- a fault of the same offset and kind
fault_parts : (r : Result Script ScriptFault) (offset : ℕ) (kind : ScriptKind) (f : ScriptFault) → r ≡ failed f →
    r ≡ fault offset kind → (offset ≡ f.offset) × (kind ≡ f.kind)
fault_parts r offset kind f e g =
    let same = fault_is (record { offset = offset; kind = kind }) f (sym g ∙ e) in
    (ap (λ (f : ScriptFault). f.offset) same, ap (λ (f : ScriptFault). f.kind) same)

taken_stands : (front left items : List Item) (s : Script) (end : ℕ) (f : ScriptFault) → items ≡ front ++ left →
    TakesAs script_reader (tokens front) s left → ended s left ≡ failed f → Stands items end f
taken_stands front [] items s end f split takes e = absurd cc
taken_stands front (item ∷ back) items s end f split takes e =
    let p = fault_parts (ended s (item ∷ back)) item.offset (behind_kind item.token) f e (ended_fault s item back) in
    AnItem front back item split p.0 (record {
      ends = subst (EndsAt (tokens front) item.token) p.1
          (λ others ys other at here there.
          taken_whole (rest_at (others ++ other ∷ ys) at) (rest_at (other ∷ ys) at) s
          (takes others (other ∷ ys) at here (inl (ap (λ (t : Token). Some t) there))) ∙
          ended_fault s other ys ∙ ap (λ (t : Token). fault other.offset (behind_kind t)) there);
      bad = behind_bad item.token (behind_kind item.token) f.kind refl p.1;
      brace = λ missing. absurd (behind_other item.token (p.1 ∙ missing));
    })
    (inl (ended_whole 0 (tokens front) (omega arith) (record {
      more = [];
      x = s;
      ending = ending_none 0;
      takes = λ others ys end same admits. takes others ys end (same ∙ append-nil (tokens front)) (inr
          (quiet_behind ys admits));
    })))

stands_of_fault : (items : List Item) (end : ℕ) (f : ScriptFault) → script_at (rest_at items end) ≡ failed f →
    Stands items end f
stands_of_fault items end f e = cases (script_outcome items end)
  where
    cases : Goes IsFull script_reader (room_from 67) (rest_at items end) → Stands items end f
    cases (Took front left s split takes) =
        let read = taken_whole (rest_at (front ++ left) end) (rest_at left end) s
        (takes front left end refl (inl refl)) in
        taken_stands front left items s end f split takes
        (sym read ∙ ap (λ (xs : List Item). script_at (rest_at xs end)) (sym split) ∙ e)
    cases (Faulty front back item kind split bad faults hope brace) =
        let here = failed_whole (rest_at (front ++ item ∷ back) end) item.offset kind
        (faults front back item end refl refl) in
        let p = fault_parts (script_at (rest_at items end)) item.offset kind f e
        (ap (λ (xs : List Item). script_at (rest_at xs end)) split ∙ here) in
        AnItem front back item split p.0 (record {
          ends = subst (EndsAt (tokens front) item.token) p.1
              (λ others ys other at here there. failed_whole (rest_at (others ++ other ∷ ys) at) other.offset kind
              (faults others ys other at here there));
          bad = subst (λ (k : ScriptKind). IsBadByte k item.token) p.1 bad;
          brace = λ missing. hoped (tokens front ++ Open ∷ []) (brace (p.1 ∙ missing));
        }) (hoped (tokens front) hope)
    cases (Wants w hope) =
        let p = fault_parts (script_at (rest_at items end)) end Missing f e
        (failed_whole (rest_at items end) end Missing w)
        in TheEnd (sym p.0) (sym p.1) (hoped (tokens items) hope)

-- ---- texts

-- a text that is short is read from its begin
abbrev begun : List ℕ → Result Script ScriptFault
begun text = script_at (rest_of 0 text)

short_reading : (text : List ℕ) → length text ≤ MAX_SCRIPT → reading text ≡ begun text
unfolding reading
short_reading text short = let fits : ltb MAX_SCRIPT (length text) ≡ false = le-ltb _ _ short in rw fits refl

long_reading : (text : List ℕ) → MAX_SCRIPT < length text → reading text ≡ fault MAX_SCRIPT TooLong
unfolding reading
long_reading text long = let past : ltb MAX_SCRIPT (length text) ≡ true = grind (arith, nat_tests) in rw past refl

fault_of : (r : Result Script ScriptFault) (f : ScriptFault) → result_err r ≡ Some f → r ≡ failed f
fault_of (Ok s) f e = absurd cc
fault_of (Err g) f e = let same : g ≡ f = cc in ap failed same

in_text : (text : List ℕ) → AreRising 0 (length text) (items text)
in_text text = rising false 0 (length text) text (omega arith)

pub one_item : (text : List ℕ) (fault : ScriptFault) (front other : List Item) (item it : Item) →
    IsFaultAt text front item fault → IsFaultAt text other it fault → (front ≡ other) × (item ≡ it)
one_item text fault front other item it is same =
    one_place 0 (length text) front other is.back same.back item it
    (subst (AreRising 0 (length text)) is.stands (in_text text)) (sym is.stands ∙ same.stands)
    (is.here ∙ sym same.here)

pub fault_place : (text : List ℕ) (f : ScriptFault) → first_fault text ≡ Some f → Place text f
fault_place text f e = by_length (cases_lt MAX_SCRIPT (length text))
  where
    placed : length text ≤ MAX_SCRIPT → Stands (items text) (length text) f → Place text f
    placed short (AnItem front back item split here known hope) = AtItem front item
        (record { first = e; short = short; back = back; stands = split; here = here })
    placed short (TheEnd offset kind hope) = AtEnd offset kind

    by_length : (MAX_SCRIPT < length text) ⊎ (length text ≤ MAX_SCRIPT) → Place text f
    by_length (inl long) =
        let p = fault_parts (reading text) MAX_SCRIPT TooLong f (fault_of (reading text) f e)
        (long_reading text long) in
        AtLimit long (sym p.0) (sym p.1)
    by_length (inr short) = placed short (stands_of_fault (items text) (length text) f
        (sym (short_reading text short) ∙ fault_of (reading text) f e))

-- behind the tokens before a fault, the same token is the same fault
at_fault : (text : List ℕ) (front : List Item) (item : Item) (f : ScriptFault) → IsFaultAt text front item f →
    AtFault front item f
at_fault text front item f is = cases (stands_of_fault (items text) (length text) f
    (sym (short_reading text is.short) ∙ fault_of (reading text) f is.first))
  where
    split : AreRising 0 (length text) (front ++ item ∷ is.back)
    split = subst (AreRising 0 (length text)) is.stands (in_text text)

    cases : Stands (items text) (length text) f → AtFault front item f
    cases (AnItem other back it split2 here known hope) =
        let same = one_place 0 (length text) front other is.back back item it split (sym is.stands ∙ split2)
        (is.here ∙ sym here) in
        rw (same.0, same.1) known
    cases (TheEnd offset missing hope) =
        let within = stands_behind 0 (length text) front is.back item split in
        absurd (omega (arith, within.1, is.here, offset))

pub bad_bytes : (text : List ℕ) (front : List Item) (item : Item) (f : ScriptFault) → IsFaultAt text front item f →
    (f.kind ≡ BadByte) ↔ (item.token ≡ Bad)
bad_bytes text front item f is = (at_fault text front item f is).bad

pub nothing_follows : (text : List ℕ) (front : List Item) (item : Item) (f : ScriptFault) →
    IsFaultAt text front item f → CanGoOn (tokens front ++ item.token ∷ []) → ⊥
nothing_follows text front item f is on =
    let joined : (tokens front ++ item.token ∷ []) ++ on.back ≡ tokens front ++ item.token ∷ on.back =
    append_assoc (tokens front) (item.token ∷ []) on.back in
    let p = parted (tokens front) (item.token ∷ on.back) (items on.text) (on.begins ∙ joined) in
    cases p.0 p.1 p.2 p.3 p.4
  where
    cases : (others ys : List Item) → items on.text ≡ others ++ ys → tokens others ≡ tokens front →
        tokens ys ≡ item.token ∷ on.back → ⊥
    cases others [] split same more = cc
    cases others (it ∷ ys) split same more =
        let here : it.token ≡ item.token = cc in
        let read : begun on.text ≡ Ok on.script =
        sym (short_reading on.text on.reads.short) ∙ reading_read on.text on.script on.reads in
        let ends = (at_fault text front item f is).ends others ys it (length on.text) same here in
        let at : begun on.text ≡ fault it.offset f.kind =
        ap (λ (xs : List Item). script_at (rest_at xs (length on.text))) split ∙ ends in
        cc

pub same_follows : (text : List ℕ) (front : List Item) (item : Item) (f : ScriptFault) →
    IsFaultAt text front item f → (other : List ℕ) (before back : List Item) (it : Item) →
    items other ≡ before ++ it ∷ back → tokens before ≡ tokens front → it.token ≡ item.token →
    length other ≤ MAX_SCRIPT → IsFaultAt other before it (record { offset = it.offset; kind = f.kind })
same_follows text front item f is other before back it split same here short = record {
  first = ap result_err (short_reading other short ∙
      ap (λ (xs : List Item). script_at (rest_at xs (length other))) split ∙
      (at_fault text front item f is).ends before back it (length other) same here);
  short = short;
  back = back;
  stands = split;
  here = refl;
}

-- ---- what can follow

-- tokens that are written behind a text
spelled_behind : (text : List ℕ) (ts : List Token) → AllByRecursion IsWritable ts →
    tokens (items (text ++ 10 ∷ written ts)) ≡ tokens (items text) ++ ts
spelled_behind text ts writable =
    ap tokens (behind_newline false 0 text (written ts)) ∙
    tokens_append (items text) (items_from false (0 + length text + 1) (written ts)) ∙
    ap (λ (more : List Token). tokens (items text) ++ more) (written_again ts (0 + length text + 1) writable)

-- bytes that end the text behind these
bytes_end : (text : List ℕ) → length text + room ≤ MAX_SCRIPT → Ended (tokens (items text)) → CanBeEnded text
bytes_end text fits e =
    let more = 10 ∷ written e.more in
    let whole = text ++ more in
    let long : length whole ≡ length text + length more = length-append text more in
    let few : length more ≤ room = omega (arith, e.ending.short) in
    let short : length whole ≤ MAX_SCRIPT = omega arith in
    record {
      more = more;
      few = few;
      script = e.script;
      reads = reading_takes whole e.script (short_reading whole short ∙
          e.reads (items whole) (length whole) (spelled_behind text e.more e.ending.writable));
    }

-- with a brace behind a text, it can be ended
brace_ends : (text : List ℕ) → length text + room ≤ MAX_SCRIPT → Ended (tokens (items text) ++ Open ∷ []) →
    CanGoOn (tokens (items text) ++ Open ∷ [])
brace_ends text fits e =
    let more = Open ∷ e.more in
    let whole = text ++ 10 ∷ written more in
    let long : length whole ≡ length text + length (10 ∷ written more) = length-append text (10 ∷ written more) in
    let short : length whole ≤ MAX_SCRIPT = omega (arith, e.ending.short) in
    let spelled : tokens (items whole) ≡ (tokens (items text) ++ Open ∷ []) ++ e.more =
    spelled_behind text more (tt, e.ending.writable) ∙
    sym (append_assoc (tokens (items text)) (Open ∷ []) e.more) in
    record {
      text = whole;
      script = e.script;
      back = e.more;
      begins = spelled;
      reads = reading_takes whole e.script
          (short_reading whole short ∙ e.reads (items whole) (length whole) spelled);
    }

-- what ends with a brace does not end with a run
no_run_end : (xs ys : List Token) (run : List ℕ) → xs ++ Open ∷ [] ≡ ys ++ Run run ∷ [] → ⊥
no_run_end [] [] run e = cc
no_run_end [] (y ∷ []) run e = cc
no_run_end [] (y ∷ z ∷ ys) run e = cc
no_run_end (x ∷ []) [] run e = cc
no_run_end (x ∷ z ∷ xs) [] run e = cc
no_run_end (x ∷ xs) (y ∷ ys) run e = let later : xs ++ Open ∷ [] ≡ ys ++ Run run ∷ [] = cc in no_run_end xs ys run later

last_run : (run : List ℕ) (runs : List (List ℕ)) → (front : List Token) × (last : List ℕ) ×
    (map Run (run ∷ runs) ≡ front ++ Run last ∷ [])
last_run run [] = ([], run, refl)
last_run run (next ∷ runs) =
    let more = last_run next runs in
    (Run run ∷ more.0, more.1, ap (λ (ts : List Token). Run run ∷ ts) more.2)

-- nothing is full that ends with a brace
not_full : (ts : List Token) → IsFull (ts ++ Open ∷ []) → ⊥
not_full ts full = cases full.taps full.ends (full.none full.factor)
  where
    cases : (taps : List (List ℕ)) → ts ++ Open ∷ [] ≡ full.before ++ Run (codes "interpolate") ∷ Run full.numeral ∷
        Open ∷ map Run taps → (length taps ≤ full.factor → full.factor ≤ MAX_TAPS →
        is_complete (MultipleOf full.factor) full.factor ≡ false) → ⊥
    cases [] e none =
        let unfinished = none (omega arith) (omega (arith, full.small.1)) in
        let finished = complete_at full.factor full.small.0 in
        cc
    cases (run ∷ runs) e none =
        let last = last_run run runs in
        let head = Run (codes "interpolate") ∷ Run full.numeral ∷ Open ∷ last.0 in
        no_run_end ts (full.before ++ head) last.1
        (e ∙ ap (λ (more : List Token). full.before ++ Run (codes "interpolate") ∷ Run full.numeral ∷ Open ∷ more)
        last.2 ∙ sym (append_assoc full.before head (Run last.1 ∷ [])))

-- the items before a fault are those of the bytes before it
pub items_before : (text : List ℕ) (front : List Item) (item : Item) (f : ScriptFault) →
    IsFaultAt text front item f → items (take f.offset text) ≡ front
items_before text front item f is =
    let none : f.offset ≡ 0 + f.offset = omega arith in
    cut_at f.offset false 0 text front is.back item is.stands (is.here ∙ none)

-- a text that begins with tokens with which no script begins does not read as one
no_text : (ts : List Token) → NoScript ts → CanGoOn ts → ⊥
no_text ts none on =
    let p = parted ts on.back (items on.text) on.begins in
    none p.0 p.1 (length on.text) on.script p.3
    (ap (λ (xs : List Item). script_at (rest_at xs (length on.text))) (sym p.2) ∙
    sym (short_reading on.text on.reads.short) ∙ reading_read on.text on.script on.reads)

-- the bytes can be ended; or they are full, and nothing ends them
abbrev Follows : List ℕ → Type 0
Follows front = CanBeEnded front ⊎ (IsFull (tokens (items front)) × (CanGoOn (tokens (items front)) → ⊥))

-- as many bytes as stand before the fault
ended_front : (text : List ℕ) (at : ℕ) → at ≤ length text → at + room ≤ MAX_SCRIPT →
    EndsOrFull (tokens (items (take at text))) → Follows (take at text)
ended_front text at within fits (inr (full, none)) =
    inr (full, no_text (tokens (items (take at text))) none)
ended_front text at within fits (inl e) =
    let long : length (take at text) ≡ at = length-take-le at text within in
    inl (bytes_end (take at text) (omega arith) e)

pub something_follows : (text : List ℕ) (f : ScriptFault) → first_fault text ≡ Some f →
    f.offset + room ≤ MAX_SCRIPT → Follows (take f.offset text)
something_follows text f e fits = by_length (cases_lt MAX_SCRIPT (length text))
  where
    stands : length text ≤ MAX_SCRIPT → Stands (items text) (length text) f
    stands short = stands_of_fault (items text) (length text) f
        (sym (short_reading text short) ∙ fault_of (reading text) f e)

    at_place : length text ≤ MAX_SCRIPT → Stands (items text) (length text) f →
        Follows (take f.offset text)
    at_place short (AnItem front back item split here known hope) =
        let is : IsFaultAt text front item f =
        record { first = e; short = short; back = back; stands = split; here = here } in
        let within = stands_behind 0 (length text) front back item
        (subst (AreRising 0 (length text)) split (in_text text)) in
        ended_front text f.offset (omega (arith, within.1, here)) fits
        (subst (λ (xs : List Item). EndsOrFull (tokens xs)) (sym (items_before text front item f is)) hope)
    at_place short (TheEnd offset missing hope) =
        let whole : take f.offset text ≡ text = take_all f.offset text (omega arith) in
        ended_front text f.offset (omega arith) fits
        (subst (λ (bytes : List ℕ). EndsOrFull (tokens (items bytes))) (sym whole) hope)

    by_length : (MAX_SCRIPT < length text) ⊎ (length text ≤ MAX_SCRIPT) →
        Follows (take f.offset text)
    by_length (inl long) =
        let p = fault_parts (reading text) MAX_SCRIPT TooLong f (fault_of (reading text) f e)
        (long_reading text long) in
        absurd (omega (arith, p.0))
    by_length (inr short) = at_place short (stands short)

pub brace_follows : (text : List ℕ) (front : List Item) (item : Item) (f : ScriptFault) →
    IsFaultAt text front item f → f.kind ≡ Missing → f.offset + room ≤ MAX_SCRIPT →
    CanGoOn (tokens front ++ Open ∷ [])
brace_follows text front item f is missing fits =
    let within = stands_behind 0 (length text) front is.back item
    (subst (AreRising 0 (length text)) is.stands (in_text text)) in
    let long = length-take-le f.offset text (omega (arith, within.1, is.here)) in
    cases long ((at_fault text front item f is).brace missing)
  where
    before : items (take f.offset text) ≡ front
    before = items_before text front item f is

    cases : length (take f.offset text) ≡ f.offset → EndsOrFull (tokens front ++ Open ∷ []) →
        CanGoOn (tokens front ++ Open ∷ [])
    cases long (inr (full, none)) = absurd (not_full (tokens front) full)
    cases long (inl e) = subst (λ (xs : List Item). CanGoOn (tokens xs ++ Open ∷ [])) before
        (brace_ends (take f.offset text) (omega arith)
        (subst (λ (xs : List Item). Ended (tokens xs ++ Open ∷ [])) (sym before) e))
