-- The items of a text, byte by byte.
use Rattle.std.proofs.Common.{◌≡◌, ◌≢◌, ℕ, zero, suc, ◌+◌, ◌-◌, ◌<◌, ◌≤◌, Bool, true, false, cond, eqb, List, [], ◌∷◌}
use Rattle.std.proofs.Common.{◌++◌, length, get_or, take, drop, refl, sym, ap, ◌∙◌, arith, add-one, drop-cons, eq-eqb}
use Rattle.std.proofs.Common.{Ok, Err, inl, inr}
use Rattle.std.specs.List.{AllByRecursion}
use Rattle.std.proofs.lemmas.Bool.{ne_eqb, cases_lt}
use Rattle.std.proofs.lemmas.Bool.Decides.{nat_tests}
use Rattle.std.proofs.lemmas.List.{drop_all, length-take, length-drop, take-append-drop}
use Rattle.std.proofs.Math.Seq.{drop-drop}
use Rattle.dsp_defs.specs.Token.{Token, Open, Close, Run, Bad, Item, is_white, is_run_byte, join_run, items_from}
use Rattle.dsp_defs.specs.Token.{rest_of}
use Rattle.dsp_defs.specs.declared.script_fault.ScriptKind.TheVariants.{Missing, BadByte}
use Rattle.dsp_defs.specs.Places.{first_of}

-- ---- where no token begins

cut : (text : List ℕ) (at : ℕ) → at < length text → drop at text ≡ get_or text at 0 ∷ drop (at + 1) text
cut text at lt = rw (add-one, drop-cons text at 0) refl

pub comment_more : (text : List ℕ) (at : ℕ) → at < length text → get_or text at 0 ≢ 10 →
    items_from true at (drop at text) ≡ items_from true (at + 1) (drop (at + 1) text)
unfolding items_from
comment_more text at lt ne = rw (cut text at lt, ne_eqb (get_or text at 0) 10 ne) refl

pub comment_over : (text : List ℕ) (at : ℕ) → at < length text → get_or text at 0 ≡ 10 →
    items_from true at (drop at text) ≡ items_from false at (drop at text)
unfolding items_from
comment_over text at lt e = rw (cut text at lt, e) refl

pub comment_at_end : (text : List ℕ) (at : ℕ) → length text ≤ at →
    items_from true at (drop at text) ≡ items_from false at (drop at text)
unfolding items_from
comment_at_end text at le = rw (drop_all at text le) refl

pub comment_begins : (text : List ℕ) (at : ℕ) → at < length text → get_or text at 0 ≡ 35 →
    items_from false at (drop at text) ≡ items_from true (at + 1) (drop (at + 1) text)
unfolding items_from
comment_begins text at lt e = rw (cut text at lt, e) refl

pub white_skipped : (text : List ℕ) (at : ℕ) → at < length text → get_or text at 0 ≢ 35 →
    is_white (get_or text at 0) ≡ true → items_from false at (drop at text) ≡ items_from false (at + 1)
    (drop (at + 1) text)
unfolding items_from
white_skipped text at lt ne is = rw (cut text at lt, ne_eqb (get_or text at 0) 35 ne, is) refl

nothing_left : (text : List ℕ) (at : ℕ) → length text ≤ at → items_from false at (drop at text) ≡ []
unfolding items_from
nothing_left text at le = rw (drop_all at text le) refl

-- ---- where a token begins

pub open_begins : (text : List ℕ) (at : ℕ) → at < length text → get_or text at 0 ≡ 123 →
    items_from false at (drop at text) ≡ record { offset = at; token = Open } ∷ items_from false (at + 1)
    (drop (at + 1) text)
unfolding items_from
open_begins text at lt e = rw (cut text at lt, e) refl

pub close_begins : (text : List ℕ) (at : ℕ) → at < length text → get_or text at 0 ≡ 125 →
    items_from false at (drop at text) ≡ record { offset = at; token = Close } ∷ items_from false (at + 1)
    (drop (at + 1) text)
unfolding items_from
close_begins text at lt e = rw (cut text at lt, e) refl

pub bad_begins : (text : List ℕ) (at : ℕ) → at < length text → get_or text at 0 ≢ 35 →
    is_white (get_or text at 0) ≡ false → get_or text at 0 ≢ 123 → get_or text at 0 ≢ 125 →
    is_run_byte (get_or text at 0) ≡ false → items_from false at (drop at text) ≡ record { offset = at; token = Bad } ∷
    items_from false (at + 1) (drop (at + 1) text)
unfolding items_from
bad_begins text at lt h w o s r = rw (
  cut text at lt,
  ne_eqb (get_or text at 0) 35 h,
  w,
  ne_eqb (get_or text at 0) 123 o,
  ne_eqb (get_or text at 0) 125 s,
  r,
) refl

-- ---- runs

cond_both : {A : Type 0} (P : A → Type 0) (b : Bool) (x y : A) → P x → P y → P (cond b x y)
cond_both P true x y p q = p
cond_both P false x y p q = q

-- the first item begins at this place or behind it
abbrev BeginsFrom : ℕ → List Item → Type 0
BeginsFrom at [] = Unit {0}
BeginsFrom at (item ∷ items) = at ≤ item.offset

-- the first item is no run at this place
abbrev NoRunAt : ℕ → List Item → Type 0
NoRunAt at [] = Unit {0}
NoRunAt at (item ∷ items) = elim item.token [ Run run ↦ (item.offset ≢ at) | _ ↦ Unit {0} ]

begins_later : (at : ℕ) (items : List Item) → BeginsFrom (at + 1) items → BeginsFrom at items
begins_later at [] h = tt
begins_later at (item ∷ items) h = omega arith

no_run : (at : ℕ) (items : List Item) → BeginsFrom (at + 1) items → NoRunAt at items
no_run at [] h = tt
no_run at (item ∷ items) h = elim item.token as (λ (t : Token). elim t
    [ Run run ↦ (item.offset ≢ at) | _ ↦ Unit {0} ]) [ Run run ↦ (omega arith) | Open ↦ tt | Close ↦ tt | Bad ↦ tt ]

joined_begins : (at byte : ℕ) (items : List Item) → BeginsFrom at (join_run at byte items)
joined_begins at byte [] = omega arith
joined_begins at byte (item ∷ items) =
    elim item.token as (λ (t : Token). BeginsFrom at (join_run at byte
    (record { offset = item.offset; token = t } ∷ items))) [
      | Run run ↦ cond_both (BeginsFrom at) (eqb item.offset (at + 1))
          (record { offset = at; token = Run (byte ∷ run) } ∷ items)
          (record { offset = at; token = Run (byte ∷ []) } ∷ record { offset = item.offset; token = Run run } ∷ items)
          (omega arith) (omega arith)
      | Open ↦ omega arith
      | Close ↦ omega arith
      | Bad ↦ omega arith
    ]

begins : (commented : Bool) (at : ℕ) (bytes : List ℕ) → BeginsFrom at (items_from commented at bytes)
unfolding items_from
begins c at [] = tt
begins true at (byte ∷ bytes) = cond_both (BeginsFrom at) (eqb byte 10) _ _
    (begins_later at _ (begins false (at + 1) bytes)) (begins_later at _ (begins true (at + 1) bytes))
begins false at (byte ∷ bytes) =
    let later = λ (c : Bool). begins_later at (items_from c (at + 1) bytes) (begins c (at + 1) bytes) in
    cond_both (BeginsFrom at) (eqb byte 35) _ _ (later true)
    (cond_both (BeginsFrom at) (is_white byte) _ _ (later false)
    (cond_both (BeginsFrom at) (eqb byte 123) _ _ (omega arith)
    (cond_both (BeginsFrom at) (eqb byte 125) _ _ (omega arith)
    (cond_both (BeginsFrom at) (is_run_byte byte) _ _ (joined_begins at byte (items_from false (at + 1) bytes))
    (omega arith)))))

-- what follows a run
abbrev pub EndsRun : List ℕ → Type 0
EndsRun [] = Unit {0}
EndsRun (byte ∷ bytes) = is_run_byte byte ≡ false

run_ends : (at : ℕ) (rest : List ℕ) → EndsRun rest → NoRunAt at (items_from false at rest)
unfolding items_from
run_ends at [] h = tt
run_ends at (byte ∷ bytes) h =
    cond_both (NoRunAt at) (eqb byte 35) _ _ (no_run at _ (begins true (at + 1) bytes))
    (cond_both (NoRunAt at) (is_white byte) _ _ (no_run at _ (begins false (at + 1) bytes))
    (cond_both (NoRunAt at) (eqb byte 123) _ _ tt
    (cond_both (NoRunAt at) (eqb byte 125) _ _ tt
    (rw h tt))))

single : (at byte : ℕ) (items : List Item) → NoRunAt (at + 1) items →
    join_run at byte items ≡ record { offset = at; token = Run (byte ∷ []) } ∷ items
single at byte [] h = refl
single at byte (item ∷ items) h =
    (elim item.token as (λ (t : Token). NoRunAt (at + 1) (record { offset = item.offset; token = t } ∷ items) →
    join_run at byte (record { offset = item.offset; token = t } ∷ items) ≡ record
    { offset = at; token = Run (byte ∷ []) } ∷ record { offset = item.offset; token = t } ∷ items) [
      | Run run ↦ (λ ne. rw (ne_eqb item.offset (at + 1) ne) refl)
      | Open ↦ (λ _. refl)
      | Close ↦ (λ _. refl)
      | Bad ↦ (λ _. refl)
    ]) h

run_byte_begins : (at byte : ℕ) (bytes : List ℕ) → is_run_byte byte ≡ true →
    items_from false at (byte ∷ bytes) ≡ join_run at byte (items_from false (at + 1) bytes)
unfolding items_from
run_byte_begins at byte bytes h =
    let hash : eqb byte 35 ≡ false = grind (arith, nat_tests) in
    let white : is_white byte ≡ false = grind (arith, nat_tests) in
    let opened : eqb byte 123 ≡ false = grind (arith, nat_tests) in
    let closed : eqb byte 125 ≡ false = grind (arith, nat_tests) in
    rw (hash, white, opened, closed, h) refl

joined : (at byte : ℕ) (run : List ℕ) (items : List Item) →
    join_run at byte (record { offset = at + 1; token = Run run } ∷ items) ≡ record
    { offset = at; token = Run (byte ∷ run) } ∷ items
joined at byte run items = rw (eq-eqb (at + 1) (at + 1) refl) refl

pub run_begins : (at : ℕ) (run rest : List ℕ) → AllByRecursion (λ b. is_run_byte b ≡ true) run → 0 < length run →
    EndsRun rest → items_from false at (run ++ rest) ≡ record { offset = at; token = Run run } ∷ items_from false
    (at + length run) rest
run_begins at [] rest all some ends = absurd (omega arith)
run_begins at (byte ∷ []) rest all some ends =
    run_byte_begins at byte rest all.0 ∙ single at byte (items_from false (at + 1) rest) (run_ends (at + 1) rest ends)
run_begins at (byte ∷ next ∷ run) rest all some ends =
    let more = run_begins (at + 1) (next ∷ run) rest all.1 (omega arith) ends in
    let place : (at + 1) + length (next ∷ run) ≡ at + length (byte ∷ next ∷ run) = omega arith in
    run_byte_begins at byte (next ∷ run ++ rest) all.0
    ∙ ap (join_run at byte) more
    ∙ joined at byte (next ∷ run) (items_from false ((at + 1) + length (next ∷ run)) rest)
    ∙ ap (λ (k : ℕ). record { offset = at; token = Run (byte ∷ next ∷ run) } ∷ items_from false k rest) place

-- ---- the next token of a text

runs_part : (n at : ℕ) (text : List ℕ) → at + n ≤ length text →
    ((k : ℕ) → at ≤ k → k < at + n → is_run_byte (get_or text k 0) ≡ true) →
    AllByRecursion (λ b. is_run_byte b ≡ true) (take n (drop at text))
runs_part zero at text fits all = tt
runs_part (suc n) at text fits all =
    let lt : at < length text = omega arith in
    rw (cut text at lt) (
      all at (omega arith) (omega arith),
      runs_part n (at + 1) text (omega arith) (λ k low high. all k (omega arith) (omega arith)),
    )

ends_part : (text : List ℕ) (end : ℕ) → (end < length text → is_run_byte (get_or text end 0) ≡ false) →
    EndsRun (drop end text)
ends_part text end h =
    elim (cases_lt end (length text)) [
      | inl lt ↦ rw (cut text end lt) (h lt)
      | inr le ↦ rw (drop_all end text le) tt
    ]

pub run_from : (text : List ℕ) (at end : ℕ) → at < end → end ≤ length text →
    ((k : ℕ) → at ≤ k → k < end → is_run_byte (get_or text k 0) ≡ true) →
    (end < length text → is_run_byte (get_or text end 0) ≡ false)
    → items_from false at (drop at text) ≡ record { offset = at; token = Run (take (end - at) (drop at text)) } ∷
    items_from false end (drop end text)
run_from text at end some fits all ends =
    let run = take (end - at) (drop at text) in
    let long : length run ≡ end - at = omega (arith, length-take (end - at) (drop at text), length-drop at text) in
    let last : at + (end - at) ≡ end = omega arith in
    let rest : drop (end - at) (drop at text) ≡ drop end text = drop-drop (end - at) at text ∙
    ap (λ (k : ℕ). drop k text) last in
    let parts : drop at text ≡ run ++ drop end text = sym (take-append-drop (end - at) (drop at text)) ∙
    ap (λ (xs : List ℕ). run ++ xs) rest in
    let begins = run_begins at run (drop end text) (runs_part (end - at) at text (omega arith)
    (λ k low high. all k low (omega arith))) (omega arith) (ends_part text end ends) in
    let place : at + length run ≡ end = omega arith in
    ap (items_from false at) parts ∙ begins ∙ ap (λ (k : ℕ). record { offset = at; token = Run run } ∷ items_from
    false k (drop end text)) place

-- the item is a token
abbrev pub IsToken : Token → Type 0
IsToken Bad = ⊥
IsToken token = Unit {0}

pub token_first : (text : List ℕ) (from at next : ℕ) (token : Token) →
    items_from false from (drop from text) ≡ items_from false at (drop at text) →
    items_from false at (drop at text) ≡ record { offset = at; token = token } ∷ items_from false next (drop next text)
    → IsToken token → first_of (length text) (items_from false from (drop from text)) ≡ Ok
    (record { offset = at; token = token }, rest_of next text)
unfolding first_of
token_first text from at next token same e is =
    ap (first_of (length text)) (same ∙ e) ∙ (elim token as
    (λ (t : Token). IsToken t → first_of (length text)
    (record { offset = at; token = t } ∷ items_from false next (drop next text)) ≡ Ok
    (record { offset = at; token = t }, rest_of next text))
    [ Bad ↦ (λ h. absurd h) | Open ↦ (λ _. refl) | Close ↦ (λ _. refl) | Run run ↦ (λ _. refl) ]) is

pub token_bad : (text : List ℕ) (from at next : ℕ) → items_from false from (drop from text) ≡ items_from false at
    (drop at text) → items_from false at (drop at text) ≡ record { offset = at; token = Bad } ∷ items_from false next
    (drop next text) → first_of (length text) (items_from false from (drop from text)) ≡ Err
    (record { offset = at; kind = BadByte })
unfolding first_of
token_bad text from at next same e = ap (first_of (length text)) (same ∙ e)

pub token_missing : (text : List ℕ) (from at : ℕ) → items_from false from (drop from text) ≡ items_from false at
    (drop at text) → length text ≡ at → first_of (length text) (items_from false from (drop from text)) ≡ Err
    (record { offset = at; kind = Missing })
unfolding first_of
token_missing text from at same e = ap (first_of (length text)) (same ∙ nothing_left text at (omega arith)) ∙ rw e refl
