-- A text that is cut at one of its items, and bytes behind it.
use Rattle.std.proofs.Common.{◌≡◌, ℕ, zero, suc, ◌+◌, ◌<◌, ◌≤◌, Bool, true, false, cond, eqb, List, [], ◌∷◌, ◌++◌}
use Rattle.std.proofs.Common.{length, take, refl, sym, ap, subst, ◌∙◌, arith, inl, inr}
use Rattle.std.specs.Prelude.{◌⊎◌}
use Rattle.std.specs.List.{AllByRecursion}
use Rattle.std.proofs.lemmas.Bool.Decides.{nat_tests}
use Rattle.dsp_defs.specs.Token.{Token, Open, Close, Run, Bad, Item, is_white, is_run_byte, join_run, items_from}
use Rattle.dsp_script.specs.Plain.{tokens}
use Rattle.dsp_script.proofs.Tokens.{run_begins}
use Rattle.dsp_script.proofs.CanonLaws.{all_run}
use Rattle.dsp_first_fault.proofs.Endings.{IsWritable, written}
use Rattle.dsp_first_fault.proofs.Offsets.{AreRising, rising, rising_from, stands_behind}

-- ---- bytes behind a newline

-- whatever is said of both cases
both_cases : (b : Bool) (xs ys more ps qs : List Item) → ps ≡ xs ++ more → qs ≡ ys ++ more →
    cond b ps qs ≡ cond b xs ys ++ more
both_cases true xs ys more ps qs e f = e
both_cases false xs ys more ps qs e f = f

-- items further behind do not join a run
run_alone : (at byte end : ℕ) (items : List Item) → AreRising (at + 2) end items →
    join_run at byte items ≡ record { offset = at; token = Run (byte ∷ []) } ∷ items
run_alone at byte end [] h = refl
run_alone at byte end (item ∷ items) h =
    let apart : eqb item.offset (at + 1) ≡ false = grind (arith, nat_tests, h.0) in
    elim item.token as (λ (t : Token). join_run at byte (record { offset = item.offset; token = t } ∷ items) ≡ record
    { offset = at; token = Run (byte ∷ []) } ∷ record { offset = item.offset; token = t } ∷ items)
    [ Run run ↦ rw apart refl | Open ↦ refl | Close ↦ refl | Bad ↦ refl ]

run_before : (at byte end : ℕ) (items more : List Item) → AreRising (at + 2) end more →
    join_run at byte (items ++ more) ≡ join_run at byte items ++ more
run_before at byte end [] more h = run_alone at byte end more h
run_before at byte end (item ∷ items) more h =
    elim item.token as (λ (t : Token). join_run at byte
    (record { offset = item.offset; token = t } ∷ items ++ more) ≡ join_run at byte
    (record { offset = item.offset; token = t } ∷ items) ++ more) [
      | Run run ↦ both_cases (eqb item.offset (at + 1))
          (record { offset = at; token = Run (byte ∷ run) } ∷ items)
          (record { offset = at; token = Run (byte ∷ []) } ∷ record { offset = item.offset; token = Run run } ∷ items)
          more _ _ refl refl
      | Open ↦ refl
      | Close ↦ refl
      | Bad ↦ refl
    ]

-- bytes behind a newline join no run before it
run_newline : (at byte next : ℕ) (items : List Item) (more : List ℕ) → at + 2 ≤ next →
    join_run at byte (items ++ items_from false next more) ≡ join_run at byte items ++ items_from false next more
run_newline at byte next items more le =
    run_before at byte (next + length more) items (items_from false next more)
    (rising_from (at + 2) next (next + length more) (items_from false next more) le
    (rising false next (next + length more) more refl))

-- the items that begin with a byte, by those behind it within a comment and outside
abbrev with_byte : ℕ → ℕ → List Item → List Item → List Item
with_byte at byte commented items = cond (eqb byte 35) commented (cond (is_white byte) items
    (cond (eqb byte 123) (record { offset = at; token = Open } ∷ items)
    (cond (eqb byte 125) (record { offset = at; token = Close } ∷ items)
    (cond (is_run_byte byte) (join_run at byte items) (record { offset = at; token = Bad } ∷ items)))))

byte_newline : (at byte next : ℕ) (commented items commented2 items2 : List Item) (more : List ℕ) → at + 2 ≤ next →
    commented2 ≡ commented ++ items_from false next more → items2 ≡ items ++ items_from false next more →
    with_byte at byte commented2 items2 ≡ with_byte at byte commented items ++ items_from false next more
byte_newline at byte next commented items commented2 items2 more le e f =
    let later = items_from false next more in
    let single = λ (token : Token). ap (λ (xs : List Item). record { offset = at; token = token } ∷ xs) f in
    both_cases (eqb byte 35) commented _ later commented2 _ e
    (both_cases (is_white byte) items _ later items2 _ f
    (both_cases (eqb byte 123) (record { offset = at; token = Open } ∷ items) _ later
    (record { offset = at; token = Open } ∷ items2) _ (single Open)
    (both_cases (eqb byte 125) (record { offset = at; token = Close } ∷ items) _ later
    (record { offset = at; token = Close } ∷ items2) _ (single Close)
    (both_cases (is_run_byte byte) (join_run at byte items) (record { offset = at; token = Bad } ∷ items) later
    (join_run at byte items2) (record { offset = at; token = Bad } ∷ items2)
    (ap (join_run at byte) f ∙ run_newline at byte next items more le) (single Bad)))))

-- what stands behind a newline joins nothing before it
pub behind_newline : (commented : Bool) (at : ℕ) (bytes more : List ℕ) →
    items_from commented at (bytes ++ 10 ∷ more) ≡ items_from commented at bytes ++ items_from false
    (at + length bytes + 1) more
unfolding items_from
behind_newline true at [] more = let same : at + 0 + 1 ≡ at + 1 = omega arith in rw same refl
behind_newline false at [] more = let same : at + 0 + 1 ≡ at + 1 = omega arith in rw same refl
behind_newline true at (byte ∷ bytes) more =
    let place : at + suc (length bytes) + 1 ≡ (at + 1) + length bytes + 1 = omega arith in
    rw place (both_cases (eqb byte 10) (items_from false (at + 1) bytes) (items_from true (at + 1) bytes)
    (items_from false ((at + 1) + length bytes + 1) more) _ _ (behind_newline false (at + 1) bytes more)
    (behind_newline true (at + 1) bytes more))
behind_newline false at (byte ∷ bytes) more =
    let place : at + suc (length bytes) + 1 ≡ (at + 1) + length bytes + 1 = omega arith in
    rw place (byte_newline at byte ((at + 1) + length bytes + 1) (items_from true (at + 1) bytes)
    (items_from false (at + 1) bytes) _ _ more (omega arith) (behind_newline true (at + 1) bytes more)
    (behind_newline false (at + 1) bytes more))

-- ---- a text that is cut

-- the items stand from here on
abbrev rising_here : (commented : Bool) (at : ℕ) (bytes : List ℕ) →
    AreRising at (at + length bytes) (items_from commented at bytes)
rising_here commented at bytes = rising commented at (at + length bytes) bytes refl

-- nothing stands before the first place
none_before : (at end : ℕ) (front back : List Item) (item : Item) → AreRising at end (front ++ item ∷ back) →
    item.offset ≡ at + 0 → [] ≡ front
none_before at end [] back item h here = refl
none_before at end (f ∷ front) back item h here =
    let more = stands_behind (f.offset + 1) end front back item h.2 in
    absurd (omega (arith, h.0, more.0))

-- a token, and the items behind it, cut
cut_first : (at : ℕ) (token : Token) (items cut front back : List Item) (item : Item) → at < item.offset →
    ((front : List Item) → items ≡ front ++ item ∷ back → cut ≡ front) →
    record { offset = at; token = token } ∷ items ≡ front ++ item ∷ back →
    record { offset = at; token = token } ∷ cut ≡ front
cut_first at token items cut [] back item lt later e =
    let first : record { offset = at; token = token } ≡ item = cc in
    let here : at ≡ item.offset = ap (λ (i : Item). i.offset) first in
    absurd (omega arith)
cut_first at token items cut (f ∷ front) back item lt later e =
    let first : record { offset = at; token = token } ≡ f = cc in
    let more : items ≡ front ++ item ∷ back = cc in
    let behind : cut ≡ front = later front more in
    cc

-- a byte of a run joins the first item, or stands alone, whatever stands behind
join_either : (at byte : ℕ) (x : Item) → ((ys : List Item) → join_run at byte (x ∷ ys) ≡ record
    { offset = at; token = Run (byte ∷ []) } ∷ x ∷ ys) ⊎ ((run : List ℕ) ×
    ((ys : List Item) → join_run at byte (x ∷ ys) ≡ record { offset = at; token = Run run } ∷ ys))
join_either at byte x = by_token x.token
  where
    by_test : (run : List ℕ) (b : Bool) → eqb x.offset (at + 1) ≡ b →
        ((ys : List Item) → join_run at byte (record { offset = x.offset; token = Run run } ∷ ys) ≡ record
        { offset = at; token = Run (byte ∷ []) } ∷ record { offset = x.offset; token = Run run } ∷ ys) ⊎
        ((more : List ℕ) × ((ys : List Item) → join_run at byte
        (record { offset = x.offset; token = Run run } ∷ ys) ≡ record { offset = at; token = Run more } ∷ ys))
    by_test run true e = inr (byte ∷ run, λ ys. rw e refl)
    by_test run false e = inl (λ ys. rw e refl)

    by_token : (t : Token) → ((ys : List Item) → join_run at byte (record { offset = x.offset; token = t } ∷ ys) ≡
        record { offset = at; token = Run (byte ∷ []) } ∷ record { offset = x.offset; token = t } ∷ ys) ⊎
        ((run : List ℕ) × ((ys : List Item) → join_run at byte
        (record { offset = x.offset; token = t } ∷ ys) ≡ record { offset = at; token = Run run } ∷ ys))
    by_token (Run run) = by_test run (eqb x.offset (at + 1)) refl
    by_token Open = inl (λ ys. refl)
    by_token Close = inl (λ ys. refl)
    by_token Bad = inl (λ ys. refl)

-- a byte of a run, and the items behind it, cut
cut_alone : (at byte : ℕ) (x : Item) (items cut front back : List Item) (item : Item) →
    ((ys : List Item) → join_run at byte (x ∷ ys) ≡ record { offset = at; token = Run (byte ∷ []) } ∷ x ∷ ys) →
    x ∷ items ≡ front ++ item ∷ back → cut ≡ front →
    join_run at byte cut ≡ record { offset = at; token = Run (byte ∷ []) } ∷ front
cut_alone at byte x items cut [] back item apart e same = ap (join_run at byte) same
cut_alone at byte x items cut (f ∷ front) back item apart e same =
    let first : x ≡ f = cc in
    ap (join_run at byte) (same ∙ ap (λ (f : Item). f ∷ front) (sym first)) ∙ apart front ∙
    ap (λ (f : Item). record { offset = at; token = Run (byte ∷ []) } ∷ f ∷ front) first

cut_run : (at byte : ℕ) (items cut front back : List Item) (item : Item) → at < item.offset →
    ((front : List Item) → items ≡ front ++ item ∷ back → cut ≡ front) →
    join_run at byte items ≡ front ++ item ∷ back → join_run at byte cut ≡ front
cut_run at byte [] cut [] back item lt later e =
    let first : record { offset = at; token = Run (byte ∷ []) } ≡ item = cc in
    let here : at ≡ item.offset = ap (λ (i : Item). i.offset) first in
    absurd (omega arith)
cut_run at byte [] cut (f ∷ []) back item lt later e = absurd cc
cut_run at byte [] cut (f ∷ g ∷ front) back item lt later e = absurd cc
cut_run at byte (x ∷ items) cut front back item lt later e = by_join (join_either at byte x)
  where
    joined : (run : List ℕ) (whole : List Item) → ((ys : List Item) → join_run at byte (x ∷ ys) ≡ record
        { offset = at; token = Run run } ∷ ys) →
        record { offset = at; token = Run run } ∷ items ≡ whole ++ item ∷ back →
        join_run at byte cut ≡ whole
    joined run [] one same =
        let first : record { offset = at; token = Run run } ≡ item = cc in
        let here : at ≡ item.offset = ap (λ (i : Item). i.offset) first in
        absurd (omega arith)
    joined run (f ∷ front) one same =
        let first : record { offset = at; token = Run run } ≡ f = cc in
        let more : items ≡ front ++ item ∷ back = cc in
        ap (join_run at byte) (later (x ∷ front) (ap (λ (xs : List Item). x ∷ xs) more)) ∙ one front ∙
        ap (λ (f : Item). f ∷ front) first

    alone : (whole : List Item) → ((ys : List Item) → join_run at byte (x ∷ ys) ≡ record
        { offset = at; token = Run (byte ∷ []) } ∷ x ∷ ys) → record { offset = at; token = Run (byte ∷ []) } ∷ x ∷ items
        ≡ whole ++ item ∷ back → join_run at byte cut ≡ whole
    alone [] apart same =
        let first : record { offset = at; token = Run (byte ∷ []) } ≡ item = cc in
        let here : at ≡ item.offset = ap (λ (i : Item). i.offset) first in
        absurd (omega arith)
    alone (f ∷ front) apart same =
        let first : record { offset = at; token = Run (byte ∷ []) } ≡ f = cc in
        let more : x ∷ items ≡ front ++ item ∷ back = cc in
        cut_alone at byte x items cut front back item apart more (later front more) ∙
        ap (λ (f : Item). f ∷ front) first

    by_join : ((ys : List Item) → join_run at byte (x ∷ ys) ≡ record { offset = at; token = Run (byte ∷ []) } ∷ x ∷ ys)
        ⊎ ((run : List ℕ) × ((ys : List Item) → join_run at byte (x ∷ ys) ≡ record { offset = at; token = Run run } ∷
        ys)) → join_run at byte cut ≡ front
    by_join (inl apart) = alone front apart (sym (apart items) ∙ e)
    by_join (inr (run, one)) = joined run front one (sym (one items) ∙ e)

-- whatever is said of both cases
cut_cases : (b : Bool) (xs ys cs ds front back : List Item) (item : Item) →
    (xs ≡ front ++ item ∷ back → cs ≡ front) → (ys ≡ front ++ item ∷ back → ds ≡ front) →
    cond b xs ys ≡ front ++ item ∷ back → cond b cs ds ≡ front
cut_cases true xs ys cs ds front back item h k e = h e
cut_cases false xs ys cs ds front back item h k e = k e

no_items : (front back : List Item) (item : Item) → [] ≡ front ++ item ∷ back → [] ≡ front
no_items [] back item e = refl
no_items (f ∷ front) back item e = absurd cc

pub cut_at : (k : ℕ) (commented : Bool) (at : ℕ) (bytes : List ℕ) (front back : List Item) (item : Item) →
    items_from commented at bytes ≡ front ++ item ∷ back → item.offset ≡ at + k →
    items_from commented at (take k bytes) ≡ front
unfolding items_from
cut_at zero commented at bytes front back item e here =
    none_before at (at + length bytes) front back item
    (subst (AreRising at (at + length bytes)) e (rising_here commented at bytes)) here
cut_at (suc k) true at [] front back item e here = no_items front back item e
cut_at (suc k) false at [] front back item e here = no_items front back item e
cut_at (suc k) true at (byte ∷ bytes) front back item e here =
    let later = λ (c : Bool). λ (e : items_from c (at + 1) bytes ≡ front ++ item ∷ back).
    cut_at k c (at + 1) bytes front back item e (omega arith) in
    cut_cases (eqb byte 10) _ _ _ _ front back item (later false) (later true) e
cut_at (suc k) false at (byte ∷ bytes) front back item e here =
    let lt : at < item.offset = omega arith in
    let more = λ (c : Bool). λ (front : List Item). λ (e : items_from c (at + 1) bytes ≡ front ++ item ∷ back).
    cut_at k c (at + 1) bytes front back item e (omega arith) in
    let single = λ (token : Token). cut_first at token (items_from false (at + 1) bytes)
    (items_from false (at + 1) (take k bytes)) front back item lt (more false) in
    cut_cases (eqb byte 35) _ _ _ _ front back item (more true front)
    (cut_cases (is_white byte) _ _ _ _ front back item (more false front)
    (cut_cases (eqb byte 123) _ _ _ _ front back item (single Open)
    (cut_cases (eqb byte 125) _ _ _ _ front back item (single Close)
    (cut_cases (is_run_byte byte) _ _ _ _ front back item
    (cut_run at byte (items_from false (at + 1) bytes) (items_from false (at + 1) (take k bytes)) front back item lt
    (more false)) (single Bad))))) e

-- ---- tokens that are written

pub written_again : (ts : List Token) (at : ℕ) → AllByRecursion IsWritable ts →
    tokens (items_from false at (written ts)) ≡ ts
unfolding items_from
written_again [] at h = refl
written_again (Open ∷ ts) at h = ap (λ (more : List Token). Open ∷ more) (written_again ts (at + 1 + 1) h.1)
written_again (Close ∷ ts) at h = ap (λ (more : List Token). Close ∷ more) (written_again ts (at + 1 + 1) h.1)
written_again (Bad ∷ ts) at h = absurd h.0
written_again (Run run ∷ ts) at h =
    ap tokens (run_begins at run (32 ∷ written ts) (all_run run h.0.0) h.0.1 refl) ∙
    ap (λ (more : List Token). Run run ∷ more) (written_again ts (at + length run + 1) h.1)
