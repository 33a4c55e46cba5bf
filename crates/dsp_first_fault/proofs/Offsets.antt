-- The items of a text stand within it, each behind the one before.
use Rattle.std.proofs.Common.{◌≡◌, ℕ, ◌+◌, ◌<◌, ◌≤◌, Bool, true, false, cond, eqb, List, [], ◌∷◌, ◌++◌, length, refl}
use Rattle.std.proofs.Common.{ap, subst, arith}
use Rattle.dsp_defs.specs.Token.{Token, Open, Close, Run, Bad, Item, is_white, is_run_byte, join_run, items_from}

-- the items stand from here on, one behind another, and before this end
abbrev pub AreRising : ℕ → ℕ → List Item → Type 0
AreRising at end [] = Unit {0}
AreRising at end (item ∷ items) = (at ≤ item.offset) × (item.offset < end) × AreRising (item.offset + 1) end items

pub rising_from : (at later end : ℕ) (items : List Item) → at ≤ later → AreRising later end items →
    AreRising at end items
rising_from at later end [] le h = tt
rising_from at later end (item ∷ items) le h = (omega arith, h.1, h.2)

rising_later : (at end : ℕ) (items : List Item) → AreRising (at + 1) end items → AreRising at end items
rising_later at end items h = rising_from at (at + 1) end items (omega arith) h

either : (b : Bool) (at end : ℕ) (xs ys : List Item) → AreRising at end xs → AreRising at end ys →
    AreRising at end (cond b xs ys)
either true at end xs ys h k = h
either false at end xs ys h k = k

rising_run : (at byte end : ℕ) (items : List Item) → at < end → AreRising (at + 1) end items →
    AreRising at end (join_run at byte items)
rising_run at byte end [] lt h = (omega arith, lt, tt)
rising_run at byte end (item ∷ items) lt h =
    (elim item.token as (λ (t : Token). AreRising at end (join_run at byte
    (record { offset = item.offset; token = t } ∷ items))) [
      | Run run ↦ either (eqb item.offset (at + 1)) at end
          (record { offset = at; token = Run (byte ∷ run) } ∷ items)
          (record { offset = at; token = Run (byte ∷ []) } ∷ record { offset = item.offset; token = Run run } ∷ items)
          (omega arith, lt, rising_from (at + 1) (item.offset + 1) end items (omega arith) h.2) (omega arith, lt, h)
      | Open ↦ (omega arith, lt, h)
      | Close ↦ (omega arith, lt, h)
      | Bad ↦ (omega arith, lt, h)
    ])

pub rising : (commented : Bool) (at end : ℕ) (bytes : List ℕ) → at + length bytes ≡ end →
    AreRising at end (items_from commented at bytes)
unfolding items_from
rising commented at end [] e = tt
rising true at end (byte ∷ bytes) e =
    either (eqb byte 10) at end _ _ (rising_later at end _ (rising false (at + 1) end bytes (omega arith)))
    (rising_later at end _ (rising true (at + 1) end bytes (omega arith)))
rising false at end (byte ∷ bytes) e =
    let more = λ (c : Bool). rising c (at + 1) end bytes (omega arith) in
    let skipped = λ (c : Bool). rising_later at end _ (more c) in
    let lt : at < end = omega arith in
    either (eqb byte 35) at end _ _ (skipped true)
    (either (is_white byte) at end _ _ (skipped false)
    (either (eqb byte 123) at end _ _ (omega arith, lt, more false)
    (either (eqb byte 125) at end _ _ (omega arith, lt, more false)
    (either (is_run_byte byte) at end _ _ (rising_run at byte end _ lt (more false))
    (omega arith, lt, more false)))))

-- an item behind others stands behind where they begin
pub stands_behind : (at end : ℕ) (front back : List Item) (item : Item) →
    AreRising at end (front ++ item ∷ back) → (at ≤ item.offset) × (item.offset < end)
stands_behind at end [] back item h = (h.0, h.1)
stands_behind at end (f ∷ front) back item h =
    let more = stands_behind (f.offset + 1) end front back item h.2 in
    (omega arith, more.1)

-- the offset tells the item
pub one_place : (at end : ℕ) (front front2 back back2 : List Item) (item item2 : Item) →
    AreRising at end (front ++ item ∷ back) → front ++ item ∷ back ≡ front2 ++ item2 ∷ back2 →
    item.offset ≡ item2.offset → (front ≡ front2) × (item ≡ item2)
one_place at end [] [] back back2 item item2 h e same = (refl, cc)
one_place at end [] (f ∷ front2) back back2 item item2 h e same =
    let first : item ≡ f = cc in
    let more : back ≡ front2 ++ item2 ∷ back2 = cc in
    let behind = stands_behind (item.offset + 1) end front2 back2 item2 (subst (AreRising (item.offset + 1) end) more
    h.2) in
    absurd (omega arith)
one_place at end (f ∷ front) [] back back2 item item2 h e same =
    let first : f ≡ item2 = cc in
    let here : f.offset ≡ item2.offset = ap (λ (i : Item). i.offset) first in
    let behind = stands_behind (f.offset + 1) end front back item h.2 in
    absurd (omega arith)
one_place at end (f ∷ front) (f2 ∷ front2) back back2 item item2 h e same =
    let first : f ≡ f2 = cc in
    let later : front ++ item ∷ back ≡ front2 ++ item2 ∷ back2 = cc in
    let more = one_place (f.offset + 1) end front front2 back back2 item item2 h.2 later same in
    let fronts : front ≡ front2 = more.0 in
    (cc, more.1)
