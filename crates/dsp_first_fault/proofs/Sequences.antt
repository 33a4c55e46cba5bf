-- One reader behind another.
use Rattle.dsp_first_fault.proofs.Items.{open_item, first, IsQuiet, rest_at, Admits, admits_behind, first_behind}
use Rattle.dsp_first_fault.proofs.Items.{first_before, parted, tokens_append, no_tokens, quiet_behind}
use Rattle.std.proofs.Common.{Some, ◌≡◌, ℕ, ◌+◌, ◌≤◌, List, [], ◌∷◌, ◌++◌, Result, Ok, refl, sym, ap, subst, ◌∙◌}
use Rattle.std.proofs.Common.{append_assoc, append-nil, inl, inr, arith}
use Rattle.dsp_defs.specs.declared.script_fault.ScriptFault.{ScriptFault}
use Rattle.dsp_defs.specs.declared.script_fault.ScriptKind.{ScriptKind}
use Rattle.dsp_defs.specs.Token.{Token, Item, Rest, Open}
use Rattle.dsp_defs.specs.Places.{◌>>=◌, meaning_of, named}
use Rattle.dsp_script.specs.Plain.{tokens}
use Rattle.dsp_script.proofs.Steps.{pair, bind_ok}
use Rattle.std.specs.Prelude.{is_some, codes}
use Rattle.dsp_first_fault.proofs.Endings.{IsEnding, ending_none, ending_join}
use Rattle.dsp_first_fault.proofs.Readers.{Reader, TakesAs, FaultsAt, Outcome, Took, Faulty, Wants, Completion, Room}
use Rattle.dsp_first_fault.proofs.Readers.{even, Hope, NoneRead, Goes, roomier}

-- nothing is taken
pub takes_none : {A : Type 0} (x : A) (left : List Item) → TakesAs (λ r. Ok (x, r)) [] x left
takes_none x left others ys end same admits =
    ap (λ (xs : List Item). pair x (rest_at (xs ++ ys) end)) (no_tokens others same)

pub done_outcome : {A : Type 0} (hope : List Token → Type 0) (x : A) (items : List Item) (end : ℕ) →
    Outcome (λ r. Ok (x, r)) hope (rest_at items end)
done_outcome hope x items end = Took [] items x refl (takes_none x items)

-- what holds where a reader stops, in other words
pub other_hope : {A : Type 0} (read : Reader A) (hope other : List Token → Type 0) (rest : Rest) →
    ((ts : List Token) → hope ts → other ts) → Outcome read hope rest → Outcome read other rest
other_hope read hope other rest f (Took front left x e takes) = Took front left x e takes
other_hope read hope other rest f (Faulty front back item kind e bad faults h brace) =
    Faulty front back item kind e bad faults (f (tokens front) h)
    (λ missing. f (tokens front ++ Open ∷ []) (brace missing))
other_hope read hope other rest f (Wants e h) = Wants e (f (tokens rest.items) h)

-- a reader, and what reads behind it
abbrev pub and_then : {A B : Type 0} → Reader A → (A → Reader B) → Reader B
and_then read more rest = read rest >>= λ p. more p.0 p.1

pub takes_both : {A B : Type 0} (read : Reader A) (more : A → Reader B) (x : A) (y : B) (left left2 : List Item)
    (ts ts2 : List Token) → TakesAs read ts x left → TakesAs (more x) ts2 y left2 →
    ((others ys : List Item) → tokens others ≡ ts2 → Admits left2 ys → Admits left (others ++ ys)) →
    TakesAs (and_then read more) (ts ++ ts2) y left2
takes_both {A} read more x y left left2 ts ts2 takes takes2 behind others ys end same admits =
    let p = parted ts ts2 others same in
    let regrouped : others ++ ys ≡ p.0 ++ (p.1 ++ ys) =
    ap (λ (xs : List Item). xs ++ ys) p.2 ∙ append_assoc p.0 p.1 ys in
    ap (λ (xs : List Item). and_then read more (rest_at xs end)) regrouped ∙
    ap (λ (r : Result (A × Rest) ScriptFault). r >>= λ p. more p.0 p.1)
    (takes p.0 (p.1 ++ ys) end p.3 (behind p.1 ys p.4 admits)) ∙ takes2 p.1 ys end p.4 admits

faults_then : {A B : Type 0} (read : Reader A) (more : A → Reader B) (x : A) (front front2 back : List Item)
    (item : Item) (kind : ScriptKind) → TakesAs read (tokens front) x (front2 ++ item ∷ back) →
    FaultsAt (more x) (tokens front2) item.token kind →
    FaultsAt (and_then read more) (tokens (front ++ front2)) item.token kind
faults_then {A} read more x front front2 back item kind takes faults others ys other end same is =
    let p = parted (tokens front) (tokens front2) others (same ∙ tokens_append front front2) in
    let regrouped : others ++ other ∷ ys ≡ p.0 ++ (p.1 ++ other ∷ ys) =
    ap (λ (xs : List Item). xs ++ other ∷ ys) p.2 ∙ append_assoc p.0 p.1 (other ∷ ys) in
    ap (λ (xs : List Item). and_then read more (rest_at xs end)) regrouped ∙
    ap (λ (r : Result (A × Rest) ScriptFault). r >>= λ p. more p.0 p.1)
    (takes p.0 (p.1 ++ other ∷ ys) end p.3 (inl (first_before front2 p.1 back ys item other p.4 is))) ∙
    faults p.1 ys other end p.4 is

-- what a reader takes of nothing is nothing, and so what ends its tokens takes all
from_nothing : {A : Type 0} (full : List Token → Type 0) (read : Reader A) (room : Room) (end : ℕ) →
    Goes full read room (rest_at [] end) → Completion read room.empty []
from_nothing full read room end (Took [] [] x e takes) =
    record { more = []; x = x; ending = ending_none room.empty; takes = takes }
from_nothing full read room end (Took [] (l ∷ left) x e takes) = absurd cc
from_nothing full read room end (Took (f ∷ front) left x e takes) = absurd cc
from_nothing full read room end (Faulty [] back item kind e bad faults hope brace) = absurd cc
from_nothing full read room end (Faulty (f ∷ front) back item kind e bad faults hope brace) = absurd cc
from_nothing full read room end (Wants e completion) = completion

-- the first reader's tokens are ended, and the other's from nothing
completed_first : {A B : Type 0} (read : Reader A) (more : A → Reader B) (a b : ℕ) (ts : List Token)
    (c : Completion read a ts) → Completion (more c.x) b [] → Completion (and_then read more) (a + b) ts
completed_first read more a b ts c d = record {
  more = c.more ++ d.more;
  x = d.x;
  ending = ending_join a b c.more d.more c.ending d.ending;
  takes = subst (λ (whole : List Token). TakesAs (and_then read more) whole d.x [])
      (append_assoc ts c.more d.more) (takes_both read more c.x d.x [] [] (ts ++ c.more) d.more c.takes d.takes
      (λ others ys same admits. inr (d.ending.quiet others ys same (quiet_behind ys admits))));
}

-- behind what the first reader took, the other's tokens are ended
admits_ended : (room : ℕ) (front back others ys : List Item) (more : List Token) → IsEnding room more →
    tokens others ≡ tokens front ++ more → Admits [] ys → Admits (front ++ back) (others ++ ys)
admits_ended room [] back others ys more ending same admits =
    inr (ending.quiet others ys same (quiet_behind ys admits))
admits_ended room (f ∷ front) back [] ys more ending same admits = absurd cc
admits_ended room (f ∷ front) back (o ∷ others) ys more ending same admits = inl cc

completed_then : {A B : Type 0} (read : Reader A) (more : A → Reader B) (x : A) (b : ℕ)
    (front front2 back : List Item) → TakesAs read (tokens front) x (front2 ++ back) →
    Completion (more x) b (tokens front2) → Completion (and_then read more) b (tokens (front ++ front2))
completed_then read more x b front front2 back takes c = record {
  more = c.more;
  x = c.x;
  ending = c.ending;
  takes = subst (λ (whole : List Token). TakesAs (and_then read more) whole c.x [])
      (sym (append_assoc (tokens front) (tokens front2) c.more) ∙
      ap (λ (ts : List Token). ts ++ c.more) (sym (tokens_append front front2)))
      (takes_both read more x c.x (front2 ++ back) [] (tokens front) (tokens front2 ++ c.more) takes c.takes
      (λ others ys same admits. admits_ended b front2 back others ys c.more c.ending same admits));
}

-- what is full behind a reader is full with what it took
abbrev PassesOn : {A : Type 0} → Reader A → (A → List Token → Type 0) → (List Token → Type 0) → Type 0
PassesOn {A} read then full = (x : A) (ts ts2 : List Token) (left : List Item) → TakesAs read ts x left → then x ts2 →
    full (ts ++ ts2)

-- the room of what reads behind a reader is within that of both
pub record IsRoomBehind {A : Type 0} (read : Reader A) (b both : Room) : Type 0 where
  pub none : (x : A) (left : List Item) → TakesAs read [] x left → b.empty ≤ both.empty
  pub some : b.empty ≤ both.most
  pub later : b.most ≤ both.most

-- where a reader reads nothing, it and what is behind it read nothing
none_first : {A B : Type 0} (read : Reader A) (more : A → Reader B) (ts : List Token) → NoneRead read ts →
    NoneRead (and_then read more) ts
none_first read more ts none others ys end p same e =
    let b = bind_ok (read (rest_at (others ++ ys) end)) _ p e in
    none others ys end b.0 same b.1

none_then : {A B : Type 0} (read : Reader A) (more : A → Reader B) (x : A) (front : List Item) (g : Item)
    (front2 back : List Item) → TakesAs read (tokens front) x (g ∷ front2 ++ back) →
    NoneRead (more x) (tokens (g ∷ front2)) → NoneRead (and_then read more) (tokens (front ++ g ∷ front2))
none_then {A} read more x front g front2 back takes none others ys end p same e =
    let q = parted (tokens front) (tokens (g ∷ front2)) others (same ∙ tokens_append front (g ∷ front2)) in
    let regrouped : others ++ ys ≡ q.0 ++ (q.1 ++ ys) =
    ap (λ (xs : List Item). xs ++ ys) q.2 ∙ append_assoc q.0 q.1 ys in
    let taken = takes q.0 (q.1 ++ ys) end q.3 (inl (first_behind g front2 q.1 back ys q.4)) in
    none q.1 ys end p q.4
    (sym (ap (λ (r : Result (A × Rest) ScriptFault). r >>= λ p. more p.0 p.1) taken) ∙
    sym (ap (λ (xs : List Item). and_then read more (rest_at xs end)) regrouped) ∙ e)

hope_then : {A B : Type 0} (read : Reader A) (more : A → Reader B) (then : A → List Token → Type 0)
    (full : List Token → Type 0) (b both : Room) (x : A) (front front2 back : List Item) → IsRoomBehind read b both →
    PassesOn read then full →
    TakesAs read (tokens front) x (front2 ++ back) → Hope (then x) (more x) b (tokens front2) →
    Hope full (and_then read more) both (tokens (front ++ front2))
hope_then read more then full b both x [] [] back rooms passes takes c =
    roomier (and_then read more) b.empty both.empty [] (rooms.none x back takes)
    (completed_then read more x b.empty [] [] back takes c)
hope_then read more then full b both x (f ∷ front) [] back rooms passes takes c =
    inl (roomier (and_then read more) b.empty both.most (tokens (f ∷ front ++ [])) rooms.some
    (completed_then read more x b.empty (f ∷ front) [] back takes c))
hope_then read more then full b both x [] (g ∷ front2) back rooms passes takes (inl c) =
    inl (roomier (and_then read more) b.most both.most (tokens (g ∷ front2)) rooms.later
    (completed_then read more x b.most [] (g ∷ front2) back takes c))
hope_then read more then full b both x [] (g ∷ front2) back rooms passes takes (inr (stuck, none)) = inr (
  passes x [] (tokens (g ∷ front2)) (g ∷ front2 ++ back) takes stuck,
  none_then read more x [] g front2 back takes none,
)
hope_then read more then full b both x (f ∷ front) (g ∷ front2) back rooms passes takes (inl c) =
    inl (roomier (and_then read more) b.most both.most (tokens (f ∷ front ++ g ∷ front2)) rooms.later
    (completed_then read more x b.most (f ∷ front) (g ∷ front2) back takes c))
hope_then read more then full b both x (f ∷ front) (g ∷ front2) back rooms passes takes (inr (stuck, none)) = inr (
  subst full (sym (tokens_append (f ∷ front) (g ∷ front2)))
      (passes x (tokens (f ∷ front)) (tokens (g ∷ front2)) (g ∷ front2 ++ back) takes stuck),
  none_then read more x (f ∷ front) g front2 back takes none,
)

quiet_brace : (ys : List Item) → first ys ≡ Some Open → IsQuiet ys
quiet_brace [] e = absurd cc
quiet_brace (y ∷ ys) e =
    let is : y.token ≡ Open = cc in
    record {
      block = ap (λ (t : Token). is_some (meaning_of (named (codes "block")) t)) is;
      table = ap (λ (t : Token). is_some (meaning_of (named (codes "table")) t)) is;
    }

-- what may stand where a brace stands may stand where another token does
admits_brace : (front back ys : List Item) (item : Item) → Admits ((front ++ open_item ∷ []) ++ []) ys →
    Admits (front ++ item ∷ back) ys
admits_brace [] back ys item (inl same) = inr (quiet_brace ys same)
admits_brace (f ∷ front) back ys item (inl same) = inl same
admits_brace [] back ys item (inr quiet) = inr quiet
admits_brace (f ∷ front) back ys item (inr quiet) = inr quiet

-- how both are ended behind a brace
braced_then : {A B : Type 0} (read : Reader A) (more : A → Reader B) (then : A → List Token → Type 0)
    (full : List Token → Type 0) (b both : Room) (x : A) (front front2 back : List Item) (item : Item) →
    IsRoomBehind read b both → PassesOn read then full → TakesAs read (tokens front) x (front2 ++ item ∷ back) →
    Hope (then x) (more x) b (tokens front2 ++ Open ∷ []) →
    Hope full (and_then read more) both (tokens (front ++ front2) ++ Open ∷ [])
braced_then read more then full b both x front front2 back item rooms passes takes hope =
    let whole = hope_then read more then full b both x front (front2 ++ open_item ∷ []) [] rooms passes
    (λ others ys end same admits. takes others ys end same (admits_brace front2 back ys item admits))
    (subst (Hope (then x) (more x) b) (sym (tokens_append front2 (open_item ∷ []))) hope) in
    subst (Hope full (and_then read more) both)
    (ap tokens (sym (append_assoc front front2 (open_item ∷ []))) ∙ tokens_append (front ++ front2) (open_item ∷ []))
    whole

then_took : {A B : Type 0} (read : Reader A) (more : A → Reader B) (then : A → List Token → Type 0)
    (full : List Token → Type 0) (b both : Room) (items front left : List Item) (end : ℕ) (x : A) →
    IsRoomBehind read b both → PassesOn read then full → items ≡ front ++ left → TakesAs read (tokens front) x left →
    Goes (then x) (more x) b (rest_at left end) → Goes full (and_then read more) both (rest_at items end)
then_took read more then full b both items front left end x rooms passes e takes (Took front2 left2 y e2 takes2) =
    Took (front ++ front2) left2 y
    (e ∙ ap (λ (xs : List Item). front ++ xs) e2 ∙ sym (append_assoc front front2 left2))
    (subst (λ (ts : List Token). TakesAs (and_then read more) ts y left2) (sym (tokens_append front front2))
    (takes_both read more x y left left2 (tokens front) (tokens front2) takes takes2
    (λ others ys same admits. subst (λ (xs : List Item). Admits xs (others ++ ys)) (sym e2)
    (admits_behind front2 others left2 ys same admits))))
then_took read more then full b both items front left end x rooms passes e takes
    (Faulty front2 back item kind e2 bad faults hope brace) =
    let here = subst (λ (xs : List Item). TakesAs read (tokens front) x xs) e2 takes in
    Faulty (front ++ front2) back item kind
    (e ∙ ap (λ (xs : List Item). front ++ xs) e2 ∙ sym (append_assoc front front2 (item ∷ back))) bad
    (faults_then read more x front front2 back item kind here faults)
    (hope_then read more then full b both x front front2 (item ∷ back) rooms passes here hope)
    (λ missing. braced_then read more then full b both x front front2 back item rooms passes here (brace missing))
then_took {A} {B} read more then full b both items front left end x rooms passes e takes (Wants w hope) =
    let none : left ≡ left ++ [] = sym (append-nil left) in
    let here = subst (λ (xs : List Item). TakesAs read (tokens front) x xs) none takes in
    Wants (ap (λ (xs : List Item). and_then read more (rest_at xs end)) e ∙
    ap (λ (r : Result (A × Rest) ScriptFault). r >>= λ p. more p.0 p.1) (takes front left end refl (inl refl)) ∙ w)
    (subst (λ (xs : List Item). Hope full (and_then read more) both (tokens xs)) (sym e)
    (hope_then read more then full b both x front left [] rooms passes here hope))

-- what the other reader does behind the first one
abbrev GoesOn : {A B : Type 0} → Reader A → (A → Reader B) → (A → List Token → Type 0) → Room → Type 0
GoesOn {A} read more then room = (x : A) (ts : List Token) (left : List Item) (end : ℕ) → TakesAs read ts x left →
    Goes (then x) (more x) room (rest_at left end)

-- a reader and what reads behind it, where it is known how both are ended at the first
pub then_behind : {A B : Type 0} (read : Reader A) (more : A → Reader B) (then : A → List Token → Type 0)
    (full : List Token → Type 0) (b both : Room) (items : List Item) (end : ℕ) → IsRoomBehind read b both →
    PassesOn read then full → Outcome read (Hope full (and_then read more) both) (rest_at items end) →
    GoesOn read more then b → Goes full (and_then read more) both (rest_at items end)
then_behind read more then full b both items end rooms passes (Took front left x e takes) later =
    then_took read more then full b both items front left end x rooms passes e takes
    (later x (tokens front) left end takes)
then_behind {A} {B} read more then full b both items end rooms passes
    (Faulty front back item kind e bad faults hope brace) later =
    Faulty front back item kind e bad (λ others ys other end same is.
    ap (λ (r : Result (A × Rest) ScriptFault). r >>= λ p. more p.0 p.1) (faults others ys other end same is)) hope brace
then_behind {A} {B} read more then full b both items end rooms passes (Wants w hope) later =
    Wants (ap (λ (r : Result (A × Rest) ScriptFault). r >>= λ p. more p.0 p.1) w) hope

-- the room of two readers
pub record Rooms (a b both : Room) : Type 0 where
  pub empty : a.empty + b.empty ≤ both.empty
  pub most : a.most + b.empty ≤ both.most
  pub later : b.most ≤ both.most

hope_first : {A B : Type 0} (read : Reader A) (more : A → Reader B) (first : List Token → Type 0)
    (then : A → List Token → Type 0) (full : List Token → Type 0) (a b both : Room) → Rooms a b both →
    ((ts : List Token) → first ts → full ts) → GoesOn read more then b → (ts : List Token) → Hope first read a ts →
    Hope full (and_then read more) both ts
hope_first read more first then full a b both rooms here later [] c =
    roomier (and_then read more) (a.empty + b.empty) both.empty [] rooms.empty
    (completed_first read more a.empty b.empty [] c
    (from_nothing (then c.x) (more c.x) b 0 (later c.x c.more [] 0 c.takes)))
hope_first read more first then full a b both rooms here later (t ∷ ts) (inl c) =
    inl (roomier (and_then read more) (a.most + b.empty) both.most (t ∷ ts) rooms.most
    (completed_first read more a.most b.empty (t ∷ ts) c
    (from_nothing (then c.x) (more c.x) b 0 (later c.x (t ∷ ts ++ c.more) [] 0 c.takes))))
hope_first read more first then full a b both rooms here later (t ∷ ts) (inr (stuck, none)) =
    inr (here (t ∷ ts) stuck, none_first read more (t ∷ ts) none)

pub then_full : {A B : Type 0} (read : Reader A) (more : A → Reader B) (first : List Token → Type 0)
    (then : A → List Token → Type 0) (full : List Token → Type 0) (a b both : Room) (items : List Item) (end : ℕ) →
    Rooms a b both → ((ts : List Token) → first ts → full ts) → PassesOn read then full →
    Goes first read a (rest_at items end) → GoesOn read more then b →
    Goes full (and_then read more) both (rest_at items end)
then_full read more first then full a b both items end rooms here behind outcome later =
    then_behind read more then full b both items end
    (record {
      none = λ x left takes. omega (arith, rooms.empty);
      some = omega (arith, rooms.most);
      later = rooms.later;
    }) behind
    (other_hope read (Hope first read a) (Hope full (and_then read more) both) (rest_at items end)
    (hope_first read more first then full a b both rooms here later) outcome) later

-- the same, where fullness is what it is whatever stands before it
pub then : {A B : Type 0} (full : List Token → Type 0) → ((ts ts2 : List Token) → full ts2 → full (ts ++ ts2)) →
    (read : Reader A) (more : A → Reader B) (a b both : Room) (items : List Item) (end : ℕ) → Rooms a b both →
    Goes full read a (rest_at items end) → GoesOn read more (λ _. full) b →
    Goes full (and_then read more) both (rest_at items end)
then full behind read more a b both items end rooms first later =
    then_full read more full (λ _. full) full a b both items end rooms (λ ts h. h)
    (λ x ts ts2 left takes h. behind ts ts2 h) first later

-- the same, where nothing more is read
pub then_done : {A B : Type 0} (full : List Token → Type 0) (read : Reader A) (f : A → B) (room : Room)
    (items : List Item) (end : ℕ) → Goes full read room (rest_at items end) →
    Goes full (and_then read (λ x r. Ok (f x, r))) room (rest_at items end)
then_done full read f room items end first =
    then_full read (λ x r. Ok (f x, r)) full (λ _ _. ⊥) full room (even 0) room items end
    (record { empty = omega arith; most = omega arith; later = omega arith }) (λ ts h. h)
    (λ x ts ts2 left takes h. absurd h) first (λ x ts left end takes. done_outcome _ (f x) left end)
