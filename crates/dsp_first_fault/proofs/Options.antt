-- Readers that look at the next word.
use Rattle.dsp_first_fault.proofs.Items.{open_item, tokens_append, rest_at, first, IsQuiet, nothing_quiet, Admits}
use Rattle.dsp_first_fault.proofs.Items.{first_behind, first_before, no_tokens}
use Rattle.dsp_defs.specs.Places.{◌>>=◌, fault, Judge, next_at, begins_with, meaning_of, named}
use Rattle.dsp_first_fault.proofs.Sequences.{and_then}
use Rattle.std.proofs.Common.{subst, ◌≡◌, ℕ, Bool, true, false, cond, List, [], ◌∷◌, ◌++◌, Result, Ok, refl, sym, ap}
use Rattle.std.proofs.Common.{◌∙◌, append-nil, inl, inr, arith, ◌+◌}
use Rattle.std.specs.Prelude.{is_some}
use Rattle.dsp_defs.specs.declared.script_fault.ScriptFault.{ScriptFault}
use Rattle.dsp_defs.specs.declared.script_fault.ScriptKind.TheVariants.{Missing}
use Rattle.dsp_defs.specs.Token.{Token, Item, Rest, Open}
use Rattle.dsp_script.specs.Plain.{tokens}
use Rattle.dsp_script.proofs.Steps.{pair}
use Rattle.dsp_first_fault.proofs.Endings.{ending_none}
use Rattle.dsp_first_fault.proofs.Readers.{FaultsAt, Reader, TakesAs, Took, Faulty, Wants, Completion, Room, Hope}
use Rattle.dsp_first_fault.proofs.Readers.{NoneRead, Goes, accepted, takes_more, word_token, IsSteady}

begins_same : (name : List ℕ) (xs ys : List Item) → first xs ≡ first ys → begins_with name xs ≡ begins_with name ys
begins_same name [] [] e = refl
begins_same name [] (y ∷ ys) e = absurd cc
begins_same name (x ∷ xs) [] e = absurd cc
begins_same name (x ∷ xs) (y ∷ ys) e =
    let same : x.token ≡ y.token = cc in
    ap (λ (t : Token). is_some (meaning_of (named name) t)) same

-- whether a word is next, where the like of what is left stands
begins_admitted : (name : List ℕ) (xs ys : List Item) → (IsQuiet ys → begins_with name ys ≡ false) →
    begins_with name xs ≡ false → Admits xs ys → begins_with name ys ≡ false
begins_admitted name xs ys quiet none (inl same) = begins_same name ys xs same ∙ none
begins_admitted name xs ys quiet none (inr is) = quiet is

-- what a word begins, or nothing where another stands
abbrev pub optional : {A : Type 0} → List ℕ → Reader A → A → Reader A
optional name read y rest = cond (begins_with name rest.items) (read rest) (Ok (y, rest))

-- the word is one that begins nothing quiet
abbrev IsHeard : List ℕ → Type 0
IsHeard name = (ys : List Item) → IsQuiet ys → begins_with name ys ≡ false

pub there : {A : Type 0} (name : List ℕ) (read : Reader A) (y : A) (xs : List Item) (end : ℕ)
    (r : Result (A × Rest) ScriptFault) → begins_with name xs ≡ true → read (rest_at xs end) ≡ r →
    optional name read y (rest_at xs end) ≡ r
there name read y xs end r b e = rw b e

-- the word is not next
pub skipped : {A : Type 0} (name : List ℕ) (read : Reader A) (y : A) (left : List Item) → IsHeard name →
    begins_with name left ≡ false → TakesAs (optional name read y) [] y left
skipped name read y left heard none others ys end same admits =
    let absent = begins_admitted name left ys (heard ys) none admits in
    rw (no_tokens others same, absent) refl

pub complete_none : {A : Type 0} (name : List ℕ) (read : Reader A) (y : A) (room : ℕ) → IsHeard name →
    Completion (optional name read y) room []
complete_none name read y room heard =
    record { more = []; x = y; ending = ending_none room; takes = skipped name read y [] heard refl }

-- the word is next, and what begins with it is ended
complete_there : {A : Type 0} (name : List ℕ) (read : Reader A) (y : A) (room : ℕ) (f : Item)
    (front back : List Item) → begins_with name (f ∷ front ++ back) ≡ true →
    Completion read room (tokens (f ∷ front)) → Completion (optional name read y) room (tokens (f ∷ front))
complete_there name read y room f front back next c = record {
  more = c.more;
  x = c.x;
  ending = c.ending;
  takes = takes_more (optional name read y) f.token (tokens front ++ c.more) c.x []
      (λ other others ys end here later admits. there name read y (other ∷ others ++ ys) end _
      (ap (λ (t : Token). is_some (meaning_of (named name) t)) here ∙ next)
      (c.takes (other ∷ others) ys end (cc) admits));
}

none_there : {A : Type 0} (name : List ℕ) (read : Reader A) (y : A) (f : Item) (front back : List Item) →
    begins_with name (f ∷ front ++ back) ≡ true → NoneRead read (tokens (f ∷ front)) →
    NoneRead (optional name read y) (tokens (f ∷ front))
none_there name read y f front back next none others ys end p same e =
    let begins = begins_same name (others ++ ys) (f ∷ front ++ back) (first_behind f front others back ys same) ∙
    next in
    none others ys end p same (sym (there name read y (others ++ ys) end _ begins refl) ∙ e)

-- nothing, or as many bytes as what begins with the word wants
abbrev pub optional_room : Room → Room
optional_room room = record { empty = 0; most = room.most }

hope_there : {A : Type 0} (full : List Token → Type 0) (name : List ℕ) (read : Reader A) (y : A) (room : Room)
    (front back : List Item) → IsHeard name → begins_with name (front ++ back) ≡ true →
    Hope full read room (tokens front) → Hope full (optional name read y) (optional_room room) (tokens front)
hope_there full name read y room [] back heard next hope = complete_none name read y 0 heard
hope_there full name read y room (f ∷ front) back heard next (inl c) =
    inl (complete_there name read y room.most f front back next c)
hope_there full name read y room (f ∷ front) back heard next (inr (stuck, none)) =
    inr (stuck, none_there name read y f front back next none)

-- behind the word alone, more is wanted
abbrev pub WantsMore : {A : Type 0} → List ℕ → Reader A → Type 0
WantsMore {A} name read = (item : Item) (end : ℕ) → is_some (meaning_of (named name) item.token) ≡ true →
    read (rest_at (item ∷ []) end) ≡ fault {A = A × Rest} end Missing

-- something is missing here
abbrev at_offset : ℕ → ScriptFault
at_offset offset = record { offset = offset; kind = Missing }

-- how what begins with the word is ended behind a brace
hope_braced : {A : Type 0} (full : List Token → Type 0) (name : List ℕ) (read : Reader A) (y : A) (room : Room)
    (front back : List Item) (item : Item) → IsHeard name → WantsMore name read →
    begins_with name (front ++ item ∷ back) ≡ true → FaultsAt read (tokens front) item.token Missing →
    Hope full read room (tokens front ++ Open ∷ []) →
    Hope full (optional name read y) (optional_room room) (tokens front ++ Open ∷ [])
hope_braced {A} full name read y room [] back item heard wants next faults hope =
    let here : read (rest_at (item ∷ []) (item.offset + 1)) ≡ fault {A = A × Rest} item.offset Missing =
    faults [] [] item (item.offset + 1) refl refl in
    let end = wants item (item.offset + 1) next in
    let same : at_offset item.offset ≡ at_offset (item.offset + 1) = cc in
    absurd (omega (arith, ap (λ (f : ScriptFault). f.offset) same))
hope_braced full name read y room (f ∷ front) back item heard wants next faults hope =
    let behind = tokens_append (f ∷ front) (open_item ∷ []) in
    subst (Hope full (optional name read y) (optional_room room)) behind
    (hope_there full name read y room (f ∷ front ++ open_item ∷ []) [] heard next
    (subst (Hope full read room) (sym behind) hope))

if_there : {A : Type 0} (full : List Token → Type 0) (name : List ℕ) (read : Reader A) (y : A) (room : Room)
    (items : List Item) (end : ℕ) → ((e : ℕ) → read (rest_at [] e) ≡ fault {A = A × Rest} e Missing) →
    WantsMore name read → IsHeard name → begins_with name items ≡ true → Goes full read room (rest_at items end) →
    Goes full (optional name read y) (optional_room room) (rest_at items end)
if_there {A} full name read y room items end wants wants_more heard next (Took [] left x e takes) =
    let taken : read (rest_at [] 0) ≡ pair x (rest_at [] 0) = takes [] [] 0 refl (inr nothing_quiet) in
    let wanted : read (rest_at [] 0) ≡ fault {A = A × Rest} 0 Missing = wants 0 in
    absurd cc
if_there full name read y room items end wants wants_more heard next (Took (a ∷ front) left x e takes) =
    Took (a ∷ front) left x e
    (λ others ys end same admits. there name read y (others ++ ys) end _
    (begins_same name (others ++ ys) (a ∷ front ++ left) (first_behind a front others left ys same) ∙
    ap (begins_with name) (sym e) ∙ next) (takes others ys end same admits))
if_there full name read y room items end wants wants_more heard next
    (Faulty front back item kind e bad faults hope brace) =
    let begins = ap (begins_with name) (sym e) ∙ next in
    Faulty front back item kind e bad
    (λ others ys other end same is. there name read y (others ++ other ∷ ys) end _
    (begins_same name (others ++ other ∷ ys) (front ++ item ∷ back)
    (first_before front others back ys item other same is) ∙ begins)
    (faults others ys other end same is))
    (hope_there full name read y room front (item ∷ back) heard begins hope)
    (λ missing. hope_braced full name read y room front back item heard wants_more begins
    (subst (FaultsAt read (tokens front) item.token) missing faults) (brace missing))
if_there full name read y room items end wants wants_more heard next (Wants e hope) =
    Wants (there name read y items end _ next e)
    (hope_there full name read y room items [] heard (ap (begins_with name) (append-nil items) ∙ next) hope)

pub optional_outcome : {A : Type 0} (full : List Token → Type 0) (name : List ℕ) (read : Reader A) (y : A) (room : Room)
    (items : List Item) (end : ℕ) → ((e : ℕ) → read (rest_at [] e) ≡ fault {A = A × Rest} e Missing) →
    WantsMore name read → IsHeard name → (begins_with name items ≡ true → Goes full read room (rest_at items end)) →
    Goes full (optional name read y) (optional_room room) (rest_at items end)
optional_outcome full name read y room items end wants wants_more heard this = tested (begins_with name items) refl
  where
    tested : (b : Bool) → begins_with name items ≡ b →
        Goes full (optional name read y) (optional_room room) (rest_at items end)
    tested true e = if_there full name read y room items end wants wants_more heard e (this e)
    tested false e = Took [] items y refl (skipped name read y items heard e)

-- the word is next, and a judge takes it
pub word_there : {A : Type 0} (full : List Token → Type 0) (name : List ℕ) (judge : Judge A) (x : A) (room : Room)
    (items : List Item) (end : ℕ) → IsSteady judge → begins_with name items ≡ true →
    ((token : Token) → is_some (meaning_of (named name) token) ≡ true → judge 0 token ≡ Ok x) →
    Goes full (next_at judge) room (rest_at items end)
word_there full name judge x room [] end steady next takes = absurd cc
word_there full name judge x room (item ∷ items) end steady next takes =
    Took (item ∷ []) items x refl (accepted judge item.token x items 0 steady (word_token name item.token next)
    (takes item.token next))

-- a word, and a reader that wants more
pub word_wants : {A B : Type 0} (judge : Judge A) (x : A) (more : A → Reader B) (name : List ℕ) → IsSteady judge →
    ((token : Token) → is_some (meaning_of (named name) token) ≡ true → judge 0 token ≡ Ok x) →
    ((end : ℕ) → more x (rest_at [] end) ≡ fault {A = B × Rest} end Missing) →
    WantsMore name (and_then (next_at judge) more)
word_wants {A} {B} judge x more name steady takes wants item end is =
    ap (λ (r : Result (A × Rest) ScriptFault). r >>= λ p. more p.0 p.1)
    (accepted judge item.token x [] 0 steady (word_token name item.token is) (takes item.token is) (item ∷ []) [] end
    refl (inl refl)) ∙ wants end
