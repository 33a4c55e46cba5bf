-- What a reader does depends on the tokens that it takes, and on the one behind them; where it stops, its tokens can be
-- ended.
use Rattle.std.proofs.Common.{◌≡◌, ◌≢◌, ℕ, ◌≤◌, true, List, [], ◌∷◌, ◌++◌, Result, Ok, Err, refl, sym, ap, subst, ◌∙◌}
use Rattle.std.proofs.Common.{inl, inr}
use Rattle.std.specs.Prelude.{◌⊎◌, ◌↔◌, is_some}
use Rattle.dsp_defs.specs.declared.script_fault.ScriptFault.{ScriptFault}
use Rattle.dsp_defs.specs.declared.script_fault.ScriptKind.{ScriptKind}
use Rattle.dsp_defs.specs.declared.script_fault.ScriptKind.TheVariants.{BadByte, Missing}
use Rattle.dsp_defs.specs.Token.{Token, Open, Close, Run, Bad, Item, Rest}
use Rattle.dsp_defs.specs.Places.{◌>>=◌, fault, first_of, Judge, next_at, meaning_of, named}
use Rattle.dsp_script.specs.Plain.{tokens}
use Rattle.dsp_first_fault.proofs.Items.{rest_at, first, Admits, no_tokens}
use Rattle.dsp_first_fault.proofs.Endings.{IsEnding, ending_none, ending_wider}
use Rattle.dsp_script.proofs.Tokens.{IsToken}

-- ---- readers

-- what takes of what is left
abbrev pub Reader : Type 0 → Type 0
Reader A = Rest → Result (A × Rest) ScriptFault

-- wherever these tokens stand, they are read as x, where this or the like is left
abbrev pub TakesAs : {A : Type 0} → Reader A → List Token → A → List Item → Type 0
TakesAs read ts x left = (others ys : List Item) (end : ℕ) → tokens others ≡ ts → Admits left ys →
    read (rest_at (others ++ ys) end) ≡ Ok (x, rest_at ys end)

-- wherever these tokens stand, and this one behind them, it is the first fault
abbrev pub FaultsAt : {A : Type 0} → Reader A → List Token → Token → ScriptKind → Type 0
FaultsAt {A} read ts token kind = (others ys : List Item) (other : Item) (end : ℕ) → tokens others ≡ ts →
    other.token ≡ token → read (rest_at (others ++ other ∷ ys) end) ≡ fault {A = A × Rest} other.offset kind

-- the kind is that of a bad byte exactly where the token is one
abbrev pub IsBadByte : ScriptKind → Token → Type 0
IsBadByte kind token = (kind ≡ BadByte) ↔ (token ≡ Bad)

-- what a reader does: it takes a front of the items, or finds a fault at one of them, or wants more; and what holds of
-- the tokens at which it stops
pub data Outcome {A : Type 0} (read : Reader A) (hope : List Token → Type 0) (rest : Rest) : Type 0 where
  Took : (front left : List Item) (x : A) → rest.items ≡ front ++ left → TakesAs read (tokens front) x left →
      Outcome read hope rest
  Faulty : (front back : List Item) (item : Item) (kind : ScriptKind) → rest.items ≡ front ++ item ∷ back →
      IsBadByte kind item.token → FaultsAt read (tokens front) item.token kind → hope (tokens front) →
      (kind ≡ Missing → hope (tokens front ++ Open ∷ [])) → Outcome read hope rest
  Wants : read rest ≡ fault {A = A × Rest} rest.end Missing → hope (tokens rest.items) → Outcome read hope rest

-- tokens that end others, so that a reader takes them all
pub record Completion {A : Type 0} (read : Reader A) (room : ℕ) (front : List Token) : Type 0 where
  pub more : List Token
  pub x : A
  pub ending : IsEnding room more
  pub takes : TakesAs read (front ++ more) x []

-- how many bytes end a reader's tokens: where there are none yet, and at most
pub record Room : Type 0 where
  pub empty : ℕ
  pub most : ℕ

-- as many in each case
abbrev pub even : ℕ → Room
even n = record { empty = n; most = n }

-- no items that begin with these tokens are read
abbrev pub NoneRead : {A : Type 0} → Reader A → List Token → Type 0
NoneRead {A} read ts = (others ys : List Item) (end : ℕ) (p : A × Rest) → tokens others ≡ ts →
    read (rest_at (others ++ ys) end) ≡ Ok p → ⊥

-- there are tokens that end these; or these are full, and nothing ends them
abbrev pub Hope : {A : Type 0} → (List Token → Type 0) → Reader A → Room → List Token → Type 0
Hope full read room [] = Completion read room.empty []
Hope full read room (t ∷ ts) = Completion read room.most (t ∷ ts) ⊎ (full (t ∷ ts) × NoneRead read (t ∷ ts))

-- what a reader does, and that its tokens can be ended, where they are not full
abbrev pub Goes : {A : Type 0} → (List Token → Type 0) → Reader A → Room → Rest → Type 0
Goes full read room rest = Outcome read (Hope full read room) rest

pub roomier : {A : Type 0} (read : Reader A) (a b : ℕ) (ts : List Token) → a ≤ b → Completion read a ts →
    Completion read b ts
roomier read a b ts le c =
    record { more = c.more; x = c.x; ending = ending_wider a b c.more le c.ending; takes = c.takes }

-- a token, and more behind it
pub takes_more : {A : Type 0} (read : Reader A) (token : Token) (ts : List Token) (x : A) (left : List Item) →
    ((other : Item) (others ys : List Item) (end : ℕ) → other.token ≡ token → tokens others ≡ ts → Admits left ys →
    read (rest_at (other ∷ others ++ ys) end) ≡ Ok (x, rest_at ys end)) → TakesAs read (token ∷ ts) x left
takes_more read token ts x left more [] ys end same admits = absurd cc
takes_more read token ts x left more (o ∷ others) ys end same admits =
    let here : o.token ≡ token = cc in
    let later : tokens others ≡ ts = cc in
    more o others ys end here later admits

pub faults_more : {A : Type 0} (read : Reader A) (first : Token) (ts : List Token) (token : Token) (kind : ScriptKind) →
    ((o : Item) (others ys : List Item) (other : Item) (end : ℕ) → o.token ≡ first → tokens others ≡ ts →
    other.token ≡ token → read (rest_at (o ∷ others ++ other ∷ ys) end) ≡ fault {A = A × Rest} other.offset kind) →
    FaultsAt read (first ∷ ts) token kind
faults_more read first ts token kind more [] ys other end same is = absurd cc
faults_more read first ts token kind more (o ∷ others) ys other end same is =
    let here : o.token ≡ first = cc in
    let later : tokens others ≡ ts = cc in
    more o others ys other end here later is

-- a token that stands alone
pub takes_one : {A : Type 0} (read : Reader A) (token : Token) (x : A) (left : List Item) →
    ((ys : List Item) (other : Item) (end : ℕ) → other.token ≡ token → Admits left ys →
    read (rest_at (other ∷ ys) end) ≡ Ok (x, rest_at ys end)) → TakesAs read (token ∷ []) x left
takes_one read token x left one = takes_more read token [] x left
    (λ other others ys end here later admits. rw (no_tokens others later) (one ys other end here admits))

pub faults_here : {A : Type 0} (read : Reader A) (token : Token) (kind : ScriptKind) →
    ((ys : List Item) (other : Item) (end : ℕ) → other.token ≡ token →
    read (rest_at (other ∷ ys) end) ≡ fault {A = A × Rest} other.offset kind) → FaultsAt read [] token kind
faults_here read token kind one others ys other end same is = rw (no_tokens others same) (one ys other end is)

-- ---- one token

-- a fault, at another offset
abbrev pub moved : {A : Type 0} → ℕ → Result A ScriptFault → Result A ScriptFault
moved offset (Ok x) = Ok x
moved offset (Err f) = fault offset f.kind

-- a judge says the same of a token at each offset, and faults it where it stands
abbrev pub IsMoved : {A : Type 0} → Judge A → Type 0
IsMoved judge = (a b : ℕ) (token : Token) → judge b token ≡ moved b (judge a token)

-- the judge takes a brace
abbrev pub TakesBrace : {A : Type 0} → Judge A → Type 0
TakesBrace {A} judge = (x : A) × (judge 0 Open ≡ Ok x)

-- no fault is that of a bad byte, and something is missing only where a brace is taken
abbrev pub IsSoundFault : {A B : Type 0} → Judge A → Result B ScriptFault → Type 0
IsSoundFault judge (Ok x) = Unit {0}
IsSoundFault judge (Err f) = (f.kind ≢ BadByte) × (f.kind ≡ Missing → TakesBrace judge)

-- whatever the token is
abbrev pub IsSound : {A : Type 0} → Judge A → Type 0
IsSound judge = (offset : ℕ) (token : Token) → IsSoundFault judge (judge offset token)

-- what a judge says of a token is the same at each offset, and sound
pub record IsSteady {A : Type 0} (judge : Judge A) : Type 0 where
  pub same : IsMoved judge
  pub sound : IsSound judge

pub other_kind : {A : Type 0} (judge : Judge A) (offset : ℕ) (token : Token) (f : ScriptFault) → IsSteady judge →
    IsToken token → judge offset token ≡ Err f → IsBadByte f.kind token
other_kind judge offset token f steady is e =
    let sound = subst (IsSoundFault judge) e (steady.sound offset token) in
    (λ bad. absurd (sound.0 bad), λ bad. absurd (subst IsToken bad is))

pub takes_brace : {A : Type 0} (judge : Judge A) (offset : ℕ) (token : Token) (f : ScriptFault) → IsSteady judge →
    judge offset token ≡ Err f → f.kind ≡ Missing → TakesBrace judge
takes_brace judge offset token f steady e missing =
    (subst (IsSoundFault judge) e (steady.sound offset token)).1 missing

judged_there : {A : Type 0} (judge : Judge A) (a b : ℕ) (s t : Token) (r : Result A ScriptFault) →
    IsSteady judge → s ≡ t → judge a t ≡ r → judge b s ≡ moved b r
judged_there judge a b s t r steady same e = steady.same a b s ∙ ap (moved b) (ap (judge a) same ∙ e)

pub bad_or_token : (token : Token) → (token ≡ Bad) ⊎ IsToken token
bad_or_token Bad = inl refl
bad_or_token Open = inr tt
bad_or_token Close = inr tt
bad_or_token (Run run) = inr tt

pub word_token : (name : List ℕ) (token : Token) → is_some (meaning_of (named name) token) ≡ true → IsToken token
word_token name Bad e = absurd cc
word_token name Open e = tt
word_token name Close e = tt
word_token name (Run run) e = tt

pub next_bad : {A : Type 0} (judge : Judge A) (item : Item) (items : List Item) (end : ℕ) → item.token ≡ Bad →
    next_at judge (rest_at (item ∷ items) end) ≡ fault item.offset BadByte
unfolding next_at first_of
next_bad judge item items end is = rw is refl

next_is : {A : Type 0} (judge : Judge A) (item : Item) (items : List Item) (end : ℕ) → IsToken item.token →
    next_at judge (rest_at (item ∷ items) end) ≡ (judge item.offset item.token >>= λ x. Ok (x, rest_at items end))
unfolding next_at first_of
next_is judge item items end is =
    (elim item.token as (λ (t : Token). IsToken t → next_at judge
    (rest_at (record { offset = item.offset; token = t } ∷ items) end) ≡
    (judge item.offset t >>= λ x. Ok (x, rest_at items end))) [
      | Bad ↦ (λ h. absurd h)
      | Open ↦ (λ h. refl)
      | Close ↦ (λ h. refl)
      | Run run ↦ (λ h. refl)
    ]) is

-- what the next token is where another of its kind stands
pub next_there : {A : Type 0} (judge : Judge A) (item other : Item) (ys : List Item) (end : ℕ)
    (r : Result A ScriptFault) → IsSteady judge → IsToken item.token → other.token ≡ item.token →
    judge item.offset item.token ≡ r →
    next_at judge (rest_at (other ∷ ys) end) ≡ (moved other.offset r >>= λ x. Ok (x, rest_at ys end))
next_there {A} judge item other ys end r steady is same e =
    next_is judge other ys end (subst IsToken (sym same) is) ∙ ap
    (λ (r : Result A ScriptFault). r >>= λ x. Ok (x, rest_at ys end))
    (judged_there judge item.offset other.offset other.token item.token r steady same e)

-- a token that the judge takes
pub record Accepts {A : Type 0} (judge : Judge A) (room : ℕ) : Type 0 where
  pub token : Token
  pub x : A
  pub is : IsToken token
  pub ending : IsEnding room (token ∷ [])
  pub takes : judge 0 token ≡ Ok x

pub accepted : {A : Type 0} (judge : Judge A) (token : Token) (x : A) (left : List Item) (offset : ℕ) →
    IsSteady judge → IsToken token → judge offset token ≡ Ok x → TakesAs (next_at judge) (token ∷ []) x left
accepted judge token x left offset steady is e = takes_one (next_at judge) token x left
    (λ ys other end same admits. next_there judge (record { offset = offset; token = token }) other ys end (Ok x) steady
    is same e)

-- the token completes what is still empty
complete_one : {A : Type 0} (judge : Judge A) (room : ℕ) → IsSteady judge → Accepts judge room →
    Completion (next_at judge) room []
complete_one judge room steady a = record {
  more = a.token ∷ [];
  x = a.x;
  ending = a.ending;
  takes = accepted judge a.token a.x [] 0 steady a.is a.takes;
}

-- a brace is taken, and nothing more is wanted
complete_brace : {A : Type 0} (judge : Judge A) (room : ℕ) → IsSteady judge → TakesBrace judge →
    Completion (next_at judge) room (Open ∷ [])
complete_brace judge room steady brace = record {
  more = [];
  x = brace.0;
  ending = ending_none room;
  takes = accepted judge Open brace.0 [] 0 steady tt brace.1;
}

pub next_does : {A : Type 0} (hope : List Token → Type 0) (judge : Judge A) → IsSteady judge → hope [] →
    (TakesBrace judge → hope (Open ∷ [])) → (items : List Item) (end : ℕ) →
    Outcome (next_at judge) hope (rest_at items end)
unfolding next_at first_of
next_does hope judge steady nothing brace [] end = Wants refl nothing
next_does {A} hope judge steady nothing brace (item ∷ items) end =
    cases (bad_or_token item.token) (judge item.offset item.token) refl
  where
    cases : (item.token ≡ Bad) ⊎ IsToken item.token → (r : Result A ScriptFault) → judge item.offset item.token ≡ r →
        Outcome (next_at judge) hope (rest_at (item ∷ items) end)
    cases (inl bad) r e = Faulty [] items item BadByte refl (λ _. bad, λ _. refl)
        (faults_here (next_at judge) item.token BadByte (λ ys other end same. next_bad judge other ys end (same ∙ bad)))
        nothing (λ missing. absurd cc)
    cases (inr is) (Ok x) e = Took (item ∷ []) items x refl (accepted judge item.token x items item.offset steady is e)
    cases (inr is) (Err f) e = Faulty [] items item f.kind refl
        (other_kind judge item.offset item.token f steady is e)
        (faults_here (next_at judge) item.token f.kind
        (λ ys other end same. next_there judge item other ys end (Err f) steady is same e))
        nothing (λ missing. brace (takes_brace judge item.offset item.token f steady e missing))

pub next_outcome : {A : Type 0} (full : List Token → Type 0) (judge : Judge A) (room : ℕ) → IsSteady judge →
    Accepts judge room → (items : List Item) (end : ℕ) → Goes full (next_at judge) (even room) (rest_at items end)
next_outcome full judge room steady a items end =
    next_does (Hope full (next_at judge) (even room)) judge steady (complete_one judge room steady a)
    (λ brace. inl (complete_brace judge room steady brace)) items end
