-- Items by their tokens, and what may stand behind a reader.
use Rattle.std.proofs.Common.{◌≡◌, ℕ, false, List, [], ◌∷◌, ◌++◌, Option, Some, None, refl, ap, inl, inr}
use Rattle.std.specs.Prelude.{◌⊎◌, codes}
use Rattle.dsp_defs.specs.Token.{Token, Open, Item, Rest}
use Rattle.dsp_defs.specs.Places.{begins_with}
use Rattle.dsp_script.specs.Plain.{tokens}
use Rattle.dsp_script.proofs.PlainLaws.{as_items}

-- what is left, by its parts
abbrev pub rest_at : List Item → ℕ → Rest
rest_at items end = record { items = items; end = end }

-- the first token
abbrev pub first : List Item → Option Token
first [] = None
first (item ∷ items) = Some item.token

-- no block length and no table begins here
pub record IsQuiet (items : List Item) : Type 0 where
  pub block : begins_with (codes "block") items ≡ false
  pub table : begins_with (codes "table") items ≡ false

pub nothing_quiet : IsQuiet []
nothing_quiet = record { block = refl; table = refl }

-- what may stand in place of what is left behind a reader
abbrev pub Admits : List Item → List Item → Type 0
Admits left others = (first others ≡ first left) ⊎ IsQuiet others

pub admits_behind : (front others left ys : List Item) → tokens others ≡ tokens front → Admits left ys →
    Admits (front ++ left) (others ++ ys)
admits_behind [] [] left ys same h = h
admits_behind [] (o ∷ others) left ys same h = absurd cc
admits_behind (f ∷ front) [] left ys same h = absurd cc
admits_behind (f ∷ front) (o ∷ others) left ys same h = inl cc

pub first_behind : (f : Item) (front others left ys : List Item) → tokens others ≡ tokens (f ∷ front) →
    first (others ++ ys) ≡ first (f ∷ front ++ left)
first_behind f front [] left ys same = absurd cc
first_behind f front (o ∷ others) left ys same = cc

-- a token stands behind these
pub first_before : (front others back ys : List Item) (item other : Item) → tokens others ≡ tokens front →
    other.token ≡ item.token → first (others ++ other ∷ ys) ≡ first (front ++ item ∷ back)
first_before [] [] back ys item other same is = ap (λ (t : Token). Some t) is
first_before [] (o ∷ others) back ys item other same is = absurd cc
first_before (f ∷ front) others back ys item other same is =
    first_behind f front others (item ∷ back) (other ∷ ys) same

-- items whose tokens come in two parts come in two parts
pub parted : (first ts : List Token) (others : List Item) → tokens others ≡ first ++ ts →
    (a b : List Item) × (others ≡ a ++ b) × (tokens a ≡ first) × (tokens b ≡ ts)
parted [] ts others same = ([], others, refl, refl, same)
parted (f ∷ first) ts [] same = absurd cc
parted (f ∷ first) ts (o ∷ others) same =
    let here : o.token ≡ f = cc in
    let later : tokens others ≡ first ++ ts = cc in
    let p = parted first ts others later in
    (o ∷ p.0, p.1, ap (λ (xs : List Item). o ∷ xs) {y = p.0 ++ p.1} p.2, cc, p.4)

pub tokens_append : (xs ys : List Item) → tokens (xs ++ ys) ≡ tokens xs ++ tokens ys
tokens_append [] ys = refl
tokens_append (x ∷ xs) ys = ap (λ (ts : List Token). x.token ∷ ts) (tokens_append xs ys)

pub no_tokens : (others : List Item) → tokens others ≡ [] → others ≡ []
no_tokens [] same = refl
no_tokens (o ∷ others) same = absurd cc

pub tokens_as : (ts : List Token) → tokens (as_items ts) ≡ ts
tokens_as [] = refl
tokens_as (t ∷ ts) = ap (λ (ts : List Token). t ∷ ts) (tokens_as ts)

-- where nothing was left, what stands there is quiet
pub quiet_behind : (ys : List Item) → Admits [] ys → IsQuiet ys
quiet_behind [] admits = nothing_quiet
quiet_behind (y ∷ ys) (inl none) = absurd cc
quiet_behind (y ∷ ys) (inr quiet) = quiet

-- an item that is a brace
abbrev pub open_item : Item
open_item = record { offset = 0; token = Open }
