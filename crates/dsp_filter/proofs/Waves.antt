-- Four machines side by side, each a sample behind the one before it.
use Rattle.std.proofs.Common.{◌≡◌, ◌∙◌, ap, ap₂, refl, sym, subst, ℕ, ◌+◌, ◌-◌, ◌<◌, ◌≤◌, ℤ, List, [], ◌∷◌, ◌++◌}
use Rattle.std.proofs.Common.{length, map, take, drop, set, get_or, take_all, length-set, arith}
use Rattle.std.proofs.lemmas.List.{append_assoc, map-append, map_more, take_more_set, get_or-drop}
use Rattle.dsp_defs.specs.Streaming.{Behaviour, GoesOn, then}
use Rattle.dsp_unit.proofs.GoingOn.{goes-nothing, goes-twice, goes-chain, rest-stays}
use Rattle.dsp_filter.specs.Waves.{Part, Four, Wave, Works, Turns, Flows}

-- ---- one machine
pub rests : (m : Part) → Works m m [] []
rests m = record { acts = refl; goes = goes-nothing m.acts.gives m.acts.keeps m.kept }

pub twice : (a b c : Part) (xs ys us vs : List ℤ) → Works a b xs us → Works b c ys vs → Works a c (xs ++ ys) (us ++ vs)
twice a b c xs ys us vs first second = record {
  acts = second.acts ∙ first.acts;
  goes = goes-twice a.acts.gives a.acts.keeps a.kept b.kept c.kept xs ys us vs first.goes
      (subst (λ (m : Behaviour). GoesOn m.gives m.keeps b.kept c.kept ys vs) first.acts second.goes);
}

-- ---- four machines
-- a turn more
flows-more : (from : Four) (now new : Wave) (xs zs : List ℤ) (x z : ℤ)
    → Flows from now xs zs → Turns now new x z → Flows from new (xs ++ x ∷ []) (zs ++ z ∷ [])
flows-more from now new xs zs x z f t = record {
  one = f.one ++ now.to_second ∷ [];
  two = f.two ++ now.to_third ∷ [];
  three = f.three ++ now.to_fourth ∷ [];
  first = twice from.first now.parts.first new.parts.first xs (x ∷ []) (f.one ++ now.to_second ∷ [])
      (new.to_second ∷ []) f.first t.first;
  second = twice from.second now.parts.second new.parts.second f.one (now.to_second ∷ [])
      (f.two ++ now.to_third ∷ []) (new.to_third ∷ []) f.second t.second;
  third = twice from.third now.parts.third new.parts.third f.two (now.to_third ∷ [])
      (f.three ++ now.to_fourth ∷ []) (new.to_fourth ∷ []) f.third t.third;
  fourth = twice from.fourth now.parts.fourth new.parts.fourth f.three (now.to_fourth ∷ []) zs (z ∷ [])
      f.fourth t.fourth;
}

-- two neighbours as one machine
pub neighbours : (a b c d : Part) (xs ys zs : List ℤ) → ((x : List ℤ) → length a.kept ≡ length (a.acts.keeps x))
    → Works a c xs ys → Works b d ys zs
    → GoesOn (then a.acts b.acts).gives (then a.acts b.acts).keeps (a.kept ++ b.kept) (c.kept ++ d.kept) xs zs
neighbours a b c d xs ys zs size first second =
    goes-chain a.acts.gives b.acts.gives a.acts.keeps b.acts.keeps a.kept c.kept b.kept d.kept xs ys zs size first.goes
    second.goes

pub neighbours-act : (a b c d : Part) (xs ys zs : List ℤ) → Works a c xs ys → Works b d ys zs
    → then c.acts d.acts ≡ then a.acts b.acts
neighbours-act a b c d xs ys zs first second = ap₂ then first.acts second.acts

-- ---- samples that are written three places before those that are read
module _ {X : Type 0} (number : X → ℤ) (inputs samples : List X) (at : ℕ) (three : 3 ≤ at) (inside : at < length inputs)
    (size : length samples ≡ length inputs) (rest : drop (at - 3) samples ≡ drop (at - 3) inputs) where
  back : at - 3 + 3 ≡ at
  back = omega (arith, three)

  next : at + 1 - 3 ≡ at - 3 + 1
  next = omega (arith, three)

  ahead : (x : X) → x ≡ get_or samples at x → map number (take (at + 1) inputs) ≡ map number (take at inputs) ++
      number x ∷ []
  ahead x is =
      let there = ap (λ k. get_or samples k x) (sym back) ∙ sym (get_or-drop (at - 3) samples 3 x)
      ∙ ap (λ l. get_or l 3 x) rest ∙ get_or-drop (at - 3) inputs 3 x ∙ ap (λ k. get_or inputs k x) back in
      map_more number inputs at x inside ∙ ap (λ v. map number (take at inputs) ++ number v ∷ []) (sym (is ∙ there))

  behind : (z : X) → map number (take (at + 1 - 3) (set samples (at - 3) z)) ≡ map number (take (at - 3) samples)
      ++ number z ∷ []
  behind z =
      ap (λ k. map number (take k (set samples (at - 3) z))) next
      ∙ ap (map number) (take_more_set samples (at - 3) z (omega (arith, three, inside, size)))
      ∙ map-append number (take (at - 3) samples) (z ∷ [])

  left : (z : X) → drop (at + 1 - 3) (set samples (at - 3) z) ≡ drop (at + 1 - 3) inputs
  left z =
      ap (λ k. drop k (set samples (at - 3) z)) next
      ∙ rest-stays inputs samples (at - 3) z (omega (arith, three, inside)) (omega (arith, three, inside, size)) rest z
      ∙ ap (λ k. drop k inputs) (sym next)

-- so many samples of a list were taken since machines stood so, and what the fourth gave is written
pub record Turned {X : Type 0} (number : X → ℤ) (inputs samples : List X) (at : ℕ) (start now : Wave) : Type 0 where
  pub size : length samples ≡ length inputs
  pub rest : drop (at - 3) samples ≡ drop (at - 3) inputs
  pub flows : (from : Four) → Flows from start (map number (take 3 inputs)) [] →
      Flows from now (map number (take at inputs)) (map number (take (at - 3) samples))

-- and one more
pub turned-more : {X : Type 0} (number : X → ℤ) (inputs samples : List X) (at : ℕ) (start now new : Wave) (x z : X)
    → 3 ≤ at → at < length samples → Turned number inputs samples at start now → x ≡ get_or samples at x →
    Turns now new (number x) (number z) → Turned number inputs (set samples (at - 3) z) (at + 1) start new
turned-more number inputs samples at start now new x z three inside so_far is turns =
    let within : at < length inputs = omega (arith, inside, so_far.size) in
    let taken = ahead number inputs samples at three within so_far.size so_far.rest x is in
    let given = behind number inputs samples at three within so_far.size so_far.rest z in
    record {
      size = length-set samples (at - 3) z ∙ so_far.size;
      rest = left number inputs samples at three within so_far.size so_far.rest z;
      flows = λ from begun. rw (taken, given)
          (flows-more from now new (map number (take at inputs)) (map number (take (at - 3) samples)) (number x)
          (number z) (so_far.flows from begun) turns);
    }

-- the first three of a list
pub three-read : {X : Type 0} (number : X → ℤ) (xs : List X) (a b c : X) → 3 ≤ length xs → a ≡ get_or xs 0 a →
    b ≡ get_or xs 1 b → c ≡ get_or xs 2 c
    → number a ∷ number b ∷ number c ∷ [] ≡ map number (take 3 xs)
three-read number (x ∷ y ∷ z ∷ xs) a b c some first second third =
    λ i. number (first i) ∷ number (second i) ∷ number (third i) ∷ []
three-read number [] a b c some first second third = absurd (omega (arith, some))
three-read number (x ∷ []) a b c some first second third = absurd (omega (arith, some))
three-read number (x ∷ y ∷ []) a b c some first second third = absurd (omega (arith, some))

-- the last three of a list are written
pub three-written : {X : Type 0} (number : X → ℤ) (xs : List X) (last : ℕ) (a b c : X) → last + 3 ≡ length xs
    → map number (set (set (set xs last a) (last + 1) b) (last + 2) c) ≡ map number (take last xs) ++ number a ∷
    number b ∷ number c ∷ []
three-written number xs last a b c whole =
    let first = set xs last a in
    let second = set first (last + 1) b in
    let third = set second (last + 2) c in
    let long = length-set xs last a in
    let long' = length-set first (last + 1) b in
    let long'' = length-set second (last + 2) c in
    let one : last + 2 ≡ last + 1 + 1 = omega arith in
    let all : last + 2 + 1 ≡ last + 3 = omega arith in
    ap (map number) (sym (take_all (last + 2 + 1) third (omega (arith, whole, long, long', long'')))
    ∙ take_more_set second (last + 2) c (omega (arith, whole, long, long'))
    ∙ ap (λ k. take k second ++ c ∷ []) one
    ∙ ap (λ t. t ++ c ∷ []) (take_more_set first (last + 1) b (omega (arith, whole, long)))
    ∙ ap (λ t. (t ++ b ∷ []) ++ c ∷ []) (take_more_set xs last a (omega (arith, whole)))
    ∙ append_assoc (take last xs ++ a ∷ []) (b ∷ []) (c ∷ [])
    ∙ append_assoc (take last xs) (a ∷ []) (b ∷ c ∷ []))
    ∙ map-append number (take last xs) (a ∷ b ∷ c ∷ [])
