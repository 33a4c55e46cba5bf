-- Filters that keep a few numbers: calls one after another, filters one after another, and the next output of a
-- recurrence.
use Rattle.std.proofs.Common.{◌≡◌, ◌∙◌, ap, ap₂, refl, sym, ℕ, suc, ◌+◌, ◌<◌, ℤ, List, [], ◌∷◌, ◌++◌, reverse, length}
use Rattle.std.proofs.Common.{map, take, drop, set, get_or, arith, length-append}
use Rattle.std.proofs.lemmas.List.{append_assoc, append-nil, reverse-append, reverse-reverse, take_more_set, map_more}
use Rattle.std.proofs.lemmas.List.{map-append, get_or-drop, drop-set-lt, drop-drop}
use Rattle.dsp_defs.specs.Signal.{sample, outputs_of_history, outputs}
use Rattle.dsp_defs.specs.Streaming.{Continues, GoesOn, Behaviour, then, chained}
use Rattle.dsp_defs.specs.Kept.{latest}
use Rattle.dsp_defs.proofs.Streaming.{continues_chain, continues_twice, outputs-append}
use Rattle.dsp_unit.proofs.ChannelKept.{append-apart}

-- ---- calls one after another

module _ {S A B : Type 0} (f : List A → List B) (kept : List A → S) where
  pub goes-nothing : (s : S) → GoesOn f kept s s [] []
  goes-nothing s = record {
    values = λ x e. ap f (append-nil x) ∙ sym (append-nil (f x));
    stands = λ x e. e ∙ ap kept (sym (append-nil x));
  }

  pub goes-twice : (old between new : S) (xs ys : List A) (us vs : List B) → GoesOn f kept old between xs us →
      GoesOn f kept between new ys vs → GoesOn f kept old new (xs ++ ys) (us ++ vs)
  goes-twice old between new xs ys us vs first second = record {
    values = λ x e. continues_twice f x xs ys us vs (first.values x e) (second.values (x ++ xs) (first.stands x e));
    stands = λ x e. second.stands (x ++ xs) (first.stands x e) ∙ ap kept (append_assoc x xs ys);
  }

-- ---- a loop that writes over each sample what is given of it

module _ {X : Type 0} (inputs outputs : List X) (i : ℕ) (d : X) (inside : i < length inputs)
    (room : i < length outputs) (rest : drop i outputs ≡ drop i inputs) where
  sample-there : get_or outputs i d ≡ get_or inputs i d
  sample-there =
      let here : i + 0 ≡ i = omega arith in
      sym (ap (λ k. get_or outputs k d) here) ∙ sym (get_or-drop i outputs 0 d) ∙ ap (λ l. get_or l 0 d) rest ∙
      get_or-drop i inputs 0 d ∙ ap (λ k. get_or inputs k d) here

  pub rest-stays : (y : X) → drop (i + 1) (set outputs i y) ≡ drop (i + 1) inputs
  rest-stays y =
      let below : i < i + 1 = omega arith in
      drop-set-lt (i + 1) outputs i y below ∙ sym (drop-drop 1 i outputs) ∙ ap (drop 1) rest ∙ drop-drop 1 i inputs

  pub goes-more :
      {S : Type 0} (number : X → ℤ) (f : List ℤ → List ℤ) (kept : List ℤ → S) (old between new : S) (y : X) →
      GoesOn f kept old between (map number (take i inputs)) (map number (take i outputs)) →
      GoesOn f kept between new (number (get_or outputs i d) ∷ []) (number y ∷ []) →
      GoesOn f kept old new (map number (take (i + 1) inputs)) (map number (take (i + 1) (set outputs i y)))
  goes-more number f kept old between new y before step =
      let x = get_or outputs i d in
      let taken : map number (take (i + 1) inputs) ≡ map number (take i inputs) ++ number x ∷ [] =
      map_more number inputs i d inside ∙ ap (λ v. map number (take i inputs) ++ number v ∷ []) (sym sample-there)
      in
      let given : map number (take (i + 1) (set outputs i y)) ≡ map number (take i outputs) ++ number y ∷ [] =
      ap (map number) (take_more_set outputs i y room) ∙ map-append number (take i outputs) (y ∷ []) in
      rw (taken, given) (goes-twice f kept old between new (map number (take i inputs)) (number x ∷ [])
      (map number (take i outputs)) (number y ∷ []) before step)

-- ---- filters one after another

-- the second takes what the first gives, and its numbers stand behind those of the first
pub goes-chain :
    {A B C : Type 0} (f : List A → List B) (g : List B → List C) (kept : List A → List ℤ) (kept' : List B → List ℤ)
    (old new old' new' : List ℤ) (xs : List A) (ys : List B) (zs : List C) →
    ((x : List A) → length old ≡ length (kept x)) →
    GoesOn f kept old new xs ys → GoesOn g kept' old' new' ys zs →
    GoesOn (λ x. g (f x)) (λ x. kept x ++ kept' (f x)) (old ++ old') (new ++ new') xs zs
goes-chain f g kept kept' old new old' new' xs ys zs size first second = record {
  values = λ x e.
      let (front, back) = append-apart old (kept x) old' (kept' (f x)) (size x) e in
      continues_chain f g x xs ys zs (first.values x front) (second.values (f x) back);
  stands = λ x e.
      let (front, back) = append-apart old (kept x) old' (kept' (f x)) (size x) e in
      ap₂ (λ s t. s ++ t) (first.stands x front) (second.stands (f x) back ∙ ap kept' (sym (first.values x front)));
}

pub then-assoc : (b c d : Behaviour) → then (then b c) d ≡ then b (then c d)
then-assoc b c d = λ i. record {
  gives = λ x. d.gives (c.gives (b.gives x));
  keeps =
      λ x. append_assoc (b.keeps x) (c.keeps (b.gives x)) (d.keeps (c.gives (b.gives x))) i;
}

pub then-none : (b : Behaviour) → then b (chained []) ≡ b
then-none b = λ i. record { gives = b.gives; keeps = λ x. append-nil (b.keeps x) i }

pub chained-one : (b : Behaviour) → chained (b ∷ []) ≡ b
chained-one b = then-none b

pub chained-two : (b c : Behaviour) → chained (b ∷ c ∷ []) ≡ then b c
chained-two b c = ap (then b) (then-none c)

pub chained-append : (bs cs : List Behaviour) → chained (bs ++ cs) ≡ then (chained bs) (chained cs)
chained-append [] cs = refl
chained-append (b ∷ bs) cs = ap (then b) (chained-append bs cs) ∙ sym (then-assoc b (chained bs) (chained cs))

-- as many numbers as are kept of any signal
pub then-size :
    (b c : Behaviour) (kept kept' : List ℤ) → ((x : List ℤ) → length kept ≡ length (b.keeps x)) →
    ((x : List ℤ) → length kept' ≡ length (c.keeps x)) →
    (x : List ℤ) → length (kept ++ kept') ≡ length ((then b c).keeps x)
then-size b c kept kept' size size' x =
    length-append kept kept' ∙ ap₂ (λ (m n : ℕ). m + n) (size x) (size' (b.gives x)) ∙
    sym (length-append (b.keeps x) (c.keeps (b.gives x)))

-- ---- recurrences

pub reverse-more : {A : Type 0} (x : List A) (a : A) → reverse (x ++ a ∷ []) ≡ a ∷ reverse x
reverse-more x a = reverse-append x (a ∷ [])

pub latest-new : (x : List ℤ) (a : ℤ) → latest (x ++ a ∷ []) 0 ≡ a
latest-new x a = ap (λ h. sample h 0) (reverse-more x a)

pub latest-old : (x : List ℤ) (a : ℤ) (k : ℕ) → latest (x ++ a ∷ []) (suc k) ≡ latest x k
latest-old x a k = ap (λ h. sample h (suc k)) (reverse-more x a)

-- the next output, from the inputs and the outputs so far, the newest first
pub outputs-next : {A B : Type 0} (next : List A → List B → B) (x : List A) (a : A) (y : B) →
    y ≡ next (a ∷ reverse x) (reverse (outputs next x)) → Continues (outputs next) x (a ∷ []) (y ∷ [])
outputs-next next x a y e =
    let history = outputs_of_history next (reverse x) in
    outputs-append next x (a ∷ []) ∙ ap (λ v. outputs next x ++ v ∷ [])
    (ap (next (a ∷ reverse x)) (sym (reverse-reverse history)) ∙ sym e)
