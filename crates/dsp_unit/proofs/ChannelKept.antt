-- The numbers that filters keep, channel by channel.
use Rattle.std.proofs.Common.{◌≡◌, ◌∙◌, ap, refl, sym, ℕ, zero, suc, ◌+◌, ◌*◌, ◌/◌, ◌<◌, ◌≤◌, ℤ, List, [], ◌∷◌, ◌++◌}
use Rattle.std.proofs.Common.{length, take, drop, flat_map, arith, length-append, length-take, ⊎_elim}
use Rattle.std.specs.List.{range_with_len}
use Rattle.std.specs.Prelude.{All, FitsSigned}
use Rattle.std.proofs.lemmas.List.{take-append-drop, length-drop, length-replicate}
use Rattle.std.proofs.lemmas.Bool.{cases_lt}
use Rattle.std.proofs.Math.Nat.{mul-div_cancel_left}
use Rattle.dsp_defs.specs.Kept.{Kind, InWord, Fixed, Below, Each, IsPlace, IsOfKind, in_words}
use Rattle.dsp_defs.specs.Numbers.{Width}
use Rattle.dsp_unit.specs.Channels.{numbers_in}
use Rattle.dsp_defs.proofs.KeptLaws.{Each-append}

-- two pieces of a list, the first of one length
pub append-apart : (xs ys zs ws : List ℤ) → length xs ≡ length ys → xs ++ zs ≡ ys ++ ws → (xs ≡ ys) × (zs ≡ ws)
append-apart [] [] zs ws size e = (refl, e)
append-apart [] (y ∷ ys) zs ws size e = absurd (omega (arith, size))
append-apart (x ∷ xs) [] zs ws size e = absurd (omega (arith, size))
append-apart (x ∷ xs) (y ∷ ys) zs ws size e =
    let rest = append-apart xs ys zs ws (omega (arith, size)) (cc e) in
    let first : x ≡ y = cc e in
    let later : xs ≡ ys = rest.0 in
    (cc, rest.1)

module _ (f g : ℕ → List ℤ) where
  flat-same : (a n : ℕ) → ((c : ℕ) → c < a + n → f c ≡ g c) →
      flat_map f (range_with_len a n) ≡ flat_map g (range_with_len a n)
  flat-same a zero same = refl
  flat-same a (suc n) same =
      let first : f a ≡ g a = same a (omega arith) in
      let rest : flat_map f (range_with_len (a + 1) n) ≡ flat_map g (range_with_len (a + 1) n) =
      flat-same (a + 1) n (λ c h. same c (omega (arith, h))) in
      cc

  flat-apart : (a n : ℕ) → ((c : ℕ) → c < a + n → length (f c) ≡ length (g c)) →
      flat_map f (range_with_len a n) ≡ flat_map g (range_with_len a n) → (c : ℕ) → a ≤ c → c < a + n → f c ≡ g c
  flat-apart a zero size e c from below = absurd (omega (arith, from, below))
  flat-apart a (suc n) size e c from below =
      let apart = append-apart (f a) (g a) (flat_map f (range_with_len (a + 1) n))
      (flat_map g (range_with_len (a + 1) n)) (size a (omega arith)) e in
      ⊎_elim
      (λ (here : c < a + 1). let at_first : c ≡ a = omega (arith, from, here) in rw at_first apart.0)
      (λ (later : a + 1 ≤ c). flat-apart (a + 1) n (λ d h. size d (omega (arith, h))) apart.1 c later
      (omega (arith, below)))
      (cases_lt c (a + 1))

flat-length : {A : Type 0} (f : ℕ → List A) (k a n : ℕ) → ((c : ℕ) → c < a + n → length (f c) ≡ k) →
    length (flat_map f (range_with_len a n)) ≡ n * k
flat-length f k a zero each = omega arith
flat-length f k a (suc n) each =
    omega (
      arith,
      length-append (f a) (flat_map f (range_with_len (a + 1) n)),
      each a (omega arith),
      flat-length f k (a + 1) n (λ c h. each c (omega (arith, h))),
    )

-- as many lists of one length
pub length-pieces : {A : Type 0} (f : ℕ → List A) (k n : ℕ) → ((c : ℕ) → c < n → length (f c) ≡ k) →
    length (flat_map f (range_with_len 0 n)) ≡ n * k
length-pieces f k n each = flat-length f k 0 n (λ c h. each c (omega (arith, h)))

pub pieces-apart : (f g : ℕ → List ℤ) (n k : ℕ) → ((c : ℕ) → c < n → length (f c) ≡ k) →
    ((c : ℕ) → c < n → length (g c) ≡ k) →
    flat_map f (range_with_len 0 n) ≡ flat_map g (range_with_len 0 n) → (c : ℕ) → c < n → f c ≡ g c
pieces-apart f g n k size size' e c inside =
    flat-apart f g 0 n (λ d h. size d (omega (arith, h)) ∙ sym (size' d (omega (arith, h)))) e c (omega arith)
    (omega (arith, inside))

pub pieces-same : (f g : ℕ → List ℤ) (n : ℕ) → ((c : ℕ) → c < n → f c ≡ g c) →
    flat_map f (range_with_len 0 n) ≡ flat_map g (range_with_len 0 n)
pieces-same f g n same = flat-same f g 0 n (λ c h. same c (omega (arith, h)))

-- ---- kinds, filter by filter

pub each-length : (P : Kind → ℤ → Type 0) (ks : List Kind) (xs : List ℤ) → Each P ks xs → length xs ≡ length ks
each-length P [] [] h = refl
each-length P [] (x ∷ xs) h = absurd h
each-length P (k ∷ ks) [] h = absurd h
each-length P (k ∷ ks) (x ∷ xs) h = ap suc (each-length P ks xs h.1)

of-kind-place : (kind : Kind) (x : ℤ) → IsOfKind kind x → IsPlace kind x
of-kind-place (InWord width) x h = tt
of-kind-place (Fixed n) x h = h
of-kind-place (Below n) x h = tt

-- numbers of the kinds are at the place
pub kinds-place : (ks : List Kind) (xs : List ℤ) → Each IsOfKind ks xs → Each IsPlace ks xs
kinds-place [] [] h = tt
kinds-place [] (x ∷ xs) h = absurd h
kinds-place (k ∷ ks) [] h = absurd h
kinds-place (k ∷ ks) (x ∷ xs) h = (of-kind-place k x h.0, kinds-place ks xs h.1)

each-split : (P : Kind → ℤ → Type 0) (ks ls : List Kind) (xs ys : List ℤ) → length xs ≡ length ks →
    Each P (ks ++ ls) (xs ++ ys) → Each P ks xs × Each P ls ys
each-split P [] ls [] ys size h = (tt, h)
each-split P [] ls (x ∷ xs) ys size h = absurd (omega (arith, size))
each-split P (k ∷ ks) ls [] ys size h = absurd (omega (arith, size))
each-split P (k ∷ ks) ls (x ∷ xs) ys size h =
    let (front, back) = each-split P ks ls xs ys (omega (arith, size)) h.1 in
    ((h.0, front), back)

module _ (P : Kind → ℤ → Type 0) (ks : List Kind) (f : ℕ → List ℤ) where
  flat-each : (a n : ℕ) → ((c : ℕ) → c < a + n → Each P ks (f c)) →
      Each P (flat_map (λ (_ : ℕ). ks) (range_with_len a n)) (flat_map f (range_with_len a n))
  flat-each a zero each = tt
  flat-each a (suc n) each =
      Each-append P ks (flat_map (λ (_ : ℕ). ks) (range_with_len (a + 1) n)) (f a)
      (flat_map f (range_with_len (a + 1) n)) (each a (omega arith))
      (flat-each (a + 1) n (λ c h. each c (omega (arith, h))))

  each-flat : (a n : ℕ) → ((c : ℕ) → c < a + n → length (f c) ≡ length ks) →
      Each P (flat_map (λ (_ : ℕ). ks) (range_with_len a n)) (flat_map f (range_with_len a n)) → (c : ℕ) → a ≤ c →
      c < a + n → Each P ks (f c)
  each-flat a zero size h c from below = absurd (omega (arith, from, below))
  each-flat a (suc n) size h c from below =
      let (here, later) = each-split P ks (flat_map (λ (_ : ℕ). ks) (range_with_len (a + 1) n)) (f a)
      (flat_map f (range_with_len (a + 1) n)) (size a (omega arith)) h in
      ⊎_elim
      (λ (first : c < a + 1). let at_first : a ≡ c = omega (arith, from, first) in let at : Each P ks (f c) =
      (let Q : ℕ → Type 0 = λ d. Each P ks (f d) in subst_at Q a c at_first here) in at)
      (λ (behind : a + 1 ≤ c). each-flat (a + 1) n (λ d k. size d (omega (arith, k))) later c behind
      (omega (arith, below)))
      (cases_lt c (a + 1))
    where
      subst_at : (Q : ℕ → Type 0) (x y : ℕ) → x ≡ y → Q x → Q y
      subst_at Q x y e q = rw (← e) q

  -- numbers for the kinds of each channel
  pub pieces-each : (n : ℕ) → ((c : ℕ) → c < n → Each P ks (f c)) →
      Each P (flat_map (λ (_ : ℕ). ks) (range_with_len 0 n)) (flat_map f (range_with_len 0 n))
  pieces-each n each = flat-each 0 n (λ c h. each c (omega (arith, h)))

  pub each-pieces : (n : ℕ) → ((c : ℕ) → c < n → length (f c) ≡ length ks) →
      Each P (flat_map (λ (_ : ℕ). ks) (range_with_len 0 n)) (flat_map f (range_with_len 0 n)) → (c : ℕ) → c < n →
      Each P ks (f c)
  each-pieces n size h c inside = each-flat 0 n (λ d k. size d (omega (arith, k))) h c (omega arith)
      (omega (arith, inside))

-- ---- numbers that are cut for the channels

pub length-numbers_in : (size n : ℕ) (numbers : List ℤ) → length numbers ≡ n * size → (c : ℕ) → c < n →
    length (numbers_in size numbers c) ≡ size
length-numbers_in size n numbers whole c inside =
    let room : c * size + size ≤ n * size = grind (arith, inside) in
    length-take size (drop (c * size) numbers) ∙ omega (arith, length-drop (c * size) numbers, room, whole)

drop-empty : (n : ℕ) → drop {A = ℤ} n [] ≡ []
drop-empty zero = refl
drop-empty (suc n) = refl

drop-more : (a b : ℕ) (xs : List ℤ) → drop b (drop a xs) ≡ drop (a + b) xs
drop-more zero b xs = ap (λ n. drop n xs) (let e : b ≡ 0 + b = omega arith in e)
drop-more (suc a) b [] = drop-empty b ∙ sym (drop-empty (suc a + b))
drop-more (suc a) b (x ∷ xs) = drop-more a b xs ∙ ap (λ n. drop n (x ∷ xs))
    (let e : suc (a + b) ≡ suc a + b = omega arith in e)

pieces-from : (size : ℕ) (numbers : List ℤ) (a n : ℕ) → length numbers ≡ (a + n) * size →
    drop (a * size) numbers ≡ flat_map (numbers_in size numbers) (range_with_len a n)
pieces-from size numbers a zero whole =
    let gone : length (drop (a * size) numbers) ≡ 0 = (length-drop (a * size) numbers ∙ omega (arith, whole)) in
    nothing (drop (a * size) numbers) gone
  where
    nothing : (xs : List ℤ) → length xs ≡ 0 → xs ≡ []
    nothing [] e = refl
    nothing (x ∷ xs) e = absurd (omega (arith, e))
pieces-from size numbers a (suc n) whole =
    sym (take-append-drop size (drop (a * size) numbers))
    ∙ ap (λ r. take size (drop (a * size) numbers) ++ r)
    (drop-more (a * size) size numbers
    ∙ ap (λ k. drop k numbers) (let e : a * size + size ≡ (a + 1) * size = omega arith in e)
    ∙ pieces-from size numbers (a + 1) n (whole ∙ ap (λ k. k * size)
    (let e : a + suc n ≡ a + 1 + n = omega arith in e)))

-- the numbers are those of the channels, one after another
pub numbers-in_pieces : (size n : ℕ) (numbers : List ℤ) → length numbers ≡ n * size →
    numbers ≡ flat_map (numbers_in size numbers) (range_with_len 0 n)
numbers-in_pieces size n numbers whole =
    ap (λ k. drop k numbers) (let e : 0 ≡ 0 * size = omega arith in e) ∙
    pieces-from size numbers 0 n (whole ∙ ap (λ k. k * size) (let e : n ≡ 0 + n = omega arith in e))

pub cut-size : (size n : ℕ) (numbers : List ℤ) → 0 < n → length numbers ≡ n * size → length numbers / n ≡ size
cut-size size n numbers some whole = ap (λ k. k / n) whole ∙ mul-div_cancel_left size some

-- ---- numbers of a width

pub length-words : (P : Kind → ℤ → Type 0) (width : Width) (count : ℕ) (numbers : List ℤ) →
    Each P (in_words width count) numbers → length numbers ≡ count
length-words P width count numbers each = each-length P (in_words width count) numbers each ∙
    length-replicate count (InWord width)

pub words-fit : (width : Width) (count : ℕ) (numbers : List ℤ) → length numbers ≡ count →
    All (FitsSigned width) numbers → Each IsOfKind (in_words width count) numbers
words-fit width zero [] e all = tt
words-fit width zero (x ∷ xs) e all = absurd (omega (arith, e))
words-fit width (suc count) [] e all = absurd (omega (arith, e))
words-fit width (suc count) (x ∷ xs) e all = (
  all 0 x (omega arith),
  words-fit width count xs (omega (arith, e)) (λ k d h. all (suc k) d (omega (arith, h))),
)

all-cons : (P : ℤ → Type 0) (x : ℤ) (xs : List ℤ) → P x → All P xs → All P (x ∷ xs)
all-cons P x xs p all zero d h = p
all-cons P x xs p all (suc k) d h = all k d (omega (arith, h))

pub fit-words : (width : Width) (count : ℕ) (numbers : List ℤ) → Each IsOfKind (in_words width count) numbers →
    All (FitsSigned width) numbers
fit-words width zero [] each = λ k d h. absurd (omega (arith, h))
fit-words width zero (x ∷ xs) each = absurd each
fit-words width (suc count) [] each = absurd each
fit-words width (suc count) (x ∷ xs) each = all-cons (FitsSigned width) x xs each.0 (fit-words width count xs each.1)
