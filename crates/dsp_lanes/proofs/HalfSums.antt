-- Lanes of which the even ones are summed apart from the odd ones.
use Rattle.std.proofs.Common.{ℕ, ◌≡◌, ◌+◌, zero, suc, List, [], ◌∷◌, ◌++◌, length, map, refl, sym, ap, subst, ◌∙◌}
use Rattle.std.proofs.Common.{arith}
use Rattle.std.proofs.lemmas.Int.{ints}
use Rattle.std.proofs.lemmas.Simd.{length-zip2}
use Rattle.std.specs.Prelude.{ℤ, ◌+ℤ◌, ◌*ℤ◌}
use Rattle.std.specs.Int.{int_wrap}
use lib.Lanes.{zip2, Each1, pick_l}
use mir.Syntax.{Width}
use mir.Val.{SFits, to_z}
use Rattle.dsp_lanes.specs.Pairs.{in_turn}
use Rattle.dsp_lanes.specs.Regrouped.{list_sum}
use Rattle.dsp_lanes.proofs.LaneOps.{bits_of, ints_of_bits}
use Rattle.dsp_lanes.proofs.LaneSums.{summed_fit}

-- every second one, from the first or from the second on
abbrev pub evens : List ℤ → List ℤ
evens [] = []
evens (x ∷ []) = []
evens (x ∷ y ∷ xs) = x ∷ evens xs

abbrev pub odds : List ℤ → List ℤ
odds [] = []
odds (x ∷ []) = []
odds (x ∷ y ∷ xs) = y ∷ odds xs

-- one by one
abbrev pub products : List ℤ → List ℤ → List ℤ
products xs ys = zip2 (λ x y. x *ℤ y) xs ys

-- ---- lists of a known length
by_two : (P : List ℤ → Type 0) → ((a b : ℤ) → P (a ∷ b ∷ [])) → (xs : List ℤ) → length xs ≡ 2 → P xs
by_two P h [] e = absurd (omega (arith, e))
by_two P h (a ∷ []) e = absurd (omega (arith, e))
by_two P h (a ∷ b ∷ []) e = h a b
by_two P h (a ∷ b ∷ c ∷ xs) e = absurd (omega (arith, e))

pub by_four : (P : List ℤ → Type 0) → ((a b c d : ℤ) → P (a ∷ b ∷ c ∷ d ∷ [])) → (xs : List ℤ) → length xs ≡ 4 → P xs
by_four P h [] e = absurd (omega (arith, e))
by_four P h (a ∷ []) e = absurd (omega (arith, e))
by_four P h (a ∷ b ∷ xs) e = by_two (λ ys. P (a ∷ b ∷ ys)) (λ c d. h a b c d) xs (omega arith)

pub by_eight : (P : List ℤ → Type 0) → ((a b c d e f x y : ℤ) → P (a ∷ b ∷ c ∷ d ∷ e ∷ f ∷ x ∷ y ∷ [])) →
    (xs : List ℤ) → length xs ≡ 8 → P xs
by_eight P h [] e = absurd (omega (arith, e))
by_eight P h (a ∷ []) e = absurd (omega (arith, e))
by_eight P h (a ∷ b ∷ []) e = absurd (omega (arith, e))
by_eight P h (a ∷ b ∷ c ∷ []) e = absurd (omega (arith, e))
by_eight P h (a ∷ b ∷ c ∷ d ∷ xs) e = by_four (λ ys. P (a ∷ b ∷ c ∷ d ∷ ys)) (λ x y z w. h a b c d x y z w) xs
    (omega arith)

-- ---- swizzles
abbrev pub picked : List ℕ → List ℕ → List ℕ
picked lanes places = pick_l 0 (lanes ++ lanes) places

pub evens_of_four : (w : Width) (xs : List ℤ) → length xs ≡ 4 →
    picked (bits_of w xs) (0 ∷ 2 ∷ []) ≡ bits_of w (evens xs)
evens_of_four w xs long = by_four (λ xs. picked (bits_of w xs) (0 ∷ 2 ∷ []) ≡ bits_of w (evens xs)) (λ a b c d. refl)
    xs long

pub odds_of_four : (w : Width) (xs : List ℤ) → length xs ≡ 4 → picked (bits_of w xs) (1 ∷ 3 ∷ []) ≡ bits_of w (odds xs)
odds_of_four w xs long = by_four (λ xs. picked (bits_of w xs) (1 ∷ 3 ∷ []) ≡ bits_of w (odds xs)) (λ a b c d. refl) xs
    long

pub evens_of_eight : (w : Width) (xs : List ℤ) → length xs ≡ 8 →
    picked (bits_of w xs) (0 ∷ 2 ∷ 4 ∷ 6 ∷ []) ≡ bits_of w (evens xs)
evens_of_eight w xs long = by_eight (λ xs. picked (bits_of w xs) (0 ∷ 2 ∷ 4 ∷ 6 ∷ []) ≡ bits_of w (evens xs))
    (λ a b c d e f x y. refl) xs long

pub odds_of_eight : (w : Width) (xs : List ℤ) → length xs ≡ 8 →
    picked (bits_of w xs) (1 ∷ 3 ∷ 5 ∷ 7 ∷ []) ≡ bits_of w (odds xs)
odds_of_eight w xs long = by_eight (λ xs. picked (bits_of w xs) (1 ∷ 3 ∷ 5 ∷ 7 ∷ []) ≡ bits_of w (odds xs))
    (λ a b c d e f x y. refl) xs long

pub length-evens : (n : ℕ) (xs : List ℤ) → length xs ≡ n + n → length (evens xs) ≡ n
length-evens n [] e = omega arith
length-evens n (x ∷ []) e = absurd (omega (arith, e))
length-evens zero (x ∷ y ∷ xs) e = absurd (omega (arith, e))
length-evens (suc n) (x ∷ y ∷ xs) e = ap suc (length-evens n xs (omega arith))

pub length-odds : (n : ℕ) (xs : List ℤ) → length xs ≡ n + n → length (odds xs) ≡ n
length-odds n [] e = omega arith
length-odds n (x ∷ []) e = absurd (omega (arith, e))
length-odds zero (x ∷ y ∷ xs) e = absurd (omega (arith, e))
length-odds (suc n) (x ∷ y ∷ xs) e = ap suc (length-odds n xs (omega arith))

pub each_even : (P : ℤ → Type 0) (xs : List ℤ) → Each1 P xs → Each1 P (evens xs)
each_even P [] f = tt
each_even P (x ∷ []) f = tt
each_even P (x ∷ y ∷ xs) f = (f.0, each_even P xs f.1.1)

pub each_odd : (P : ℤ → Type 0) (xs : List ℤ) → Each1 P xs → Each1 P (odds xs)
each_odd P [] f = tt
each_odd P (x ∷ []) f = tt
each_odd P (x ∷ y ∷ xs) f = (f.1.0, each_odd P xs f.1.1)

pub each_in_turn : (P : ℤ → Type 0) (even odd : List ℤ) → Each1 P even → Each1 P odd → Each1 P (in_turn even odd)
each_in_turn P [] odd f g = tt
each_in_turn P (x ∷ even) [] f g = tt
each_in_turn P (x ∷ even) (y ∷ odd) f g = (f.0, (g.0, each_in_turn P even odd f.1 g.1))

-- an operation of the halves is one of the whole
pub in_turn-zip2 : (f : ℤ → ℤ → ℤ) (even odd xs : List ℤ) → length xs ≡ length even + length odd →
    in_turn (zip2 f even (evens xs)) (zip2 f odd (odds xs)) ≡ zip2 f (in_turn even odd) xs
in_turn-zip2 f [] odd xs e = refl
in_turn-zip2 f (a ∷ even) [] [] e = refl
in_turn-zip2 f (a ∷ even) [] (x ∷ []) e = refl
in_turn-zip2 f (a ∷ even) [] (x ∷ y ∷ xs) e = refl
in_turn-zip2 f (a ∷ even) (b ∷ odd) [] e = refl
in_turn-zip2 f (a ∷ even) (b ∷ odd) (x ∷ []) e = absurd (omega (arith, e))
in_turn-zip2 f (a ∷ even) (b ∷ odd) (x ∷ y ∷ xs) e = ap (λ l. f a x ∷ f b y ∷ l)
    (in_turn-zip2 f even odd xs (omega arith))

-- ---- both halves, put in turn and read
abbrev pub in_turn_of_eight : Width → List ℤ → List ℤ → List ℕ
in_turn_of_eight w even odd = pick_l 0 (bits_of w even ++ bits_of w odd) (0 ∷ 4 ∷ 1 ∷ 5 ∷ 2 ∷ 6 ∷ 3 ∷ 7 ∷ [])

pub turned_eight : (w : Width) (even odd : List ℤ) → length even ≡ 4 → length odd ≡ 4 →
    in_turn_of_eight w even odd ≡ bits_of w (in_turn even odd)
turned_eight w even odd long_even long_odd =
    by_four (λ even. in_turn_of_eight w even odd ≡ bits_of w (in_turn even odd))
    (λ a b c d. by_four (λ odd. in_turn_of_eight w (a ∷ b ∷ c ∷ d ∷ []) odd ≡ bits_of w
    (in_turn (a ∷ b ∷ c ∷ d ∷ []) odd)) (λ e f x y. refl) odd long_odd)
    even
    long_even

pub read_eight : (w : Width) (even odd : List ℤ) → length even ≡ 4 → length odd ≡ 4 → Each1 (SFits w) even →
    Each1 (SFits w) odd → map (to_z w) (in_turn_of_eight w even odd) ≡ in_turn even odd
read_eight w even odd long_even long_odd f g = ap (map (to_z w)) (turned_eight w even odd long_even long_odd) ∙
    ints_of_bits w (in_turn even odd) (each_in_turn (SFits w) even odd f g)

-- ---- sums
pub list_sum-halves : (n : ℕ) (xs : List ℤ) → length xs ≡ n + n →
    list_sum (evens xs) +ℤ list_sum (odds xs) ≡ list_sum xs
list_sum-halves n [] e = refl
list_sum-halves n (x ∷ []) e = absurd (omega (arith, e))
list_sum-halves zero (x ∷ y ∷ xs) e = absurd (omega (arith, e))
list_sum-halves (suc n) (x ∷ y ∷ xs) e = let rest = list_sum-halves n xs (omega arith) in omega (arith, ints, rest)

-- sums that were raised
pub half_fits : (w : Width) (n : ℕ) (f : ℤ → ℤ → ℤ) (new sums ps : List ℤ) →
    new ≡ zip2 (λ s p. int_wrap w (f s p)) sums ps → length sums ≡ n → length ps ≡ n → Each1 (SFits w) new ×
    (length new ≡ n)
half_fits w n f new sums ps is long_s long_p = (
  subst (λ (l : List ℤ). Each1 (SFits w) l) (sym is) (summed_fit w f sums ps),
  ap length is ∙ length-zip2 (λ s p. int_wrap w (f s p)) sums ps (omega arith) ∙ long_s,
)
