-- Values and products of neighbouring sections of a lattice with feedback, in lanes.
use Rattle.std.proofs.Common.{ℕ, zero, suc, ◌≡◌, ◌≢◌, ◌<◌, ◌≤◌, ◌+◌, ◌-◌, ◌%◌, ◌^◌, Bool, true, false, cond, List, []}
use Rattle.std.proofs.Common.{◌∷◌, ◌++◌, length, map, take, drop, get_or, replicate, refl, sym, ap, ap₂, subst, ◌∙◌}
use Rattle.std.proofs.Common.{arith, w16, w32, w64, eqb, eqb-true}
use Rattle.std.proofs.Math.Facts.{sfits_to_z}
use Rattle.std.proofs.Math.Seq.{take-suc}
use Rattle.std.proofs.lemmas.Int.{ints, int_wrap_fits, to_z-of_z}
use Rattle.std.proofs.lemmas.List.{get_or-drop, drop-drop, length-drop}
use Rattle.std.proofs.lemmas.Simd.{length-zip2, Each1-get_or, Each1-replicate, zip2_splat_left, tops_compared}
use Rattle.std.proofs.lemmas.Simd.{mask_l-mod}
use Rattle.std.specs.Prelude.{ℤ, pos, negsuc, ◌-ℤ◌, not}
use Rattle.std.specs.Int.{int_wrap}
use lib.Lanes.{zip2, chunk, pick_l, mask_l, top, Each1}
use lib.Signed.{lt_z}
use mir.Syntax.{Width, w8, w128, mask, ne}
use mir.Val.{SFits, to_z, of_z, bits, hbits}
use borrow.Table.Row.{s_int}
use borrow.Rule.Simd.Lanes.{act2}
use Rattle.dsp_defs.specs.Signal.{sample}
use Rattle.dsp_lanes.proofs.LaneOps.{bits_of, subtracted, most, most_are, greater, map-same, Each1-map}
use Rattle.dsp_lanes.proofs.LaneSums.{plus_in, lanes_read}
use Rattle.dsp_lanes.proofs.Fractions.{less_in}
use Rattle.dsp_lanes.proofs.HalfSums.{by_four, by_eight}
use Rattle.dsp_lanes.proofs.LaneOps.{length-map}

-- ---- lanes that hold numbers of a width

abbrev pub AreIn : Width → ℕ → List ℤ → Type 0
AreIn w n xs = Each1 (SFits w) xs × (length xs ≡ n)

pub lanes_fit : (w : Width) (n : ℕ) (lanes : List ℕ) (xs : List ℤ) → lanes ≡ bits_of w xs → AreIn w n xs →
    AreIn w n (map (to_z w) lanes)
lanes_fit w n lanes xs e f = let read = lanes_read w lanes xs e f.0 in (read.1, ap length read.0 ∙ f.1)

-- ---- -1 less each number

complement_fits : (w : Width) (x : ℤ) → SFits w x → SFits w (negsuc 0 -ℤ x)
complement_fits w (pos n) f = omega (arith, ints, f.sfits)
complement_fits w (negsuc n) f = omega (arith, ints, f.sfits)

pub complements_are : (w : Width) (n : ℕ) (xs : List ℤ) → SFits w (negsuc 0) → AreIn w n xs
    → zip2 (less_in w) (bits_of w (replicate n (negsuc 0))) (bits_of w xs) ≡ bits_of w (map (λ x. negsuc 0 -ℤ x) xs)
complements_are w n xs one f =
    subtracted w (replicate n (negsuc 0)) xs (Each1-replicate (SFits w) n (negsuc 0) one) f.0
    ∙ ap (bits_of w) (zip2_splat_left (λ a b. int_wrap w (a -ℤ b)) (negsuc 0) n xs f.1
    ∙ map-same (SFits w) (λ x. int_wrap w (negsuc 0 -ℤ x)) (λ x. negsuc 0 -ℤ x)
    (λ x p. int_wrap_fits w (negsuc 0 -ℤ x) (complement_fits w x p)) xs f.0)

pub complements_fit : (w : Width) (n : ℕ) (xs : List ℤ) → AreIn w n xs → AreIn w n (map (λ x. negsuc 0 -ℤ x) xs)
complements_fit w n xs f = (
  Each1-map (SFits w) (SFits w) (λ x. negsuc 0 -ℤ x) (complement_fits w) xs f.0,
  length-map (λ x. negsuc 0 -ℤ x) xs ∙ f.1,
)

-- ---- the numbers behind one

group_next : (n : ℕ) (ys : List ℤ) → 0 < n → n < length ys →
    drop 1 (take n ys) ++ (sample ys n ∷ []) ≡ take n (drop 1 ys)
group_next zero ys some room = absurd (omega (arith, some))
group_next (suc n) [] some room = absurd (omega (arith, room))
group_next (suc n) (y ∷ ys) some room = sym (take-suc ys n (pos 0) (omega (arith, room)))

pub next_group : (at n : ℕ) (xs : List ℤ) → 0 < n → at + n < length xs →
    drop 1 (chunk at n xs) ++ (sample xs (at + n) ∷ []) ≡ chunk (at + 1) n xs
next_group at n xs some room =
    let left : n < length (drop at xs) = omega (arith, room, length-drop at xs) in
    let one : at + 1 ≡ 1 + at = omega arith in
    ap (λ v. drop 1 (chunk at n xs) ++ (v ∷ [])) (sym (get_or-drop at xs n (pos 0)))
    ∙ group_next n (drop at xs) some left
    ∙ ap (take n) (drop-drop 1 at xs ∙ ap (λ m. drop m xs) (omega arith))

pub next_of_eight : (w : Width) (v : ℤ) (xs : List ℤ) → length xs ≡ 8
    → pick_l 0 (bits_of w xs ++ bits_of w (replicate 8 v)) (1 ∷ 2 ∷ 3 ∷ 4 ∷ 5 ∷ 6 ∷ 7 ∷ 8 ∷ []) ≡ bits_of w
    (drop 1 xs ++ (v ∷ []))
next_of_eight w v xs long =
    by_eight (λ xs. pick_l 0 (bits_of w xs ++ bits_of w (replicate 8 v)) (1 ∷ 2 ∷ 3 ∷ 4 ∷ 5 ∷ 6 ∷ 7 ∷ 8 ∷ []) ≡
    bits_of w (drop 1 xs ++ (v ∷ [])))
    (λ a b c d e f x y. refl) xs long

pub next_of_four : (w : Width) (v : ℤ) (xs : List ℤ) → length xs ≡ 4
    → pick_l 0 (bits_of w xs ++ bits_of w (replicate 4 v)) (1 ∷ 2 ∷ 3 ∷ 4 ∷ []) ≡ bits_of w (drop 1 xs ++ (v ∷ []))
next_of_four w v xs long =
    by_four (λ xs. pick_l 0 (bits_of w xs ++ bits_of w (replicate 4 v)) (1 ∷ 2 ∷ 3 ∷ 4 ∷ []) ≡ bits_of w
    (drop 1 xs ++ (v ∷ []))) (λ a b c d. refl) xs long

-- ---- the last of one group, and another but its last

pub behind_eight : (w : Width) (fs xs : List ℤ) → length fs ≡ 8 → length xs ≡ 8
    → pick_l 0 (bits_of w fs ++ bits_of w xs) (7 ∷ 8 ∷ 9 ∷ 10 ∷ 11 ∷ 12 ∷ 13 ∷ 14 ∷ []) ≡ bits_of w
    (sample fs 7 ∷ take 7 xs)
behind_eight w fs xs long_f long =
    by_eight (λ fs. pick_l 0 (bits_of w fs ++ bits_of w xs) (7 ∷ 8 ∷ 9 ∷ 10 ∷ 11 ∷ 12 ∷ 13 ∷ 14 ∷ []) ≡ bits_of w
    (sample fs 7 ∷ take 7 xs))
    (λ a b c d e f x y. by_eight (λ xs. pick_l 0 (bits_of w (a ∷ b ∷ c ∷ d ∷ e ∷ f ∷ x ∷ y ∷ []) ++ bits_of w xs)
    (7 ∷ 8 ∷ 9 ∷ 10 ∷ 11 ∷ 12 ∷ 13 ∷ 14 ∷ []) ≡ bits_of w (y ∷ take 7 xs))
    (λ a' b' c' d' e' f' x' y'. refl) xs long) fs long_f

pub behind_four : (w : Width) (fs xs : List ℤ) → length fs ≡ 4 → length xs ≡ 4
    → pick_l 0 (bits_of w fs ++ bits_of w xs) (3 ∷ 4 ∷ 5 ∷ 6 ∷ []) ≡ bits_of w (sample fs 3 ∷ take 3 xs)
behind_four w fs xs long_f long =
    by_four (λ fs. pick_l 0 (bits_of w fs ++ bits_of w xs) (3 ∷ 4 ∷ 5 ∷ 6 ∷ []) ≡ bits_of w (sample fs 3 ∷ take 3 xs))
    (λ a b c d. by_four (λ xs. pick_l 0 (bits_of w (a ∷ b ∷ c ∷ d ∷ []) ++ bits_of w xs) (3 ∷ 4 ∷ 5 ∷ 6 ∷ []) ≡
    bits_of w (d ∷ take 3 xs)) (λ a' b' c' d'. refl) xs long) fs long_f

pub behind_fit : (w : Width) (n : ℕ) (fs xs : List ℤ) → AreIn w (suc n) fs → AreIn w (suc n) xs →
    AreIn w (suc n) (sample fs n ∷ take n xs)
behind_fit w n fs xs f g = (
  (Each1-get_or (SFits w) fs n (pos 0) (omega (arith, f.1)) f.0, takes n xs g.0),
  ap suc (cut n xs g.1),
)
  where
    takes : (n : ℕ) (xs : List ℤ) → Each1 (SFits w) xs → Each1 (SFits w) (take n xs)
    takes zero xs e = tt
    takes (suc n) [] e = tt
    takes (suc n) (x ∷ xs) e = (e.0, takes n xs e.1)

    cut : (n : ℕ) (xs : List ℤ) → length xs ≡ suc n → length (take n xs) ≡ n
    cut zero xs e = refl
    cut (suc n) [] e = absurd (omega (arith, e))
    cut (suc n) (x ∷ xs) e = ap suc (cut n xs (omega arith))

-- ---- a difference, whatever it is of

less_fits : (w : Width) (xs ys : List ℕ) → Each1 (SFits w) (map (to_z w) (zip2 (less_in w) xs ys))
less_fits w [] ys = tt
less_fits w (x ∷ xs) [] = tt
less_fits w (x ∷ xs) (y ∷ ys) = (one w x y, less_fits w xs ys)
  where
    one : (w : Width) (x y : ℕ) → SFits w (to_z w (less_in w x y))
    one w16 x y = sfits_to_z (omega arith)
    one w32 x y = sfits_to_z (omega arith)
    one w8 x y = sfits_to_z (omega arith)
    one w64 x y = sfits_to_z (omega arith)
    one w128 x y = sfits_to_z (omega arith)

-- products that are moved up and added, and taken off the last value of the group before
abbrev pub moved_sums : Width → ℕ → List ℕ → List ℕ → List ℕ
moved_sums w n lanes places = zip2 (plus_in w) lanes (pick_l 0 (replicate n 0 ++ lanes) places)

abbrev pub guessed_eight : Width → List ℤ → List ℤ → List ℕ
guessed_eight w fs ps =
    zip2 (less_in w) (pick_l 0 (bits_of w fs ++ bits_of w fs) (7 ∷ 7 ∷ 7 ∷ 7 ∷ 7 ∷ 7 ∷ 7 ∷ 7 ∷ []))
    (moved_sums w 8
    (moved_sums w 8 (moved_sums w 8 (bits_of w ps) (0 ∷ 8 ∷ 9 ∷ 10 ∷ 11 ∷ 12 ∷ 13 ∷ 14 ∷ []))
    (0 ∷ 1 ∷ 8 ∷ 9 ∷ 10 ∷ 11 ∷ 12 ∷ 13 ∷ []))
    (0 ∷ 1 ∷ 2 ∷ 3 ∷ 8 ∷ 9 ∷ 10 ∷ 11 ∷ []))

length-read : {A B : Type 0} (f : A → B) (xs : List A) → length (map f xs) ≡ length xs
length-read f [] = refl
length-read f (x ∷ xs) = ap suc (length-read f xs)

moved_long : (w : Width) (n : ℕ) (lanes places : List ℕ) → length lanes ≡ n → length places ≡ n →
    length (moved_sums w n lanes places) ≡ n
moved_long w n lanes places e h =
    let picks = pick_l 0 (replicate n 0 ++ lanes) places in
    let size : length picks ≡ n = length-read (λ k. get_or (replicate n 0 ++ lanes) k 0) places ∙ h in
    length-zip2 (plus_in w) lanes picks (e ∙ sym size) ∙ e

less_are : (w : Width) (n : ℕ) (xs ys : List ℕ) → length xs ≡ n → length ys ≡ n →
    AreIn w n (map (to_z w) (zip2 (less_in w) xs ys))
less_are w n xs ys e h = (
  less_fits w xs ys,
  length-read (to_z w) (zip2 (less_in w) xs ys) ∙
      length-zip2 (less_in w) xs ys (e ∙ sym h) ∙ e,
)

pub guess_of_eight : (w : Width) (fs ps : List ℤ) → length ps ≡ 8 → AreIn w 8 (map (to_z w) (guessed_eight w fs ps))
guess_of_eight w fs ps long =
    let twos = moved_sums w 8 (bits_of w ps) (0 ∷ 8 ∷ 9 ∷ 10 ∷ 11 ∷ 12 ∷ 13 ∷ 14 ∷ []) in
    let fours = moved_sums w 8 twos (0 ∷ 1 ∷ 8 ∷ 9 ∷ 10 ∷ 11 ∷ 12 ∷ 13 ∷ []) in
    let all = moved_sums w 8 fours (0 ∷ 1 ∷ 2 ∷ 3 ∷ 8 ∷ 9 ∷ 10 ∷ 11 ∷ []) in
    let long_2 : length twos ≡ 8 = moved_long w 8 (bits_of w ps) (0 ∷ 8 ∷ 9 ∷ 10 ∷ 11 ∷ 12 ∷ 13 ∷ 14 ∷ [])
    (length-read (of_z w) ps ∙ long) refl in
    let long_4 : length fours ≡ 8 = moved_long w 8 twos (0 ∷ 1 ∷ 8 ∷ 9 ∷ 10 ∷ 11 ∷ 12 ∷ 13 ∷ []) long_2 refl in
    less_are w 8 (pick_l 0 (bits_of w fs ++ bits_of w fs) (7 ∷ 7 ∷ 7 ∷ 7 ∷ 7 ∷ 7 ∷ 7 ∷ 7 ∷ [])) all refl
    (moved_long w 8 fours (0 ∷ 1 ∷ 2 ∷ 3 ∷ 8 ∷ 9 ∷ 10 ∷ 11 ∷ []) long_4 refl)

-- ---- a comparison

abbrev differing : Width → List ℤ → List ℤ → List ℕ
differing w xs ys = zip2 (act2 (mask ne) (s_int w) (s_int w) (s_int w)) (bits_of w xs) (bits_of w ys)

mask_none : (ms : List Bool) → mask_l ms ≡ 0 → (m : Bool) (rest : List Bool) → ms ≡ m ∷ rest → (m ≡ false) ×
    (mask_l rest ≡ 0)
mask_none ms none false rest e = (refl, omega (arith, sym (ap mask_l e) ∙ none))
mask_none ms none true rest e = absurd (omega (arith, sym (ap mask_l e) ∙ none))

none_differ : (w : Width) (xs ys : List ℤ) → Each1 (SFits w) xs → Each1 (SFits w) ys → length xs ≡ length ys →
    mask_l (zip2 (λ a b. not (eqb a b)) (bits_of w xs) (bits_of w ys)) ≡ 0 → xs ≡ ys
none_differ w [] [] f g e none = refl
none_differ w [] (y ∷ ys) f g e none = absurd (omega (arith, e))
none_differ w (x ∷ xs) [] f g e none = absurd (omega (arith, e))
none_differ w (x ∷ xs) (y ∷ ys) f g e none =
    let here = mask_none _ none (not (eqb (of_z w x) (of_z w y)))
    (zip2 (λ a b. not (eqb a b)) (bits_of w xs) (bits_of w ys)) refl in
    let same : of_z w x ≡ of_z w y = equal (of_z w x) (of_z w y) here.0 in
    ap₂ (λ a l. a ∷ l) (sym (to_z-of_z w x f.0) ∙ ap (to_z w) same ∙ to_z-of_z w y g.0)
    (none_differ w xs ys f.1 g.1 (omega arith) here.1)
  where
    equal : (a b : ℕ) → not (eqb a b) ≡ false → a ≡ b
    equal a b h = by (eqb a b) refl h
      where
        by : (t : Bool) → eqb a b ≡ t → not t ≡ false → a ≡ b
        by true e h = eqb-true a b e
        by false e h = absurd (subst (λ (b : Bool). cond b (Unit {0}) ⊥) h tt)

pub are_same : (w : Width) (n : ℕ) (xs ys : List ℤ) → n ≤ 64 → AreIn w n xs → AreIn w n ys →
    mask_l (map (top (hbits w)) (differing w xs ys)) % 2 ^ 64 ≡ 0 → xs ≡ ys
are_same w n xs ys few f g none =
    let t : ℕ → ℕ → Bool = λ a b. not (eqb a b) in
    let tests = zip2 t (bits_of w xs) (bits_of w ys) in
    let compared : map (top (hbits w)) (differing w xs ys) ≡ tests = masked w xs ys ∙
    tops_compared w t (bits_of w xs) (bits_of w ys) in
    let long : length tests ≤ 64 = omega (arith, few, lengths xs ys, f.1) in
    none_differ w xs ys f.0 g.0 (f.1 ∙ sym g.1) (sym (mask_l-mod tests 64 long) ∙
    ap (λ ms. mask_l ms % 2 ^ 64) (sym compared) ∙ none)
  where
    lengths : (xs ys : List ℤ) → length (zip2 (λ a b. not (eqb a b)) (bits_of w xs) (bits_of w ys)) ≤ length xs
    lengths [] ys = omega arith
    lengths (x ∷ xs) [] = omega arith
    lengths (x ∷ xs) (y ∷ ys) = omega (arith, lengths xs ys)

    lane : (w : Width) (a b : ℕ) → act2 (mask ne) (s_int w) (s_int w) (s_int w) a b ≡ cond (not (eqb a b))
        (2 ^ bits w - 1) 0
    lane w8 a b = refl
    lane w16 a b = refl
    lane w32 a b = refl
    lane w64 a b = refl
    lane w128 a b = refl

    masked : (w : Width) (xs ys : List ℤ) → map (top (hbits w)) (differing w xs ys) ≡ map (top (hbits w))
        (zip2 (λ a b. cond (not (eqb a b)) (2 ^ bits w - 1) 0) (bits_of w xs) (bits_of w ys))
    masked w [] ys = refl
    masked w (x ∷ xs) [] = refl
    masked w (x ∷ xs) (y ∷ ys) = ap₂ (λ a l. top (hbits w) a ∷ l) (lane w (of_z w x) (of_z w y)) (masked w xs ys)

-- ---- coefficients that are not -2^15

abbrev pub IsApart : ℤ → Type 0
IsApart k = k ≢ negsuc 32767

abbrev least_exact : ℤ
least_exact = negsuc 32766

most_fits : (x : ℤ) → SFits w16 x → SFits w16 (most x least_exact)
most_fits x f = by (lt_z x least_exact)
  where
    by : (t : Bool) → SFits w16 (cond t least_exact x)
    by true = omega (arith, ints)
    by false = f

pub cut_lanes : (xs : List ℤ) → AreIn w16 8 xs
    → (greater w16 (bits_of w16 xs) (replicate 8 (of_z w16 least_exact)) ≡ bits_of w16
    (map (λ x. most x least_exact) xs))
    × AreIn w16 8 (map (λ x. most x least_exact) xs)
cut_lanes xs f = (
  most_are w16 8 least_exact xs f.1 f.0 (omega (arith, ints)),
  (
    Each1-map (SFits w16) (SFits w16) (λ x. most x least_exact) most_fits xs f.0,
    length-map (λ x. most x least_exact) xs ∙ f.1,
  ),
)

pub cut_exact : (xs : List ℤ) → xs ≡ map (λ x. most x least_exact) xs → Each1 IsApart xs
cut_exact [] e = tt
cut_exact (x ∷ xs) e = (
  λ h. apart (sym h ∙ ap (λ l. sample l 0) e ∙ ap (λ z. most z least_exact) h),
  cut_exact xs (ap (drop 1) e),
)
  where
    apart : negsuc 32767 ≡ negsuc 32766 → ⊥
    apart e = omega (arith, ints, e)
