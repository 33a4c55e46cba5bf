-- A vector of signed lanes stands in a goal as the bits of its lanes, `map (of_z w) xs`. Each lemma says which
-- integers an operation gives.
use Rattle.std.proofs.Common.{ℕ, ◌≡◌, List, [], ◌∷◌, ◌<◌, ◌≤◌, ◌+◌, ◌*◌, ◌%◌, ◌^◌, ◌-◌, w8, w16, w32, w64, arith}
use Rattle.std.proofs.Common.{zero, suc, length, replicate, map, cond, Bool, true, false, ap, sym, subst, ◌∙◌, refl}
use Rattle.std.proofs.lemmas.Int.{ints, to_z-of_z, of_z-to_z, wrapping_add_is, wrapping_sub_is, wrapping_mul_is}
use Rattle.std.specs.Int.{saturate_to_bits, int_wrap}
use Rattle.std.proofs.lemmas.Simd.{Each1-from_get_or, Each1-replicate, length-chunk, get_or-chunk, map-map, zip2_splat}
use lib.Lanes.{Each1, zip2, sel_l, top, chunk}
use lib.Pow.{pow_pos, pow_mono}
use Rattle.std.specs.List.{All}
use lib.IntN.{ℤ, pos, negsuc, ◌*ℤ◌, ◌+ℤ◌, ◌-ℤ◌}
use native.Mathlib.Nat.{lt_of_le_of_lt}
use lib.Signed.{shr_z, lt_z, mag_shr}
use mir.Syntax.{cast, signed, mask, lt, w128, Width, wrap_add, wrap_sub, wrap_mul, shr, shl}
use mir.Val.{SFits, to_z, of_z, hbits, bits}
use borrow.Table.Row.{s_int}
use borrow.Rule.Simd.Lanes.{Asks1, act1, act2}

-- the bits of lanes of width w
abbrev pub bits_of : Width → List ℤ → List ℕ
bits_of w xs = map (of_z w) xs

pub splat_bits : (v : Width) (n : ℕ) (t : ℤ) → replicate n (of_z v t) ≡ bits_of v (replicate n t)
splat_bits v zero t = refl
splat_bits v (suc n) t = ap (λ l. of_z v t ∷ l) (splat_bits v n t)

pub ints_of_bits : (w : Width) (xs : List ℤ) → Each1 (SFits w) xs → map (to_z w) (bits_of w xs) ≡ xs
ints_of_bits w [] f = refl
ints_of_bits w (x ∷ xs) f = ap (λ z. z ∷ map (to_z w) (bits_of w xs)) (to_z-of_z w x f.0) ∙
    ap (λ zs. x ∷ zs) (ints_of_bits w xs f.1)

-- `cast`
pub casts_asked : (w w' : Width) (xs : List ℤ) → Each1 (SFits w) xs → Each1 (SFits w') xs →
    Each1 (Asks1 (cast signed signed w') (s_int w)) (bits_of w xs)
casts_asked w w' [] f g = tt
casts_asked w w' (x ∷ xs) f g = (rw (to_z-of_z w x f.0) g.0, casts_asked w w' xs f.1 g.1)

pub casts_are : (w w' : Width) (xs : List ℤ) → Each1 (SFits w) xs →
    map (act1 (cast signed signed w') (s_int w) (s_int w')) (bits_of w xs) ≡ bits_of w' xs
casts_are w w' [] f = refl
casts_are w w' (x ∷ xs) f =
    ap (λ z. of_z w' z ∷ map (act1 (cast signed signed w') (s_int w) (s_int w')) (bits_of w xs)) (to_z-of_z w x f.0)
    ∙ ap (λ zs. of_z w' x ∷ zs) (casts_are w w' xs f.1)

-- one lane of two vectors
less_lane : (w : Width) (a b : ℕ) → act2 (mask (lt signed)) (s_int w) (s_int w) (s_int w) a b ≡ cond
    (lt_z (to_z w a) (to_z w b)) (2 ^ bits w - 1) 0
less_lane w8 a b = refl
less_lane w16 a b = refl
less_lane w32 a b = refl
less_lane w64 a b = refl
less_lane w128 a b = refl

add_lane : (w : Width) (a b : ℕ) → act2 wrap_add (s_int w) (s_int w) (s_int w) a b ≡ (a + b) % 2 ^ bits w
add_lane w8 a b = refl
add_lane w16 a b = refl
add_lane w32 a b = refl
add_lane w64 a b = refl
add_lane w128 a b = refl

sub_lane : (w : Width) (a b : ℕ) → act2 wrap_sub (s_int w) (s_int w) (s_int w) a b ≡ (a + (2 ^ bits w - b)) % 2 ^ bits w
sub_lane w8 a b = refl
sub_lane w16 a b = refl
sub_lane w32 a b = refl
sub_lane w64 a b = refl
sub_lane w128 a b = refl

mul_lane : (w : Width) (a b : ℕ) → act2 wrap_mul (s_int w) (s_int w) (s_int w) a b ≡ (a * b) % 2 ^ bits w
mul_lane w8 a b = refl
mul_lane w16 a b = refl
mul_lane w32 a b = refl
mul_lane w64 a b = refl
mul_lane w128 a b = refl

shr_lane : (w : Width) (a b : ℕ) → act2 (shr signed) (s_int w) (s_int w) (s_int w) a b ≡ of_z w
    (shr_z (to_z w a) (2 ^ b))
shr_lane w8 a b = refl
shr_lane w16 a b = refl
shr_lane w32 a b = refl
shr_lane w64 a b = refl
shr_lane w128 a b = refl

shl_lane : (w : Width) (a b : ℕ) → act2 shl (s_int w) (s_int w) (s_int w) a b ≡ (a * 2 ^ b) % 2 ^ bits w
shl_lane w8 a b = refl
shl_lane w16 a b = refl
shl_lane w32 a b = refl
shl_lane w64 a b = refl
shl_lane w128 a b = refl

in_width : (w : Width) (m : ℕ) → m % 2 ^ bits w < 2 ^ bits w
in_width w8 m = omega arith
in_width w16 m = omega arith
in_width w32 m = omega arith
in_width w64 m = omega arith
in_width w128 m = omega arith

pub add_ints : (w : Width) (a b : ℤ) → SFits w a → SFits w b →
    act2 wrap_add (s_int w) (s_int w) (s_int w) (of_z w a) (of_z w b) ≡ of_z w (int_wrap w (a +ℤ b))
add_ints w a b f g = add_lane w (of_z w a) (of_z w b) ∙
    sym (of_z-to_z w ((of_z w a + of_z w b) % 2 ^ bits w) (in_width w (of_z w a + of_z w b))) ∙
    ap (of_z w) (wrapping_add_is w a b f g)

sub_ints : (w : Width) (a b : ℤ) → SFits w a → SFits w b →
    act2 wrap_sub (s_int w) (s_int w) (s_int w) (of_z w a) (of_z w b) ≡ of_z w (int_wrap w (a -ℤ b))
sub_ints w a b f g =
    let m = of_z w a + (2 ^ bits w - of_z w b) in
    sub_lane w (of_z w a) (of_z w b) ∙ sym (of_z-to_z w (m % 2 ^ bits w) (in_width w m)) ∙
    ap (of_z w) (wrapping_sub_is w a b f g)

mul_ints : (w : Width) (a b : ℤ) → SFits w a → SFits w b →
    act2 wrap_mul (s_int w) (s_int w) (s_int w) (of_z w a) (of_z w b) ≡ of_z w (int_wrap w (a *ℤ b))
mul_ints w a b f g = mul_lane w (of_z w a) (of_z w b) ∙
    sym (of_z-to_z w ((of_z w a * of_z w b) % 2 ^ bits w) (in_width w (of_z w a * of_z w b))) ∙
    ap (of_z w) (wrapping_mul_is w a b f g)

-- an operation of two vectors
pub added : (w : Width) (xs ys : List ℤ) → Each1 (SFits w) xs → Each1 (SFits w) ys →
    zip2 (act2 wrap_add (s_int w) (s_int w) (s_int w)) (bits_of w xs) (bits_of w ys) ≡ bits_of w
    (zip2 (λ a b. int_wrap w (a +ℤ b)) xs ys)
added w [] ys f g = refl
added w (x ∷ xs) [] f g = refl
added w (x ∷ xs) (y ∷ ys) f g = ap (λ z. z ∷ zip2 (act2 wrap_add (s_int w) (s_int w) (s_int w)) (bits_of w xs)
    (bits_of w ys)) (add_ints w x y f.0 g.0) ∙ ap (λ zs. of_z w (int_wrap w (x +ℤ y)) ∷ zs) (added w xs ys f.1 g.1)

pub subtracted : (w : Width) (xs ys : List ℤ) → Each1 (SFits w) xs → Each1 (SFits w) ys →
    zip2 (act2 wrap_sub (s_int w) (s_int w) (s_int w)) (bits_of w xs) (bits_of w ys) ≡ bits_of w
    (zip2 (λ a b. int_wrap w (a -ℤ b)) xs ys)
subtracted w [] ys f g = refl
subtracted w (x ∷ xs) [] f g = refl
subtracted w (x ∷ xs) (y ∷ ys) f g = ap (λ z. z ∷ zip2 (act2 wrap_sub (s_int w) (s_int w) (s_int w)) (bits_of w xs)
    (bits_of w ys)) (sub_ints w x y f.0 g.0) ∙ ap (λ zs. of_z w (int_wrap w (x -ℤ y)) ∷ zs) (subtracted w xs ys f.1 g.1)

pub multiplied : (w : Width) (xs ys : List ℤ) → Each1 (SFits w) xs → Each1 (SFits w) ys →
    zip2 (act2 wrap_mul (s_int w) (s_int w) (s_int w)) (bits_of w xs) (bits_of w ys) ≡ bits_of w
    (zip2 (λ a b. int_wrap w (a *ℤ b)) xs ys)
multiplied w [] ys f g = refl
multiplied w (x ∷ xs) [] f g = refl
multiplied w (x ∷ xs) (y ∷ ys) f g = ap (λ z. z ∷ zip2 (act2 wrap_mul (s_int w) (s_int w) (s_int w)) (bits_of w xs)
    (bits_of w ys)) (mul_ints w x y f.0 g.0) ∙ ap (λ zs. of_z w (int_wrap w (x *ℤ y)) ∷ zs) (multiplied w xs ys f.1 g.1)

-- `simd_min` and `simd_max`
abbrev pub lesser : Width → List ℕ → List ℕ → List ℕ
lesser w xs ys = sel_l (map (top (hbits w)) (zip2 (act2 (mask (lt signed)) (s_int w) (s_int w) (s_int w)) xs ys)) xs ys

abbrev pub greater : Width → List ℕ → List ℕ → List ℕ
greater w xs ys = sel_l (map (top (hbits w)) (zip2 (act2 (mask (lt signed)) (s_int w) (s_int w) (s_int w)) xs ys)) ys xs

top_of : (w : Width) (t : Bool) → top (hbits w) (cond t (2 ^ bits w - 1) 0) ≡ t
top_of w8 true = refl
top_of w8 false = refl
top_of w16 true = refl
top_of w16 false = refl
top_of w32 true = refl
top_of w32 false = refl
top_of w64 true = refl
top_of w64 false = refl
top_of w128 true = refl
top_of w128 false = refl

abbrev pub least : ℤ → ℤ → ℤ
least a b = cond (lt_z a b) a b

abbrev pub most : ℤ → ℤ → ℤ
most a b = cond (lt_z a b) b a

pub less_is : (w : Width) (a b : ℤ) → SFits w a → SFits w b →
    top (hbits w) (act2 (mask (lt signed)) (s_int w) (s_int w) (s_int w) (of_z w a) (of_z w b)) ≡ lt_z a b
less_is w a b f g = ap (top (hbits w)) (less_lane w (of_z w a) (of_z w b)) ∙
    top_of w (lt_z (to_z w (of_z w a)) (to_z w (of_z w b))) ∙ ap (λ z. lt_z z (to_z w (of_z w b))) (to_z-of_z w a f) ∙
    ap (lt_z a) (to_z-of_z w b g)

cond_of : {A B : Type 0} (f : A → B) (t : Bool) (a b : A) → cond t (f a) (f b) ≡ f (cond t a b)
cond_of f true a b = refl
cond_of f false a b = refl

pub lesser_is : (w : Width) (xs ys : List ℤ) → Each1 (SFits w) xs → Each1 (SFits w) ys →
    lesser w (bits_of w xs) (bits_of w ys) ≡ bits_of w (zip2 least xs ys)
lesser_is w [] ys f g = refl
lesser_is w (x ∷ xs) [] f g = refl
lesser_is w (x ∷ xs) (y ∷ ys) f g =
    ap (λ t. cond t (of_z w x) (of_z w y) ∷ lesser w (bits_of w xs) (bits_of w ys)) (less_is w x y f.0 g.0)
    ∙ ap (λ z. z ∷ lesser w (bits_of w xs) (bits_of w ys)) (cond_of (of_z w) (lt_z x y) x y)
    ∙ ap (λ zs. of_z w (least x y) ∷ zs) (lesser_is w xs ys f.1 g.1)

pub greater_is : (w : Width) (xs ys : List ℤ) → Each1 (SFits w) xs → Each1 (SFits w) ys →
    greater w (bits_of w xs) (bits_of w ys) ≡ bits_of w (zip2 most xs ys)
greater_is w [] ys f g = refl
greater_is w (x ∷ xs) [] f g = refl
greater_is w (x ∷ xs) (y ∷ ys) f g =
    ap (λ t. cond t (of_z w y) (of_z w x) ∷ greater w (bits_of w xs) (bits_of w ys)) (less_is w x y f.0 g.0)
    ∙ ap (λ z. z ∷ greater w (bits_of w xs) (bits_of w ys)) (cond_of (of_z w) (lt_z x y) y x)
    ∙ ap (λ zs. of_z w (most x y) ∷ zs) (greater_is w xs ys f.1 g.1)

-- ... with a constant in each lane
pub least_are : (w : Width) (n : ℕ) (c : ℤ) (xs : List ℤ) → length xs ≡ n → Each1 (SFits w) xs → SFits w c →
    lesser w (bits_of w xs) (replicate n (of_z w c)) ≡ bits_of w (map (λ x. least x c) xs)
least_are w n c xs e f g =
    ap (lesser w (bits_of w xs)) (splat_bits w n c) ∙ lesser_is w xs (replicate n c) f
    (Each1-replicate (SFits w) n c g) ∙ ap (bits_of w) (zip2_splat least xs n c e)

pub most_are : (w : Width) (n : ℕ) (c : ℤ) (xs : List ℤ) → length xs ≡ n → Each1 (SFits w) xs → SFits w c →
    greater w (bits_of w xs) (replicate n (of_z w c)) ≡ bits_of w (map (λ x. most x c) xs)
most_are w n c xs e f g =
    ap (greater w (bits_of w xs)) (splat_bits w n c) ∙ greater_is w xs (replicate n c) f
    (Each1-replicate (SFits w) n c g) ∙ ap (bits_of w) (zip2_splat most xs n c e)

-- two clamps, as a saturation to h bits and a sign
clamped : (h : ℕ) (x : ℤ) → most (least x (pos (2 ^ h - 1))) (negsuc (2 ^ h - 1)) ≡ saturate_to_bits h x
clamped h (pos n) = grind (arith, ints)
clamped h (negsuc n) = grind (arith, ints)

pub saturated_fits : (w : Width) (x : ℤ) → SFits w (saturate_to_bits (hbits w) x)
saturated_fits w (pos n) = omega (arith, ints, pow_pos (hbits w))
saturated_fits w (negsuc n) = omega (arith, ints, pow_pos (hbits w))

length-map_of : (w : Width) (f : ℤ → ℤ) (xs : List ℤ) → length (map f xs) ≡ length xs
length-map_of w f [] = refl
length-map_of w f (x ∷ xs) = ap suc (length-map_of w f xs)

pub Each1-map : (P Q : ℤ → Type 0) (f : ℤ → ℤ) → ((x : ℤ) → P x → Q (f x)) → (xs : List ℤ) → Each1 P xs →
    Each1 Q (map f xs)
Each1-map P Q f h [] e = tt
Each1-map P Q f h (x ∷ xs) e = (h x e.0, Each1-map P Q f h xs e.1)

pub map-same : (P : ℤ → Type 0) (f g : ℤ → ℤ) → ((x : ℤ) → P x → f x ≡ g x) → (xs : List ℤ) → Each1 P xs →
    map f xs ≡ map g xs
map-same P f g h [] e = refl
map-same P f g h (x ∷ xs) e = ap (λ z. z ∷ map f xs) (h x e.0) ∙ ap (λ zs. g x ∷ zs) (map-same P f g h xs e.1)

pub least_fits : (w : Width) (c x : ℤ) → SFits w c → SFits w x → SFits w (least x c)
least_fits w c x f g = by (lt_z x c)
  where
    by : (t : Bool) → SFits w (cond t x c)
    by true = g
    by false = f

-- `simd_min` and `simd_max` with the ends of words of h bits and a sign, at lanes of width w
pub saturates_to : (w : Width) (h n : ℕ) (xs : List ℤ) → length xs ≡ n → Each1 (SFits w) xs →
    SFits w (pos (2 ^ h - 1)) → SFits w (negsuc (2 ^ h - 1))
    → greater w (lesser w (bits_of w xs) (replicate n (of_z w (pos (2 ^ h - 1)))))
    (replicate n (of_z w (negsuc (2 ^ h - 1)))) ≡ bits_of w (map (saturate_to_bits h) xs)
saturates_to w h n xs e f above below =
    let hi = pos (2 ^ h - 1) in
    let lo = negsuc (2 ^ h - 1) in
    let kept = map (λ x. least x hi) xs in
    ap (λ zs. greater w zs (replicate n (of_z w lo))) (least_are w n hi xs e f above)
    ∙ most_are w n lo kept (length-map_of w (λ x. least x hi) xs ∙ e)
    (Each1-map (SFits w) (SFits w) (λ x. least x hi) (λ x g. least_fits w hi x above g) xs f) below
    ∙ ap (bits_of w) (map-map (λ x. most x lo) (λ x. least x hi) xs ∙
    map-same (SFits w) (λ x. most (least x hi) lo) (saturate_to_bits h) (λ x g. clamped h x) xs f)

pub widens : (w w' : Width) → hbits w ≤ hbits w' → (x : ℤ) → SFits w x → SFits w' x
widens w w' h x f = let more : 2 ^ hbits w ≤ 2 ^ hbits w' = pow_mono h in omega (arith, ints, f)

-- ---- lists of lanes
pub zip2-same : (P : ℤ → Type 0) (f g : ℤ → ℤ → ℤ) → ((x y : ℤ) → P x → P y → f x y ≡ g x y) → (xs ys : List ℤ) →
    Each1 P xs → Each1 P ys → zip2 f xs ys ≡ zip2 g xs ys
zip2-same P f g h [] ys p q = refl
zip2-same P f g h (x ∷ xs) [] p q = refl
zip2-same P f g h (x ∷ xs) (y ∷ ys) p q = ap (λ z. z ∷ zip2 f xs ys) (h x y p.0 q.0) ∙
    ap (λ zs. g x y ∷ zs) (zip2-same P f g h xs ys p.1 q.1)

pub map-zip2 : (f : ℤ → ℤ) (g : ℤ → ℤ → ℤ) (xs ys : List ℤ) → map f (zip2 g xs ys) ≡ zip2 (λ x y. f (g x y)) xs ys
map-zip2 f g [] ys = refl
map-zip2 f g (x ∷ xs) [] = refl
map-zip2 f g (x ∷ xs) (y ∷ ys) = ap (λ zs. f (g x y) ∷ zs) (map-zip2 f g xs ys)

-- an operation with a number that was changed
pub zip2-right : (f : ℤ → ℤ → ℤ) (h : ℤ → ℤ) (ss xs : List ℤ) → zip2 f ss (map h xs) ≡ zip2 (λ s x. f s (h x)) ss xs
zip2-right f h [] xs = refl
zip2-right f h (s ∷ ss) [] = refl
zip2-right f h (s ∷ ss) (x ∷ xs) = ap (λ l. f s (h x) ∷ l) (zip2-right f h ss xs)

pub each_pair : (P Q : ℤ → Type 0) (f : ℤ → ℤ → ℤ) → ((x y : ℤ) → P x → P y → Q (f x y)) → (xs ys : List ℤ) →
    Each1 P xs → Each1 P ys → Each1 Q (zip2 f xs ys)
each_pair P Q f h [] ys p q = tt
each_pair P Q f h (x ∷ xs) [] p q = tt
each_pair P Q f h (x ∷ xs) (y ∷ ys) p q = (h x y p.0 q.0, each_pair P Q f h xs ys p.1 q.1)

pub each_widens : (w w' : Width) → hbits w ≤ hbits w' → (xs : List ℤ) → Each1 (SFits w) xs → Each1 (SFits w') xs
each_widens w w' h [] f = tt
each_widens w w' h (x ∷ xs) f = (widens w w' h x f.0, each_widens w w' h xs f.1)

-- `>>` by the same shift in each lane
pub shifted : (w : Width) (n s : ℕ) (xs : List ℤ) → length xs ≡ n → Each1 (SFits w) xs →
    zip2 (act2 (shr signed) (s_int w) (s_int w) (s_int w)) (bits_of w xs) (replicate n s) ≡ bits_of w
    (map (λ x. shr_z x (2 ^ s)) xs)
shifted w zero s [] e f = refl
shifted w zero s (x ∷ xs) e f = absurd (omega (arith, e))
shifted w (suc n) s [] e f = absurd (omega (arith, e))
shifted w (suc n) s (x ∷ xs) e f =
    ap (λ z. z ∷ zip2 (act2 (shr signed) (s_int w) (s_int w) (s_int w)) (bits_of w xs) (replicate n s))
    (shr_lane w (of_z w x) s ∙ ap (λ z. of_z w (shr_z z (2 ^ s))) (to_z-of_z w x f.0))
    ∙ ap (λ zs. of_z w (shr_z x (2 ^ s)) ∷ zs) (shifted w n s xs (omega arith) f.1)

-- `<<` by the same shift in each lane, where a number of the width has the bits of the power
pub shifted_up_by : (w : Width) (b : ℤ) (n s : ℕ) (xs : List ℤ) → length xs ≡ n → Each1 (SFits w) xs → SFits w b →
    of_z w b ≡ 2 ^ s
    → zip2 (act2 shl (s_int w) (s_int w) (s_int w)) (bits_of w xs) (replicate n s) ≡ bits_of w
    (map (λ x. int_wrap w (x *ℤ b)) xs)
shifted_up_by w b zero s [] e f power code = refl
shifted_up_by w b zero s (x ∷ xs) e f power code = absurd (omega (arith, e))
shifted_up_by w b (suc n) s [] e f power code = absurd (omega (arith, e))
shifted_up_by w b (suc n) s (x ∷ xs) e f power code =
    ap (λ z. z ∷ zip2 (act2 shl (s_int w) (s_int w) (s_int w)) (bits_of w xs) (replicate n s))
    (shl_lane w (of_z w x) s ∙ ap (λ m. (of_z w x * m) % 2 ^ bits w) (sym code) ∙
    sym (mul_lane w (of_z w x) (of_z w b)) ∙ mul_ints w x b f.0 power)
    ∙ ap (λ zs. of_z w (int_wrap w (x *ℤ b)) ∷ zs) (shifted_up_by w b n s xs (omega arith) f.1 power code)

pub shifted_up : (w : Width) (n s : ℕ) (xs : List ℤ) → length xs ≡ n → Each1 (SFits w) xs → SFits w (pos (2 ^ s)) →
    of_z w (pos (2 ^ s)) ≡ 2 ^ s
    → zip2 (act2 shl (s_int w) (s_int w) (s_int w)) (bits_of w xs) (replicate n s) ≡ bits_of w
    (map (λ x. int_wrap w (x *ℤ pos (2 ^ s))) xs)
shifted_up w n s xs e f power code = shifted_up_by w (pos (2 ^ s)) n s xs e f power code

-- ---- whole kernels
abbrev pub cast_lanes : Width → Width → List ℕ → List ℕ
cast_lanes w w' lanes = map (act1 (cast signed signed w') (s_int w) (s_int w')) lanes

abbrev pub widened : Width → Width → List ℤ → List ℕ
widened w w' xs = cast_lanes w w' (bits_of w xs)

-- lanes that are saturated and cast to the narrower width
abbrev pub narrowed : Width → Width → ℕ → List ℕ → List ℕ
narrowed w w' n zs = greater w (lesser w zs (replicate n (of_z w (pos (2 ^ hbits w' - 1)))))
    (replicate n (of_z w (negsuc (2 ^ hbits w' - 1))))

pub narrow_asked : (w w' : Width) → hbits w' ≤ hbits w → (n : ℕ) (xs : List ℤ) → length xs ≡ n → Each1 (SFits w) xs →
    Each1 (Asks1 (cast signed signed w') (s_int w)) (narrowed w w' n (bits_of w xs))
narrow_asked w w' h n xs e f =
    let hi = pos (2 ^ hbits w' - 1) in
    let lo = negsuc (2 ^ hbits w' - 1) in
    let above : SFits w hi = widens w' w h hi (omega (arith, ints, pow_pos (hbits w'))) in
    let below : SFits w lo = widens w' w h lo (omega (arith, ints, pow_pos (hbits w'))) in
    let kept = Each1-map (SFits w) (SFits w') (saturate_to_bits (hbits w')) (λ x g. saturated_fits w' x) xs f in
    let P : List ℕ → Type 0 = λ zs. Each1 (Asks1 (cast signed signed w') (s_int w)) zs in
    subst P (sym (saturates_to w (hbits w') n xs e f above below))
    (casts_asked w w' (map (saturate_to_bits (hbits w')) xs)
    (each_widens w' w h (map (saturate_to_bits (hbits w')) xs) kept) kept)

pub narrow_is : (w w' : Width) → hbits w' ≤ hbits w → (n : ℕ) (xs : List ℤ) → length xs ≡ n → Each1 (SFits w) xs
    → map (to_z w') (map (act1 (cast signed signed w') (s_int w) (s_int w')) (narrowed w w' n (bits_of w xs))) ≡ map
    (saturate_to_bits (hbits w')) xs
narrow_is w w' h n xs e f =
    let hi = pos (2 ^ hbits w' - 1) in
    let lo = negsuc (2 ^ hbits w' - 1) in
    let above : SFits w hi = widens w' w h hi (omega (arith, ints, pow_pos (hbits w'))) in
    let below : SFits w lo = widens w' w h lo (omega (arith, ints, pow_pos (hbits w'))) in
    let kept = Each1-map (SFits w) (SFits w') (saturate_to_bits (hbits w')) (λ x g. saturated_fits w' x) xs f in
    ap (λ zs. map (to_z w') (map (act1 (cast signed signed w') (s_int w) (s_int w')) zs))
    (saturates_to w (hbits w') n xs e f above below)
    ∙ ap (map (to_z w')) (casts_are w w' (map (saturate_to_bits (hbits w')) xs)
    (each_widens w' w h (map (saturate_to_bits (hbits w')) xs) kept))
    ∙ ints_of_bits w' (map (saturate_to_bits (hbits w')) xs) kept

-- the samples of a group, from those of the slice
pub group_fits : (w : Width) (i n : ℕ) (xs : List ℤ) → All (SFits w) xs → i + n ≤ length xs →
    Each1 (SFits w) (chunk i n xs)
group_fits w i n xs f room = Each1-from_get_or (SFits w) (chunk i n xs) (pos 0) (λ k lt.
    let long = length-chunk i n xs room in
    rw (get_or-chunk i n xs k (pos 0) (omega arith)) (f (i + k) (pos 0) (omega arith)))

-- a `cast` to wider lanes, of a group and of one number in each lane
pub group_asked : (w w' : Width) → hbits w ≤ hbits w' → (i n : ℕ) (xs : List ℤ) → All (SFits w) xs → i + n ≤ length xs →
    Each1 (Asks1 (cast signed signed w') (s_int w)) (bits_of w (chunk i n xs))
group_asked w w' h i n xs f room =
    let fit = group_fits w i n xs f room in
    casts_asked w w' (chunk i n xs) fit (each_widens w w' h (chunk i n xs) fit)

pub splat_asked : (w w' : Width) → hbits w ≤ hbits w' → (n : ℕ) (t : ℤ) → SFits w t →
    Each1 (Asks1 (cast signed signed w') (s_int w)) (replicate n (of_z w t))
splat_asked w w' h n t f =
    Each1-replicate (Asks1 (cast signed signed w') (s_int w)) n (of_z w t) (rw (to_z-of_z w t f) (widens w w' h t f))

pub shift_fits : (w : Width) (s : ℕ) (x : ℤ) → SFits w x → SFits w (shr_z x (2 ^ s))
shift_fits w s x f = let less = mag_shr x (2 ^ s) in record { sfits = lt_of_le_of_lt less f.sfits }

pub each_shift_fits : (w : Width) (s : ℕ) (xs : List ℤ) → Each1 (SFits w) xs →
    Each1 (SFits w) (map (λ x. shr_z x (2 ^ s)) xs)
each_shift_fits w s xs f = Each1-map (SFits w) (SFits w) (λ x. shr_z x (2 ^ s)) (shift_fits w s) xs f

pub length-map : (f : ℤ → ℤ) (xs : List ℤ) → length (map f xs) ≡ length xs
length-map f [] = refl
length-map f (x ∷ xs) = ap suc (length-map f xs)
