-- Numbers in lanes that are shifted, brought into a narrower word and stored.
use Rattle.std.proofs.Common.{ℕ, ◌≡◌, ◌<◌, ◌≤◌, ◌+◌, ◌-◌, ◌*◌, ◌/◌, ◌^◌, zero, suc, List, [], ◌∷◌, length, map}
use Rattle.std.proofs.Common.{replicate, refl, sym, ap, subst, ◌∙◌, arith, w32, w64}
use Rattle.std.proofs.lemmas.Int.{ints, int_wrap_fits, SFits-int_wrap}
use Rattle.std.proofs.lemmas.Simd.{length-chunk, length-zip2, zip2_splat, map-map, Each1-replicate, length-replicate}
use Rattle.std.proofs.lemmas.List.{map-id}
use Rattle.std.specs.Prelude.{ℤ, pos, negsuc, ◌+ℤ◌, ◌-ℤ◌, ◌*ℤ◌, neg_ℤ}
use Rattle.std.specs.Int.{int_wrap, saturate_to_bits}
use Rattle.std.specs.List.{All}
use native.Mathlib.Nat.{mul-div_cancel, div-eq_of_lt-le}
use lib.Lanes.{zip2, chunk, put_chunk, Each1}
use lib.Signed.{shr_z}
use mir.Syntax.{Width, cast, signed, shr, shl}
use mir.Val.{SFits, to_z, of_z, hbits}
use borrow.Table.Row.{s_int}
use borrow.Rule.Simd.Lanes.{Asks1, act2}
use Rattle.dsp_lanes.proofs.WordLemmas.{left, wrap_bits-is, wrap_bits-congruent}
use Rattle.dsp_lanes.proofs.LaneOps.{splat_bits, bits_of, cast_lanes, widened, group_fits, narrowed, narrow_asked}
use Rattle.dsp_lanes.proofs.LaneOps.{narrow_is, shifted, shifted_up, each_shift_fits, Each1-map, map-same, map-zip2}
use Rattle.dsp_lanes.proofs.LaneOps.{length-map}
use Rattle.dsp_lanes.proofs.LaneSums.{times_in, products_in}

abbrev pub down_in : Width → ℕ → ℕ → ℕ
down_in v = act2 (shr signed) (s_int v) (s_int v) (s_int v)

abbrev pub up_in : Width → ℕ → ℕ → ℕ
up_in v = act2 shl (s_int v) (s_int v) (s_int v)

abbrev pub Castable : Width → Width → List ℕ → Type 0
Castable v w lanes = Each1 (Asks1 (cast signed signed w) (s_int v)) lanes

-- a group that is stored, in numbers
pub stored : (at : ℕ) (out vs ws : List ℤ) → vs ≡ ws →
    map (λ x. x) (put_chunk at out vs) ≡ put_chunk at (map (λ x. x) out) ws
stored at out vs ws e = map-id (put_chunk at out vs) ∙ (λ i. put_chunk at (sym (map-id out) i) (e i))

-- a shift down, a saturation and a cast
pub shift_saturates : (v w : Width) → hbits w ≤ hbits v → (n s : ℕ) (lanes : List ℕ) (xs : List ℤ) →
    lanes ≡ bits_of v xs → length xs ≡ n → Each1 (SFits v) xs
    → Castable v w (narrowed v w n (zip2 (down_in v) lanes (replicate n s)))
    × (map (to_z w) (cast_lanes v w (narrowed v w n (zip2 (down_in v) lanes (replicate n s)))) ≡ map
    (λ x. saturate_to_bits (hbits w) (shr_z x (2 ^ s))) xs)
shift_saturates v w narrow n s lanes xs e long f =
    let moved = map (λ x. shr_z x (2 ^ s)) xs in
    let is : zip2 (down_in v) lanes (replicate n s) ≡ bits_of v moved =
    ap (λ l. zip2 (down_in v) l (replicate n s)) e ∙ shifted v n s xs long f in
    let long' : length moved ≡ n = length-map (λ x. shr_z x (2 ^ s)) xs ∙ long in
    let fit = each_shift_fits v s xs f in (
      subst (λ (l : List ℕ). Castable v w (narrowed v w n l)) (sym is) (narrow_asked v w narrow n moved long' fit),
      ap (λ l. map (to_z w) (cast_lanes v w (narrowed v w n l))) is ∙ narrow_is v w narrow n moved long' fit ∙
          map-map (saturate_to_bits (hbits w)) (λ x. shr_z x (2 ^ s)) xs,
    )

module _ (w v : Width) (wide : hbits w ≤ hbits v) (room : 2 ^ hbits w * 2 ^ hbits w < 2 ^ hbits v) where
  abbrev pub product_lanes : ℕ → ℕ → List ℤ → List ℤ → List ℕ
  product_lanes n s xs ys = narrowed v w n (zip2 (down_in v) (zip2 (times_in v) (widened w v xs) (widened w v ys))
      (replicate n s))

  -- the products of two groups, shifted and saturated
  products_close : (n s : ℕ) (xs ys : List ℤ) → length xs ≡ n → length ys ≡ n → Each1 (SFits w) xs →
      Each1 (SFits w) ys
      → Castable v w (product_lanes n s xs ys)
      × (map (to_z w) (cast_lanes v w (product_lanes n s xs ys)) ≡ zip2
      (λ x y. saturate_to_bits (hbits w) (shr_z (x *ℤ y) (2 ^ s))) xs ys)
  products_close n s xs ys long_x long_y f g =
      let made = products_in w v wide room xs ys f g in
      let long : length (zip2 (λ x y. x *ℤ y) xs ys) ≡ n = length-zip2 (λ x y. x *ℤ y) xs ys (omega arith) ∙ long_x in
      let closed = shift_saturates v w wide n s (zip2 (times_in v) (widened w v xs) (widened w v ys))
      (zip2 (λ x y. x *ℤ y) xs ys) made.0 long made.1 in
      (closed.0, closed.1 ∙ map-zip2 (λ z. saturate_to_bits (hbits w) (shr_z z (2 ^ s))) (λ x y. x *ℤ y) xs ys)

  -- `mult` of two groups
  pub mult_closes : (at n s : ℕ) (a b : List ℤ) → All (SFits w) a → All (SFits w) b → at + n ≤ length a →
      at + n ≤ length b
      → Castable v w (product_lanes n s (chunk at n a) (chunk at n b))
      × (map (to_z w) (cast_lanes v w (product_lanes n s (chunk at n a) (chunk at n b)))
      ≡ zip2 (λ x y. saturate_to_bits (hbits w) (shr_z (x *ℤ y) (2 ^ s))) (chunk at n (map (λ x. x) a))
      (chunk at n (map (λ x. x) b)))
  mult_closes at n s a b f g room_a room_b =
      let xs = chunk at n a in
      let ys = chunk at n b in
      let closed = products_close n s xs ys (length-chunk at n a room_a) (length-chunk at n b room_b)
      (group_fits w at n a f room_a) (group_fits w at n b g room_b) in (
        closed.0,
        closed.1 ∙ (λ i. zip2 (λ x y. saturate_to_bits (hbits w) (shr_z (x *ℤ y) (2 ^ s)))
            (chunk at n (sym (map-id a) i)) (chunk at n (sym (map-id b) i))),
      )

  abbrev scaled_lanes : ℕ → ℕ → List ℤ → ℤ → List ℕ
  scaled_lanes n s xs t = narrowed v w n (zip2 (down_in v)
      (zip2 (times_in v) (widened w v xs) (cast_lanes w v (replicate n (of_z w t)))) (replicate n s))

  -- `scale` of a group
  pub scale_closes : (at n s places : ℕ) (a : List ℤ) (t : ℤ) → s ≡ places → All (SFits w) a → SFits w t →
      at + n ≤ length a
      → Castable v w (scaled_lanes n s (chunk at n a) t)
      × (map (to_z w) (cast_lanes v w (scaled_lanes n s (chunk at n a) t)) ≡ map
      (λ x. saturate_to_bits (hbits w) (shr_z (x *ℤ t) (2 ^ places))) (chunk at n (map (λ x. x) a)))
  scale_closes at n s places a t same f g room_a =
      let xs = chunk at n a in
      let ts = replicate n t in
      let long : length xs ≡ n = length-chunk at n a room_a in
      let code : ℤ → ℤ → ℤ = λ x y. saturate_to_bits (hbits w) (shr_z (x *ℤ y) (2 ^ s)) in
      let splat : scaled_lanes n s xs t ≡ product_lanes n s xs ts =
      ap (λ l. narrowed v w n (zip2 (down_in v) (zip2 (times_in v) (widened w v xs) (cast_lanes w v l))
      (replicate n s))) (splat_bits w n t) in
      let closed = products_close n s xs ts long (length-replicate n t) (group_fits w at n a f room_a)
      (Each1-replicate (SFits w) n t g) in (
        subst (λ (l : List ℕ). Castable v w l) (sym splat) closed.0,
        ap (λ l. map (to_z w) (cast_lanes v w l)) splat
            ∙ closed.1
            ∙ zip2_splat code xs n t long
            ∙ (λ i. map (λ x. saturate_to_bits (hbits w) (shr_z (x *ℤ t) (2 ^ same i)))
            (chunk at n (sym (map-id a) i))),
      )

-- ---- the low 32 bits of 64

down_exact : (r : ℤ) (m : ℕ) → 0 < m → shr_z (r *ℤ pos m) m ≡ r
down_exact r zero some = absurd (omega arith)
down_exact (pos a) (suc k) some = ap pos (mul-div_cancel a some)
down_exact (negsuc a) (suc k) some =
    let whole : suc a * suc k ≡ suc (a * suc k + k) = omega arith in
    let part : (a * suc k + k) / suc k ≡ a = div-eq_of_lt-le (suc k) (omega arith) (omega arith) in
    ap (λ n. shr_z (neg_ℤ (pos n)) (suc k)) whole ∙ ap negsuc part

low_is : (y x : ℤ) (j k : ℕ) → y +ℤ pos (j * 2 ^ 64) ≡ (x *ℤ pos (2 ^ 32)) +ℤ pos (k * 2 ^ 64) →
    y ≡ ((x +ℤ pos (k * 2 ^ 32)) -ℤ pos (j * 2 ^ 32)) *ℤ pos (2 ^ 32)
low_is y x j k e = omega (arith, ints)

low_fits : (r : ℤ) → SFits w64 (r *ℤ pos (2 ^ 32)) → SFits w32 r
low_fits (pos a) f = let h = f.sfits in omega (arith, ints, h)
low_fits (negsuc a) f =
    let whole : suc a * 2 ^ 32 ≡ suc (a * 2 ^ 32 + (2 ^ 32 - 1)) = omega arith in
    let g : SFits w64 (neg_ℤ (pos (suc (a * 2 ^ 32 + (2 ^ 32 - 1))))) =
    subst (λ (n : ℕ). SFits w64 (neg_ℤ (pos n))) whole f in
    let h = g.sfits in
    omega (arith, ints, h)

pub low_word : (x : ℤ) → shr_z (int_wrap w64 (x *ℤ pos (2 ^ 32))) (2 ^ 32) ≡ int_wrap w32 x
low_word x =
    let l = left 64 (x *ℤ pos (2 ^ 32)) in
    let y = int_wrap w64 (x *ℤ pos (2 ^ 32)) in
    let far : y +ℤ pos (l.0 * 2 ^ 64) ≡ (x *ℤ pos (2 ^ 32)) +ℤ pos (l.1 * 2 ^ 64) =
    ap (λ z. z +ℤ pos (l.0 * 2 ^ 64)) (sym (wrap_bits-is w64 (x *ℤ pos (2 ^ 32)))) ∙ l.2 in
    let r = (x +ℤ pos (l.1 * 2 ^ 32)) -ℤ pos (l.0 * 2 ^ 32) in
    let is : y ≡ r *ℤ pos (2 ^ 32) = low_is y x l.0 l.1 far in
    let near : SFits w64 (r *ℤ pos (2 ^ 32)) = subst (λ (z : ℤ). SFits w64 z) is
    (SFits-int_wrap w64 (x *ℤ pos (2 ^ 32))) in
    let fits : SFits w32 r = low_fits r near in
    ap (λ z. shr_z z (2 ^ 32)) is
    ∙ down_exact r (2 ^ 32) (omega arith)
    ∙ sym (int_wrap_fits w32 r fits)
    ∙ sym (wrap_bits-is w32 r)
    ∙ wrap_bits-congruent 32 r x l.0 l.1 (moved x l.0 l.1)
    ∙ wrap_bits-is w32 x
  where
    moved : (x : ℤ) (j k : ℕ) → ((x +ℤ pos (k * 2 ^ 32)) -ℤ pos (j * 2 ^ 32)) +ℤ pos (j * 2 ^ 32) ≡ x +ℤ pos
        (k * 2 ^ 32)
    moved x j k = omega (arith, ints)

-- a wrap to 64 bits does not show in the low 32
pub wrap-narrow : (x : ℤ) → int_wrap w32 (int_wrap w64 x) ≡ int_wrap w32 x
wrap-narrow x =
    let l = left 64 x in
    let far : int_wrap w64 x +ℤ pos (l.0 * 2 ^ 64) ≡ x +ℤ pos (l.1 * 2 ^ 64) =
    ap (λ z. z +ℤ pos (l.0 * 2 ^ 64)) (sym (wrap_bits-is w64 x)) ∙ l.2 in
    sym (wrap_bits-is w32 (int_wrap w64 x)) ∙ wrap_bits-congruent 32 (int_wrap w64 x) x (l.0 * 2 ^ 32) (l.1 * 2 ^ 32)
    (finer (int_wrap w64 x) x l.0 l.1 far) ∙ wrap_bits-is w32 x
  where
    finer : (y x : ℤ) (j k : ℕ) → y +ℤ pos (j * 2 ^ 64) ≡ x +ℤ pos (k * 2 ^ 64) →
        y +ℤ pos (j * 2 ^ 32 * 2 ^ 32) ≡ x +ℤ pos (k * 2 ^ 32 * 2 ^ 32)
    finer y x j k e = omega (arith, ints)

abbrev pub low_lanes : ℕ → List ℕ → List ℕ
low_lanes n lanes = zip2 (down_in w64) (zip2 (up_in w64) lanes (replicate n 32)) (replicate n 32)

pub low_lanes_are : (n : ℕ) (lanes : List ℕ) (xs : List ℤ) → lanes ≡ bits_of w64 xs → length xs ≡ n →
    Each1 (SFits w64) xs → low_lanes n lanes ≡ bits_of w64 (map (int_wrap w32) xs)
low_lanes_are n lanes xs e long f =
    let up : ℤ → ℤ = λ x. int_wrap w64 (x *ℤ pos (2 ^ 32)) in
    let fit : Each1 (SFits w64) (map up xs) = Each1-map (SFits w64) (SFits w64) up
    (λ x h. SFits-int_wrap w64 (x *ℤ pos (2 ^ 32))) xs f in
    ap (low_lanes n) e
    ∙ ap (λ l. zip2 (down_in w64) l (replicate n 32)) (shifted_up w64 n 32 xs long f (omega (arith, ints)) refl)
    ∙ shifted w64 n 32 (map up xs) (length-map up xs ∙ long) fit
    ∙ ap (bits_of w64) (map-map (λ x. shr_z x (2 ^ 32)) up xs ∙
    map-same (SFits w64) (λ x. shr_z (up x) (2 ^ 32)) (int_wrap w32) (λ x h. low_word x) xs f)

pub words_fit : (xs : List ℤ) → Each1 (SFits w32) (map (int_wrap w32) xs)
words_fit [] = tt
words_fit (x ∷ xs) = (SFits-int_wrap w32 x, words_fit xs)
