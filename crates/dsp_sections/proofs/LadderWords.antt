-- The values of four sections of a lattice with feedback in Q31, in lanes of 32 bits.
use Rattle.std.proofs.Common.{ℕ, zero, ◌≡◌, ◌%◌, ◌-◌, ◌*◌, ◌^◌, Bool, true, false, cond, List, [], ◌∷◌, ◌++◌}
use Rattle.std.proofs.Common.{suc, length, map, take, drop, get_or, replicate, refl, sym, ap, ap₂, subst, ◌∙◌, arith, w32, w64}
use Rattle.std.proofs.lemmas.Int.{ints, int_wrap_fits, SFits-int_wrap, int_wrap-add_left}
use Rattle.std.proofs.lemmas.Int.{int_wrap-add_right, int_wrap-sub_right, by_lt_z}
use Rattle.std.proofs.lemmas.Simd.{length-zip2, map-map, Each1-get_or}
use Rattle.std.specs.Prelude.{ℤ, pos, negsuc, ◌+ℤ◌, ◌-ℤ◌, ◌*ℤ◌, ◌≤ℤ◌}
use Rattle.std.specs.Int.Signed.{◌<ℤ◌, lt_z_yes}
use Rattle.std.specs.Int.{int_wrap}
use lib.Lanes.{zip2, pick_l, sel_l, mask_l, top, Each1}
use lib.Dec.{T}
use lib.Signed.{shr_z, lt_z}
use mir.Syntax.{mask, lt, ne, signed}
use mir.Val.{SFits, to_z, of_z, hbits}
use borrow.Table.Row.{s_int}
use borrow.Rule.Simd.Lanes.{act2}
use Rattle.dsp_defs.specs.Lattice.{reflected}
use Rattle.dsp_defs.specs.Numbers.{saturate}
use Rattle.dsp_defs.specs.Signal.{sample}
use Rattle.dsp_defs.specs.declared.format.Fmt.TheVariants.{Q31}
use Rattle.dsp_lanes.proofs.WordLemmas.{left, wrap_bits-is}
use Rattle.dsp_lanes.proofs.LaneOps.{bits_of, cast_lanes, widened, added, subtracted, shifted, shifted_up, less_is}
use Rattle.dsp_lanes.proofs.LaneOps.{Each1-map, map-zip2, length-map}
use Rattle.dsp_lanes.proofs.LaneSums.{times_in, products_in}
use Rattle.dsp_lanes.proofs.LaneClosings.{Castable, down_in, up_in}
use Rattle.dsp_lanes.proofs.HighProducts.{casts_down}
use Rattle.dsp_lanes.proofs.HalfSums.{by_four}
use Rattle.dsp_lanes.proofs.Fractions.{less_in}
use Rattle.dsp_lanes.proofs.WordViews.{high_fits}
use Rattle.dsp_sections.specs.Ladders.{lowered_values}
use Rattle.dsp_sections.proofs.FloorShifts.{upper_word}
use Rattle.dsp_sections.proofs.SectionHalves.{word_between}
use Rattle.dsp_sections.proofs.LadderLanes.{AreIn, are_same, moved_sums}

-- ---- products as fractions

abbrev fraction31 : ℤ → ℤ → ℤ
fraction31 k x = int_wrap w32 (shr_z (k *ℤ x) (2 ^ 31))

abbrev fraction_lanes : List ℤ → List ℤ → List ℕ
fraction_lanes ks xs = zip2 (down_in w64) (zip2 (up_in w64) (zip2 (times_in w64) (widened w32 w64 ks)
    (widened w32 w64 xs)) (replicate 4 1)) (replicate 4 32)

-- the upper word of twice a product
upper_is : (p : ℤ) → shr_z (int_wrap w64 (p *ℤ pos (2 ^ 1))) (2 ^ 32) ≡ int_wrap w32 (shr_z p (2 ^ 31))
upper_is p =
    let twice = int_wrap w64 (p *ℤ pos (2 ^ 1)) in
    sym (int_wrap_fits w32 (shr_z twice (2 ^ 32)) (high_fits twice (SFits-int_wrap w64 (p *ℤ pos (2 ^ 1)))))
    ∙ upper_word p 2 (2 ^ 31) (omega arith) (omega arith) refl

pub fractions_are : (ks xs : List ℤ) → AreIn w32 4 ks → AreIn w32 4 xs
    → Castable w64 w32 (fraction_lanes ks xs)
    × (map (to_z w32) (cast_lanes w64 w32 (fraction_lanes ks xs)) ≡ zip2 (reflected Q31) ks xs)
    × AreIn w32 4 (map (to_z w32) (cast_lanes w64 w32 (fraction_lanes ks xs)))
fractions_are ks xs f g =
    let ps = zip2 (λ k x. k *ℤ x) ks xs in
    let made = products_in w32 w64 (omega arith) (omega arith) ks xs f.0 g.0 in
    let long : length ps ≡ 4 = length-zip2 (λ k x. k *ℤ x) ks xs (f.1 ∙ sym g.1) ∙ f.1 in
    let up : ℤ → ℤ = λ p. int_wrap w64 (p *ℤ pos (2 ^ 1)) in
    let down : ℤ → ℤ = λ z. shr_z z (2 ^ 32) in
    let ups_fit : Each1 (SFits w64) (map up ps) =
    Each1-map (SFits w64) (SFits w64) up (λ p h. SFits-int_wrap w64 (p *ℤ pos (2 ^ 1))) ps made.1 in
    let is : fraction_lanes ks xs ≡ bits_of w64 (map down (map up ps)) =
    ap (λ l. zip2 (down_in w64) (zip2 (up_in w64) l (replicate 4 1)) (replicate 4 32)) made.0
    ∙ ap (λ l. zip2 (down_in w64) l (replicate 4 32))
    (shifted_up w64 4 1 ps long made.1 (omega (arith, ints)) refl)
    ∙ shifted w64 4 32 (map up ps) (length-map up ps ∙ long) ups_fit in
    let words : map down (map up ps) ≡ zip2 fraction31 ks xs =
    map-map down up ps ∙ (λ i. map (λ p. upper_is p i) ps)
    ∙ map-zip2 (λ p. int_wrap w32 (shr_z p (2 ^ 31))) (λ k x. k *ℤ x) ks xs in
    let fits = Each1-map (SFits w64) (SFits w32) down high_fits (map up ps) ups_fit in
    let cast = casts_down (fraction_lanes ks xs) (map down (map up ps)) is fits in
    let read = cast.1 ∙ words in (
      cast.0,
      read,
      (
        subst (λ (l : List ℤ). Each1 (SFits w32) l) (sym cast.1) fits,
        ap length read ∙ length-zip2 fraction31 ks xs (f.1 ∙ sym g.1) ∙ f.1,
      ),
    )

-- ---- the values of a group as if no step saturated

abbrev wrapped_values : ℤ → List ℤ → List ℤ
wrapped_values f [] = []
wrapped_values f (p ∷ ps) = let v = int_wrap w32 (f -ℤ p) in v ∷ wrapped_values v ps

abbrev pub guessed_four : List ℤ → List ℤ → List ℕ
guessed_four fs ps =
    zip2 (less_in w32) (pick_l 0 (bits_of w32 fs ++ bits_of w32 fs) (3 ∷ 3 ∷ 3 ∷ 3 ∷ []))
    (moved_sums w32 4 (moved_sums w32 4 (bits_of w32 ps) (0 ∷ 4 ∷ 5 ∷ 6 ∷ [])) (0 ∷ 1 ∷ 4 ∷ 5 ∷ []))

-- one number less another that is what is left of a sum
less_sum : (f t z s : ℤ) → t ≡ int_wrap w32 z → z ≡ s → int_wrap w32 (f -ℤ t) ≡ int_wrap w32 (f -ℤ s)
less_sum f t z s is same = ap (λ y. int_wrap w32 (f -ℤ y)) is ∙ int_wrap-sub_right w32 f z ∙
    ap (λ y. int_wrap w32 (f -ℤ y)) same

-- ... and less a number more
less_more : (f s p u : ℤ) → int_wrap w32 (f -ℤ s) ≡ u → int_wrap w32 (f -ℤ (s +ℤ p)) ≡ int_wrap w32 (u -ℤ p)
less_more f s p u is =
    ap (int_wrap w32) (parts f s p)
    ∙ sym (int_wrap-add_left w32 (f -ℤ s) (pos 0 -ℤ p))
    ∙ ap (λ z. int_wrap w32 (z +ℤ (pos 0 -ℤ p))) is
    ∙ ap (int_wrap w32) (less u p)
  where
    parts : (f s p : ℤ) → f -ℤ (s +ℤ p) ≡ (f -ℤ s) +ℤ (pos 0 -ℤ p)
    parts f s p = omega (arith, ints)

    less : (u p : ℤ) → u +ℤ (pos 0 -ℤ p) ≡ u -ℤ p
    less u p = omega (arith, ints)

module _ (f a b c d : ℤ) where
  abbrev sum : ℤ → ℤ → ℤ
  sum x y = int_wrap w32 (x +ℤ y)

  abbrev twos : List ℤ
  twos = sum a (pos 0) ∷ sum b a ∷ sum c b ∷ sum d c ∷ []

  abbrev fours : List ℤ
  fours = sum (sum a (pos 0)) (pos 0) ∷ sum (sum b a) (pos 0) ∷ sum (sum c b) (sum a (pos 0)) ∷
      sum (sum d c) (sum b a) ∷ []

  both : (x y z w : ℤ) → sum (sum x y) (sum z w) ≡ int_wrap w32 (x +ℤ y +ℤ (z +ℤ w))
  both x y z w = int_wrap-add_left w32 (x +ℤ y) (sum z w) ∙ int_wrap-add_right w32 (x +ℤ y) (z +ℤ w)

  differences : zip2 (λ x y. int_wrap w32 (x -ℤ y)) (f ∷ f ∷ f ∷ f ∷ []) fours ≡ wrapped_values f
      (a ∷ b ∷ c ∷ d ∷ [])
  differences =
      let v1 = less_more f a b (int_wrap w32 (f -ℤ a)) refl in
      let v2 = less_more f (a +ℤ b) c _ v1 in
      let v3 = less_more f (a +ℤ b +ℤ c) d _ v2 in
      let e0 = less_sum f _ (a +ℤ pos 0 +ℤ pos 0) a (int_wrap-add_left w32 (a +ℤ pos 0) (pos 0))
      (let e : a +ℤ pos 0 +ℤ pos 0 ≡ a = omega (arith, ints) in e) in
      let e1 = less_sum f _ (b +ℤ a +ℤ pos 0) (a +ℤ b) (int_wrap-add_left w32 (b +ℤ a) (pos 0))
      (let e : b +ℤ a +ℤ pos 0 ≡ a +ℤ b = omega (arith, ints) in e) ∙ v1 in
      let e2 = less_sum f _ (c +ℤ b +ℤ (a +ℤ pos 0)) (a +ℤ b +ℤ c) (both c b a (pos 0))
      (let e : c +ℤ b +ℤ (a +ℤ pos 0) ≡ a +ℤ b +ℤ c = omega (arith, ints) in e) ∙ v2 in
      let e3 = less_sum f _ (d +ℤ c +ℤ (b +ℤ a)) (a +ℤ b +ℤ c +ℤ d) (both d c b a)
      (let e : d +ℤ c +ℤ (b +ℤ a) ≡ a +ℤ b +ℤ c +ℤ d = omega (arith, ints) in e) ∙ v3 in
      λ i. e0 i ∷ e1 i ∷ e2 i ∷ e3 i ∷ []

  sum_fits : (x y : ℤ) → SFits w32 (sum x y)
  sum_fits x y = SFits-int_wrap w32 (x +ℤ y)

  four_are : (x y z : ℤ) → Each1 (SFits w32) (x ∷ y ∷ z ∷ f ∷ []) → Each1 (SFits w32) (a ∷ b ∷ c ∷ d ∷ [])
      → guessed_four (x ∷ y ∷ z ∷ f ∷ []) (a ∷ b ∷ c ∷ d ∷ []) ≡ bits_of w32 (wrapped_values f (a ∷ b ∷ c ∷ d ∷ []))
  four_are x y z g h =
      let none : SFits w32 (pos 0) = omega (arith, ints) in
      let last = g.1.1.1.0 in
      let once : moved_sums w32 4 (bits_of w32 (a ∷ b ∷ c ∷ d ∷ [])) (0 ∷ 4 ∷ 5 ∷ 6 ∷ []) ≡ bits_of w32 twos =
      added w32 (a ∷ b ∷ c ∷ d ∷ []) (pos 0 ∷ a ∷ b ∷ c ∷ []) h (none, (h.0, (h.1.0, (h.1.1.0, tt)))) in
      let again : moved_sums w32 4 (bits_of w32 twos) (0 ∷ 1 ∷ 4 ∷ 5 ∷ []) ≡ bits_of w32 fours =
      added w32 twos (pos 0 ∷ pos 0 ∷ sum a (pos 0) ∷ sum b a ∷ [])
      (sum_fits a (pos 0), (sum_fits b a, (sum_fits c b, (sum_fits d c, tt))))
      (none, (none, (sum_fits a (pos 0), (sum_fits b a, tt)))) in
      ap (λ l. zip2 (less_in w32) (bits_of w32 (f ∷ f ∷ f ∷ f ∷ [])) (moved_sums w32 4 l (0 ∷ 1 ∷ 4 ∷ 5 ∷ []))) once
      ∙ ap (zip2 (less_in w32) (bits_of w32 (f ∷ f ∷ f ∷ f ∷ []))) again
      ∙ subtracted w32 (f ∷ f ∷ f ∷ f ∷ []) fours (last, (last, (last, (last, tt)))) (
        sum_fits (sum a (pos 0)) (pos 0),
        (
          sum_fits (sum b a) (pos 0),
          (
            sum_fits (sum c b) (sum a (pos 0)),
            (sum_fits (sum d c) (sum b a), tt),
          ),
        ),
      )
      ∙ ap (bits_of w32) differences

wrapped_fit : (f : ℤ) (ps : List ℤ) → Each1 (SFits w32) (wrapped_values f ps)
wrapped_fit f [] = tt
wrapped_fit f (p ∷ ps) = (SFits-int_wrap w32 (f -ℤ p), wrapped_fit (int_wrap w32 (f -ℤ p)) ps)

wrapped_long : (f : ℤ) (ps : List ℤ) → length (wrapped_values f ps) ≡ length ps
wrapped_long f [] = refl
wrapped_long f (p ∷ ps) = ap suc (wrapped_long (int_wrap w32 (f -ℤ p)) ps)

pub guessed_are : (fs ps : List ℤ) → AreIn w32 4 fs → AreIn w32 4 ps
    → (guessed_four fs ps ≡ bits_of w32 (wrapped_values (sample fs 3) ps))
    × AreIn w32 4 (wrapped_values (sample fs 3) ps)
guessed_are fs ps g h = (
  by_four (λ fs. Each1 (SFits w32) fs → guessed_four fs ps ≡ bits_of w32 (wrapped_values (sample fs 3) ps))
      (λ x y z f g. by_four (λ ps. Each1 (SFits w32) ps → guessed_four (x ∷ y ∷ z ∷ f ∷ []) ps ≡ bits_of w32
      (wrapped_values f ps)) (λ a b c d h. four_are f a b c d x y z g h) ps h.1 h.0) fs g.1 g.0,
  (wrapped_fit (sample fs 3) ps, wrapped_long (sample fs 3) ps ∙ h.1),
)

-- ---- the test

abbrev flag : Bool → ℤ
flag t = cond t (negsuc 0) (pos 0)

abbrev flags : List Bool → List ℤ
flags ts = map flag ts

-- a comparison in lanes
abbrev compared : ℕ → List ℤ → List ℤ → List ℕ
compared n xs ys = sel_l (map (top (hbits w32)) (zip2 (act2 (mask (lt signed)) (s_int w32) (s_int w32) (s_int w32))
    (bits_of w32 xs) (bits_of w32 ys))) (replicate n 4294967295) (replicate n 0)

compared_are : (n : ℕ) (xs ys : List ℤ) → length xs ≡ n → length ys ≡ n → Each1 (SFits w32) xs → Each1 (SFits w32) ys →
    compared n xs ys ≡ bits_of w32 (flags (zip2 lt_z xs ys))
compared_are n [] ys long_x long_y f g = refl
compared_are n (x ∷ xs) [] long_x long_y f g = absurd (omega (arith, long_x, long_y))
compared_are zero (x ∷ xs) (y ∷ ys) long_x long_y f g = absurd (omega (arith, long_x))
compared_are (suc n) (x ∷ xs) (y ∷ ys) long_x long_y f g =
    ap₂ (λ v l. v ∷ l) (ap (λ t. cond t 4294967295 0) (less_is w32 x y f.0 g.0) ∙ bits (lt_z x y))
    (compared_are n xs ys (omega arith) (omega arith) f.1 g.1)
  where
    bits : (t : Bool) → cond t 4294967295 0 ≡ of_z w32 (flag t)
    bits true = refl
    bits false = refl

flags_in : (n : ℕ) (ts : List Bool) → length ts ≡ n → AreIn w32 n (flags ts)
flags_in n ts long = (fit ts, size ts ∙ long)
  where
    one : (t : Bool) → SFits w32 (flag t)
    one true = omega (arith, ints)
    one false = omega (arith, ints)

    fit : (ts : List Bool) → Each1 (SFits w32) (flags ts)
    fit [] = tt
    fit (t ∷ ts) = (one t, fit ts)

    size : (ts : List Bool) → length (flags ts) ≡ length ts
    size [] = refl
    size (t ∷ ts) = ap suc (size ts)

flags_back : (ts : List Bool) → map (λ z. lt_z z (pos 0)) (flags ts) ≡ ts
flags_back [] = refl
flags_back (t ∷ ts) = ap₂ (λ v l. v ∷ l) (one t) (flags_back ts)
  where
    one : (t : Bool) → lt_z (flag t) (pos 0) ≡ t
    one true = refl
    one false = refl

-- comparisons that come out the same
pub compared_same : (xs ys zs ws : List ℤ) → AreIn w32 4 xs → AreIn w32 4 ys → AreIn w32 4 zs → AreIn w32 4 ws
    → mask_l (map (top (hbits w32)) (zip2 (act2 (mask ne) (s_int w32) (s_int w32) (s_int w32)) (compared 4 xs ys)
    (compared 4 zs ws))) % 2 ^ 64 ≡ 0
    → zip2 lt_z xs ys ≡ zip2 lt_z zs ws
compared_same xs ys zs ws f g h k none =
    let first = zip2 lt_z xs ys in
    let second = zip2 lt_z zs ws in
    let first_long : length first ≡ 4 = length-zip2 lt_z xs ys (f.1 ∙ sym g.1) ∙ f.1 in
    let second_long : length second ≡ 4 = length-zip2 lt_z zs ws (h.1 ∙ sym k.1) ∙ h.1 in
    let differ : List ℕ → List ℕ → ℕ = λ a b. mask_l (map (top (hbits w32))
    (zip2 (act2 (mask ne) (s_int w32) (s_int w32) (s_int w32)) a b)) % 2 ^ 64 in
    let same : flags first ≡ flags second =
    are_same w32 4 (flags first) (flags second) (omega arith) (flags_in 4 first first_long)
    (flags_in 4 second second_long) (sym (λ i. differ (compared_are 4 xs ys f.1 g.1 f.0 g.0 i)
    (compared_are 4 zs ws h.1 k.1 h.0 k.0 i)) ∙ none) in
    sym (flags_back first) ∙ ap (map (λ z. lt_z z (pos 0))) same ∙ flags_back second

word_range : (z : ℤ) → SFits w32 z → (negsuc (2 ^ 31 - 1) ≤ℤ z) × (z ≤ℤ pos (2 ^ 31 - 1))
word_range (pos n) f = let h = f.sfits in (omega (arith, ints), omega (arith, ints, h))
word_range (negsuc n) f = let h = f.sfits in (omega (arith, ints, h), omega (arith, ints))

module _ (f p v : ℤ) (j k : ℕ) (fit_f : SFits w32 f) (fit_p : SFits w32 p) (fit_v : SFits w32 v)
    (far : v +ℤ pos (j * 2 ^ 32) ≡ (f -ℤ p) +ℤ pos (k * 2 ^ 32)) where
  less_stays : pos 0 <ℤ p → v <ℤ f → SFits w32 (f -ℤ p)
  less_stays some below =
      let f_in = word_range f fit_f in
      let p_in = word_range p fit_p in
      let v_in = word_range v fit_v in
      word_between (f -ℤ p) (omega (arith, ints, far, some, below, f_in, p_in, v_in)) (omega (arith, ints, some, f_in))

  more_stays : p ≤ℤ pos 0 → f ≤ℤ v → SFits w32 (f -ℤ p)
  more_stays none above =
      let f_in = word_range f fit_f in
      let p_in = word_range p fit_p in
      let v_in = word_range v fit_v in
      word_between (f -ℤ p) (omega (arith, ints, none, f_in)) (omega (arith, ints, far, none, above, f_in, p_in, v_in))

saturate_fits : (z : ℤ) → SFits w32 z → saturate 32 z ≡ z
saturate_fits (pos n) f = grind (arith, ints)
saturate_fits (negsuc n) f = grind (arith, ints)

-- a subtraction that makes a number less just where it takes off more than 0 does not leave 32 bits
step_is : (f p : ℤ) → SFits w32 f → SFits w32 p → lt_z (int_wrap w32 (f -ℤ p)) f ≡ lt_z (pos 0) p →
    int_wrap w32 (f -ℤ p) ≡ saturate 32 (f -ℤ p)
step_is f p g h same =
    let v = int_wrap w32 (f -ℤ p) in
    let fit_v = SFits-int_wrap w32 (f -ℤ p) in
    let l = left 32 (f -ℤ p) in
    let far : v +ℤ pos (l.0 * 2 ^ 32) ≡ (f -ℤ p) +ℤ pos (l.1 * 2 ^ 32) =
    ap (λ z. z +ℤ pos (l.0 * 2 ^ 32)) (sym (wrap_bits-is w32 (f -ℤ p))) ∙ l.2 in
    let fits : SFits w32 (f -ℤ p) = by_lt_z (pos 0) p
    (λ some. less_stays f p v l.0 l.1 g h fit_v far some (lt_z_yes (subst T (sym same) some.lt)))
    (λ none. by_lt_z v f
    (λ below. absurd (omega (arith, ints, none, lt_z_yes {a = pos 0} {b = p} (subst T same below.lt))))
    (λ above. more_stays f p v l.0 l.1 g h fit_v far none above)) in
    int_wrap_fits w32 (f -ℤ p) fits ∙ sym (saturate_fits (f -ℤ p) fits)

-- whether each value is below the one before it
abbrev falls : ℤ → List ℤ → List Bool
falls f [] = []
falls f (v ∷ vs) = lt_z v f ∷ falls v vs

falls_are : (n : ℕ) (f : ℤ) (vs : List ℤ) → length vs ≡ suc n → zip2 lt_z vs (f ∷ take n vs) ≡ falls f vs
falls_are n f [] long = refl
falls_are zero f (v ∷ []) long = refl
falls_are zero f (v ∷ u ∷ vs) long = absurd (omega (arith, long))
falls_are (suc n) f (v ∷ vs) long = ap (λ l. lt_z v f ∷ l) (falls_are n v vs (omega (arith, long)))

fallen_right : (f : ℤ) (ps : List ℤ) → SFits w32 f → Each1 (SFits w32) ps →
    falls f (wrapped_values f ps) ≡ map (lt_z (pos 0)) ps → wrapped_values f ps ≡ lowered_values 32 f ps
fallen_right f [] g h same = refl
fallen_right f (p ∷ ps) g h same =
    let v = int_wrap w32 (f -ℤ p) in
    let here : v ≡ saturate 32 (f -ℤ p) = step_is f p g h.0 (ap (λ l. get_or l 0 false) same) in
    ap (λ l. v ∷ l) (fallen_right v ps (SFits-int_wrap w32 (f -ℤ p)) h.1 (ap (drop 1) same))
    ∙ ap (λ u. u ∷ lowered_values 32 u ps) here

-- the values, where they pass the test
pub guess_right : (fs ps vs gs : List ℤ) → AreIn w32 4 fs → AreIn w32 4 ps → vs ≡ wrapped_values (sample fs 3) ps →
    gs ≡ sample fs 3 ∷ take 3 vs → zip2 lt_z vs gs ≡ map (lt_z (pos 0)) ps → vs ≡ lowered_values 32 (sample fs 3) ps
guess_right fs ps vs gs f g is given same =
    let last = sample fs 3 in
    let ws = wrapped_values last ps in
    let long : length ws ≡ suc 3 = wrapped_long last ps ∙ g.1 in
    is ∙ fallen_right last ps (Each1-get_or (SFits w32) fs 3 (pos 0) (omega (arith, f.1)) f.0) g.0
    (sym (falls_are 3 last ws long) ∙ (λ i. zip2 lt_z (sym is i) (last ∷ take 3 (sym is i))) ∙
    ap (zip2 lt_z vs) (sym given) ∙ same)
