-- The sections of a lattice with feedback, a group at a time.
use Rattle.std.proofs.Common.{ℕ, zero, suc, ◌≡◌, ◌<◌, ◌≤◌, ◌+◌, ◌-◌, List, [], ◌∷◌, ◌++◌, length, map, take, drop}
use Rattle.std.proofs.Common.{replicate}
use Rattle.std.proofs.Common.{refl, sym, subst, ap, ap₂, ◌∙◌, arith, append_assoc, drop-drop, take-append-drop}
use Rattle.std.proofs.lemmas.Int.{ints}
use Rattle.std.proofs.lemmas.List.{take_all}
use Rattle.std.proofs.lemmas.Simd.{length-chunk, length-zip2, take_more_put_chunk, get_or-put_chunk_below}
use Rattle.std.specs.Prelude.{ℤ, pos, negsuc, ◌+ℤ◌, ◌-ℤ◌, ◌*ℤ◌}
use lib.Lanes.{zip2, chunk, put_chunk, Each1}
use lib.IntN.{+ℤ_comm}
use mir.Syntax.{Width}
use mir.Val.{SFits, to_z}
use Rattle.dsp_defs.specs.Formats.{accumulator, word_bits}
use Rattle.dsp_defs.specs.Lattice.{reflected, backward_values}
use Rattle.dsp_defs.specs.Numbers.{saturate, wrap}
use Rattle.dsp_defs.specs.Signal.{sample, sum_below}
use Rattle.dsp_defs.proofs.Signal.{sum_below_cong}
use Rattle.dsp_defs.specs.declared.format.Fmt.{Fmt}
use Rattle.dsp_sections.specs.Ladders.{lowered_values, raised_values, SectionsDone}
use Rattle.dsp_lanes.proofs.DotSums.{group-more}
use Rattle.dsp_lanes.proofs.Groups.{rest-group}
use Rattle.dsp_lanes.proofs.LaneOps.{bits_of, ints_of_bits}
use Rattle.dsp_lanes.proofs.LaneSums.{lanes_read}
use Rattle.dsp_lanes.proofs.Fractions.{less_in}
use Rattle.dsp_sections.proofs.LadderLanes.{AreIn, lanes_fit, complements_are, complements_fit}

-- ---- what sections pass on, value by value

module _ (bits : ℕ) where
  abbrev pub lower : ℤ → ℤ → ℤ
  lower f p = saturate bits (f -ℤ p)

  length-lowered : (f : ℤ) (ps : List ℤ) → length (lowered_values bits f ps) ≡ length ps
  length-lowered f [] = refl
  length-lowered f (p ∷ ps) = ap suc (length-lowered (lower f p) ps)

  -- where j values are right, what the sections make of them has one more
  one-more : (j n : ℕ) (f : ℤ) (ps vs : List ℤ) → length ps ≡ suc n → take j vs ≡ take j (lowered_values bits f ps)
      → take (suc j) (zip2 lower (f ∷ take n vs) ps) ≡ take (suc j) (lowered_values bits f ps)
  one-more j n f [] vs long so_far = absurd (omega (arith, long))
  one-more zero n f (p ∷ ps) vs long so_far = refl
  one-more (suc j) zero f (p ∷ []) vs long so_far = refl
  one-more (suc j) zero f (p ∷ q ∷ ps) vs long so_far = absurd (omega (arith, long))
  one-more (suc j) (suc n) f (p ∷ ps) [] long so_far = absurd (omega (arith, ap length so_far))
  one-more (suc j) (suc n) f (p ∷ ps) (v ∷ vs) long so_far =
      let here : v ≡ lower f p = ap (λ l. sample l 0) so_far in
      ap (λ l. lower f p ∷ l)
      (ap (λ u. take (suc j) (zip2 lower (u ∷ take n vs) ps)) here
      ∙ one-more j n (lower f p) ps vs (omega (arith, long)) (ap (drop 1) so_far))

  -- values that the sections make of themselves are right
  all-right : (n : ℕ) (f : ℤ) (ps vs : List ℤ) → length ps ≡ suc n → length vs ≡ length ps →
      zip2 lower (f ∷ take n vs) ps ≡ vs → vs ≡ lowered_values bits f ps
  all-right n f ps vs long same stays =
      sym (take_all (length ps) vs (omega (arith, same)))
      ∙ right (length ps)
      ∙ take_all (length ps) (lowered_values bits f ps) (omega (arith, length-lowered f ps))
    where
      right : (j : ℕ) → take j vs ≡ take j (lowered_values bits f ps)
      right zero = refl
      right (suc j) = ap (take (suc j)) (sym stays) ∙ one-more j n f ps vs long (right j)

  -- ... as are those with as many right as there are
  pub enough-right : (f : ℤ) (ps vs : List ℤ) (j : ℕ) → length ps ≤ j → length vs ≡ length ps →
      take j vs ≡ take j (lowered_values bits f ps) → vs ≡ lowered_values bits f ps
  enough-right f ps vs j most same right =
      sym (take_all j vs (omega (arith, same, most))) ∙ right ∙
      take_all j (lowered_values bits f ps) (omega (arith, most, length-lowered f ps))

  -- the values of a whole group
  module _ (f : ℤ) (ps : List ℤ) (size : ℕ) (some : 0 < size) (long : length ps ≡ size) where
    one_less : length ps ≡ suc (size - 1)
    one_less = omega (arith, some, long)

    pub next-right : (right : ℕ) (vs new : List ℤ) → new ≡ zip2 lower (f ∷ take (size - 1) vs) ps →
        take right vs ≡ take right (lowered_values bits f ps)
        → take (right + 1) new ≡ take (right + 1) (lowered_values bits f ps)
    next-right right vs new is so_far =
        let more : right + 1 ≡ suc right = omega arith in
        ap (λ m. take m new) more
        ∙ ap (take (suc right)) is
        ∙ one-more right (size - 1) f ps vs one_less so_far
        ∙ ap (λ m. take m (lowered_values bits f ps)) (sym more)

    pub found-right : (vs : List ℤ) → length vs ≡ size → vs ≡ zip2 lower (f ∷ take (size - 1) vs) ps →
        vs ≡ lowered_values bits f ps
    found-right vs same stays = all-right (size - 1) f ps vs one_less (same ∙ sym long) (sym stays)

  -- the last of them
  abbrev last_of : ℤ → List ℤ → ℤ
  last_of f [] = f
  last_of f (v ∷ vs) = last_of v vs

  last-is : (n : ℕ) (f : ℤ) (vs : List ℤ) → length vs ≡ suc n → last_of f vs ≡ sample vs n
  last-is n f [] long = absurd (omega (arith, long))
  last-is zero f (v ∷ []) long = refl
  last-is zero f (v ∷ u ∷ vs) long = absurd (omega (arith, long))
  last-is (suc n) f (v ∷ vs) long = last-is n v vs (omega (arith, long))

-- a saturated difference by a saturated sum of complements
complement-saturates : (h : ℕ) (f p : ℤ) → negsuc 0 -ℤ saturate h (p +ℤ (negsuc 0 -ℤ f)) ≡ saturate h (f -ℤ p)
complement-saturates h f p = by (p +ℤ (negsuc 0 -ℤ f)) (f -ℤ p) (omega (arith, ints))
  where
    by : (a b : ℤ) → b ≡ negsuc 0 -ℤ a → negsuc 0 -ℤ saturate h a ≡ saturate h b
    by (pos a) (pos b) e = absurd (omega (arith, ints, e))
    by (pos a) (negsuc b) e = grind (arith, ints)
    by (negsuc a) (pos b) e = grind (arith, ints)
    by (negsuc a) (negsuc b) e = absurd (omega (arith, ints, e))

complements-saturate : (h : ℕ) (fs ps : List ℤ) →
    map (λ x. negsuc 0 -ℤ x) (zip2 (λ x y. saturate h (x +ℤ y)) ps (map (λ x. negsuc 0 -ℤ x) fs)) ≡ zip2
    (λ f p. saturate h (f -ℤ p)) fs ps
complements-saturate h [] [] = refl
complements-saturate h [] (p ∷ ps) = refl
complements-saturate h (f ∷ fs) [] = refl
complements-saturate h (f ∷ fs) (p ∷ ps) = ap₂ (λ v l. v ∷ l) (complement-saturates h f p)
    (complements-saturate h fs ps)

-- ... in lanes, where rs are the saturated sums
abbrev turned_lanes : Width → ℕ → List ℤ → List ℤ
turned_lanes w n xs = map (to_z w) (zip2 (less_in w) (bits_of w (replicate n (negsuc 0))) (bits_of w xs))

pub turned_fit : (w : Width) (n : ℕ) (xs : List ℤ) → SFits w (negsuc 0) → AreIn w n xs → AreIn w n (turned_lanes w n xs)
turned_fit w n xs one f = lanes_fit w n _ _ (complements_are w n xs one f) (complements_fit w n xs f)

pub lowered_are : (w : Width) (n h : ℕ) (fs ps rs : List ℤ) → SFits w (negsuc 0) → AreIn w n fs → AreIn w n ps →
    Each1 (SFits w) rs
    → rs ≡ zip2 (λ x y. saturate h (x +ℤ y)) (map (to_z w) (bits_of w ps)) (turned_lanes w n fs)
    → (turned_lanes w n rs ≡ zip2 (λ f p. saturate h (f -ℤ p)) fs ps) × AreIn w n (turned_lanes w n rs)
lowered_are w n h fs ps rs one f g fit is =
    let turned : ℤ → ℤ = λ x. negsuc 0 -ℤ x in
    let read : (xs : List ℤ) → AreIn w n xs → turned_lanes w n xs ≡ map turned xs =
    λ xs p. (lanes_read w _ (map turned xs) (complements_are w n xs one p) (complements_fit w n xs p).0).0 in
    let first = lanes_fit w n _ ps refl g in
    let r : AreIn w n rs = (
      fit,
      ap length is ∙ length-zip2 (λ x y. saturate h (x +ℤ y)) (map (to_z w) (bits_of w ps))
          (turned_lanes w n fs) (first.1 ∙ sym (turned_fit w n fs one f).1) ∙ first.1,
    ) in (
      read rs r
          ∙ ap (map turned) (is ∙ (λ i. zip2 (λ x y. saturate h (x +ℤ y)) (ints_of_bits w ps g.0 i) (read fs f i)))
          ∙ complements-saturate h fs ps,
      turned_fit w n rs one r,
    )

-- saturated sums, the other way round
pub sums-turned : (h : ℕ) (xs ys : List ℤ) →
    zip2 (λ x y. saturate h (x +ℤ y)) xs ys ≡ zip2 (λ y x. saturate h (y +ℤ x)) ys xs
sums-turned h [] [] = refl
sums-turned h [] (y ∷ ys) = refl
sums-turned h (x ∷ xs) [] = refl
sums-turned h (x ∷ xs) (y ∷ ys) = ap₂ (λ v l. v ∷ l) (ap (saturate h) (+ℤ_comm x y)) (sums-turned h xs ys)

-- ---- the values of a group

module _ (format : Fmt) where
  abbrev bits : ℕ
  bits = word_bits format

  abbrev pub passed : ℤ → List ℤ → List ℤ → List ℤ
  passed f ks os = lowered_values bits f (zip2 (reflected format) ks os)

  group-values : (f : ℤ) (ks os ks' os' : List ℤ) → length ks ≡ length os
      → backward_values format f (ks ++ ks') (os ++ os') ≡ raised_values format ks (passed f ks os) os ++
      backward_values format (last_of bits f (passed f ks os)) ks' os'
  group-values f [] [] ks' os' same = refl
  group-values f [] (o ∷ os) ks' os' same = absurd (omega (arith, same))
  group-values f (k ∷ ks) [] ks' os' same = absurd (omega (arith, same))
  group-values f (k ∷ ks) (o ∷ os) ks' os' same =
      let low = saturate bits (f -ℤ reflected format k o) in
      ap (λ l. saturate bits (reflected format k low +ℤ o) ∷ l) (group-values low ks os ks' os' (omega (arith, same)))

  -- a group more: n sections from `at` on, which were given f and pass on vs
  pub group-done : (x f : ℤ) (ks olds news new vs : List ℤ) (at n : ℕ) → at + n ≤ length ks →
      length ks < length olds → length news ≡ length olds → 0 < n
      → take at news ++ backward_values format f (drop at ks) (drop (at + 1) olds) ≡ backward_values format x ks
      (drop 1 olds)
      → drop (at + 1) news ≡ drop (at + 1) olds
      → vs ≡ passed f (chunk at n ks) (chunk (at + 1) n news)
      → new ≡ put_chunk at news (raised_values format (chunk at n ks) vs (chunk (at + 1) n news))
      → (take (at + n) new ++ backward_values format (sample vs (n - 1)) (drop (at + n) ks) (drop (at + n + 1) olds) ≡
      backward_values format x ks (drop 1 olds))
      × (drop (at + n + 1) new ≡ drop (at + n + 1) olds)
  group-done x f ks olds news new vs at n inside more same some so_far rest vs_is new_is =
      let k = chunk at n ks in
      let o = chunk (at + 1) n news in
      let long_k : length k ≡ n = length-chunk at n ks inside in
      let long_o : length o ≡ n = length-chunk (at + 1) n news (omega (arith, inside, more, same)) in
      let long_p : length (zip2 (reflected format) k o) ≡ n =
      length-zip2 (reflected format) k o (long_k ∙ sym long_o) ∙ long_k in
      let long_v : length vs ≡ n = ap length vs_is ∙ length-lowered bits f (zip2 (reflected format) k o) ∙ long_p in
      let long_r : length (zip2 (reflected format) k vs) ≡ n =
      length-zip2 (reflected format) k vs (long_k ∙ sym long_v) ∙ long_k in
      let g = raised_values format k vs o in
      let long_g : length g ≡ n = length-zip2 (λ p q. saturate bits (p +ℤ q)) (zip2 (reflected format) k vs) o
      (long_r ∙ sym long_o) ∙ long_r in
      let one : suc (n - 1) ≡ n = omega (arith, some) in
      let last : last_of bits f vs ≡ sample vs (n - 1) = last-is bits (n - 1) f vs (long_v ∙ sym one) in
      let later : at + 1 + n ≡ at + n + 1 = omega arith in
      let split_k : drop at ks ≡ k ++ drop (at + n) ks = sym (take-append-drop n (drop at ks)) ∙
      ap (λ l. k ++ l) (drop-drop n at ks) in
      let split_o : drop (at + 1) olds ≡ o ++ drop (at + n + 1) olds =
      sym (take-append-drop n (drop (at + 1) olds)) ∙ (λ i. take n (sym rest i) ++ drop-drop n (at + 1) olds i) ∙
      ap (λ m. o ++ drop m olds) later in
      let values : backward_values format f (drop at ks) (drop (at + 1) olds) ≡ g ++ backward_values format
      (sample vs (n - 1)) (drop (at + n) ks) (drop (at + n + 1) olds) =
      (λ i. backward_values format f (split_k i) (split_o i))
      ∙ group-values f k o (drop (at + n) ks) (drop (at + n + 1) olds) (long_k ∙ sym long_o)
      ∙ (λ i. raised_values format k (sym vs_is i) o ++ backward_values format (last_of bits f (sym vs_is i))
      (drop (at + n) ks) (drop (at + n + 1) olds))
      ∙ ap (λ l. g ++ backward_values format l (drop (at + n) ks) (drop (at + n + 1) olds)) last in
      let behind : drop (at + n) new ≡ drop (at + n) news =
      rest-group at n new news news g long_g (omega (arith, inside, more, same)) refl new_is in (
        ap (λ l. l ++ backward_values format (sample vs (n - 1)) (drop (at + n) ks) (drop (at + n + 1) olds))
            (ap (take (at + n)) new_is ∙ take_more_put_chunk at news g (at + n) (omega (arith, long_g))
            (omega (arith, inside, more, same)))
            ∙ append_assoc (take at news) g (backward_values format (sample vs (n - 1)) (drop (at + n) ks)
            (drop (at + n + 1) olds))
            ∙ ap (λ l. take at news ++ l) (sym values)
            ∙ so_far,
        sym (drop-drop 1 (at + n) new)
            ∙ ap (drop 1) behind
            ∙ drop-drop 1 (at + n) news
            ∙ ap (λ m. drop m news) (sym later)
            ∙ sym (drop-drop n (at + 1) news)
            ∙ ap (drop n) rest
            ∙ drop-drop n (at + 1) olds
            ∙ ap (λ m. drop m olds) later,
      )

-- the sum of the products so far, when a group behind them is written
pub sum-stays : (at : ℕ) (vs news new ys : List ℤ) → new ≡ put_chunk at news ys
    → sum_below at (λ j. sample vs j *ℤ sample news j) ≡ sum_below at (λ j. sample vs j *ℤ sample new j)
sum-stays at vs news new ys is =
    sum_below_cong at (λ j. sample vs j *ℤ sample news j) (λ j. sample vs j *ℤ sample new j)
    (λ j below. ap (λ z. sample vs j *ℤ z) (sym (get_or-put_chunk_below at news ys j (pos 0) below) ∙
    ap (λ l. sample l j) (sym is)))

-- a group more is done, with its products in the sum
pub next-done : (format : Fmt) (x f : ℤ) (ks vs olds news new fs : List ℤ) (at n m : ℕ) (sum total : ℤ) → m ≡ at + n →
    at + n ≤ length ks → length ks < length olds → length news ≡ length olds → 0 < n
    → SectionsDone format x ks vs olds news at f (wrap (accumulator format) sum)
    → fs ≡ passed format f (chunk at n ks) (chunk (at + 1) n news)
    → new ≡ put_chunk at news (raised_values format (chunk at n ks) fs (chunk (at + 1) n news))
    → wrap (accumulator format) total ≡ wrap (accumulator format)
    (sum +ℤ sum_below n (λ j. sample vs (at + j) *ℤ sample new (at + j)))
    → SectionsDone format x ks vs olds new m (sample fs (n - 1)) (wrap (accumulator format) total)
next-done format x f ks vs olds news new fs at n m sum total next inside more same some so_far fs_is new_is total_is =
    let done = group-done format x f ks olds news new fs at n inside more same some so_far.values so_far.rest fs_is
    new_is in
    let stays = ap (wrap (accumulator format)) (sum-stays at vs news new _ new_is) in
    record {
      values = subst (λ (j : ℕ). take j new ++ backward_values format (sample fs (n - 1)) (drop j ks)
          (drop (j + 1) olds) ≡ backward_values format x ks (drop 1 olds)) (sym next) done.0;
      rest = subst (λ (j : ℕ). drop (j + 1) new ≡ drop (j + 1) olds) (sym next) done.1;
      sum_is = group-more (accumulator format) at n m vs new total sum next total_is (so_far.sum_is ∙ stays);
    }

-- what no group has reached is the same before and behind one
pub same-behind : (format : Fmt) (x f g sum total : ℤ) (ks vs olds news new : List ℤ) (at n size : ℕ) →
    SectionsDone format x ks vs olds news at f sum → SectionsDone format x ks vs olds new (at + n) g total
    → chunk (at + n + 1) size news ≡ chunk (at + n + 1) size new
same-behind format x f g sum total ks vs olds news new at n size so_far next =
    let later : at + 1 + n ≡ at + n + 1 = omega arith in
    let behind : (xs : List ℤ) → drop (at + n + 1) xs ≡ drop n (drop (at + 1) xs) =
    λ xs. ap (λ m. drop m xs) (sym later) ∙ sym (drop-drop n (at + 1) xs) in
    ap (take size) (behind news ∙ ap (drop n) so_far.rest ∙ sym (behind olds) ∙ sym next.rest)
