-- A section of a lattice over samples, eight at a time and then one by one.
use Rattle.std.proofs.Common.{ℕ, zero, suc, ◌≡◌, ◌<◌, ◌≤◌, ◌+◌, List, [], ◌∷◌, ◌++◌, length, map, take, drop, set}
use Rattle.std.proofs.Common.{ℤ, pos, ◌+ℤ◌, ◌*ℤ◌, refl, sym, ap, ap₂, ◌∙◌, arith, drop-cons, w16}
use Rattle.std.proofs.lemmas.List.{get_or-drop, get_or-take, take-take, take_all}
use Rattle.std.proofs.lemmas.Simd.{length-chunk, length-zip2}
use Rattle.std.specs.List.{All}
use lib.Lanes.{zip2, chunk, put_chunk, pick_l}
use mir.Val.{SFits, to_z}
use Rattle.dsp_defs.specs.Numbers.{floor_shift, saturate}
use Rattle.dsp_defs.specs.Signal.{sample}
use Rattle.dsp_sections.specs.Reflected.{reflected}
use Rattle.dsp_lanes.proofs.LaneOps.{bits_of, group_fits}
use Rattle.dsp_lanes.proofs.LaneSums.{lanes_read}
use Rattle.dsp_lanes.proofs.Groups.{zip2-group, zip2-one, rest-group, rest-one, rest-sample}
use Rattle.dsp_sections.proofs.LadderLanes.{AreIn, behind_eight, behind_fit}

-- ---- eight samples

-- the last of eight values, and the first seven of the next eight of a slice
pub before_chunk : (before : List ℤ) (at : ℕ) (gs : List ℤ) → AreIn w16 8 before → at + 8 ≤ length gs →
    All (SFits w16) gs → map (to_z w16) (pick_l 0 (bits_of w16 before ++ bits_of w16 (chunk at 8 gs))
    (7 ∷ 8 ∷ 9 ∷ 10 ∷ 11 ∷ 12 ∷ 13 ∷ 14 ∷ [])) ≡ sample before 7 ∷ chunk at 7 gs
before_chunk before at gs fits room all =
    let next = chunk at 8 gs in
    let are : AreIn w16 8 next = (group_fits w16 at 8 gs all room, length-chunk at 8 gs room) in
    (lanes_read w16 _ (sample before 7 ∷ take 7 next) (behind_eight w16 before next fits.1 are.1)
    (behind_fit w16 7 before next fits are).0).0
    ∙ ap (λ l. sample before 7 ∷ l) (take-take 7 8 (drop at gs) (omega arith))

abbrev sums_with : ℤ → List ℤ → List ℤ → List ℤ
sums_with k others own = zip2 (λ a b. saturate 16 (a +ℤ b)) (map (λ x. floor_shift (k *ℤ x) 15) others) own

pub backward-is : (k : ℤ) (fs gs : List ℤ) → sums_with k fs gs ≡ zip2 (λ f g. reflected k f g) fs gs
backward-is k [] gs = refl
backward-is k (f ∷ fs) [] = refl
backward-is k (f ∷ fs) (g ∷ gs) = ap (λ l. reflected k f g ∷ l) (backward-is k fs gs)

pub forward-is : (k : ℤ) (fs gs : List ℤ) → sums_with k gs fs ≡ zip2 (λ f g. reflected k g f) fs gs
forward-is k [] [] = refl
forward-is k (f ∷ fs) [] = refl
forward-is k [] (g ∷ gs) = refl
forward-is k (f ∷ fs) (g ∷ gs) = ap (λ l. reflected k g f ∷ l) (forward-is k fs gs)

-- ---- all samples

-- the first `at` values f and g are those of the section, the others stand as they were, and the last g is the one
-- before them
pub record Reached (k before : ℤ) (fs gs new_fs new_gs : List ℤ) (last : ℤ) (at : ℕ) : Type 0 where
  pub within : at ≤ length fs
  pub forward : take at new_fs ≡ zip2 (λ f g. reflected k g f) (take at fs) (take at (before ∷ gs))
  pub backward : take at new_gs ≡ zip2 (λ f g. reflected k f g) (take at fs) (take at (before ∷ gs))
  pub forward_rest : drop at new_fs ≡ drop at fs
  pub backward_rest : drop at new_gs ≡ drop at gs
  pub last_is : last ≡ sample (before ∷ gs) at

-- a value behind the first is one of the others
behind : (before : ℤ) (gs : List ℤ) (m n : ℕ) → m ≡ n + 1 → sample (before ∷ gs) m ≡ sample gs n
behind before gs m n next = let more : m ≡ suc n = omega (arith, next) in ap (sample (before ∷ gs)) more

length-eight : (f : ℤ → ℤ → ℤ) (at : ℕ) (last : ℤ) (fs gs : List ℤ) → at + 8 ≤ length fs → at + 8 ≤ length gs →
    length (zip2 f (chunk at 8 fs) (last ∷ chunk at 7 gs)) ≡ 8
length-eight f at last fs gs room room' =
    let front = length-chunk at 8 fs room in
    let back = length-chunk at 7 gs (omega (arith, room')) in
    length-zip2 f (chunk at 8 fs) (last ∷ chunk at 7 gs) (omega (arith, front, back)) ∙ front

module _ (k before : ℤ) (fs gs old_fs old_gs : List ℤ) (last : ℤ) (at : ℕ) (same : length gs ≡ length fs)
    (same_fs : length old_fs ≡ length fs) (same_gs : length old_gs ≡ length gs)
    (h : Reached k before fs gs old_fs old_gs last at) where
  abbrev whole : List ℤ
  whole = before ∷ gs

  pub eight-more : (new_fs new_gs : List ℤ) (next : ℤ) (m : ℕ) → m ≡ at + 8 → m ≤ length fs →
      new_fs ≡ put_chunk at old_fs (zip2 (λ f g. reflected k g f) (chunk at 8 old_fs) (last ∷ chunk at 7 old_gs)) →
      new_gs ≡ put_chunk at old_gs (zip2 (λ f g. reflected k f g) (chunk at 8 old_fs) (last ∷ chunk at 7 old_gs)) →
      next ≡ sample (chunk at 8 old_gs) 7 → Reached k before fs gs new_fs new_gs next m
  eight-more new_fs new_gs next m more room is_fs is_gs is_next =
      let up : ℤ → ℤ → ℤ = λ f g. reflected k g f in
      let down : ℤ → ℤ → ℤ = λ f g. reflected k f g in
      let room_fs : at + 8 ≤ length old_fs = omega (arith, more, room, same_fs) in
      let room_gs : at + 8 ≤ length old_gs = omega (arith, more, room, same, same_gs) in
      let inside : at < length whole = omega (arith, more, room, same) in
      let front : chunk at 8 old_fs ≡ chunk at 8 fs = ap (take 8) h.forward_rest in
      let back : last ∷ chunk at 7 old_gs ≡ chunk at 8 whole = ap₂ (λ v l. v ∷ take 7 l) h.last_is h.backward_rest ∙
      sym (ap (take 8) (drop-cons whole at (pos 0) inside)) in
      let made : (f : ℤ → ℤ → ℤ) → zip2 f (chunk at 8 old_fs) (last ∷ chunk at 7 old_gs) ≡ zip2 f (chunk at 8 fs)
      (chunk at 8 whole) = λ f. ap₂ (zip2 f) front back in
      record {
        within = room;
        forward = ap (λ n. take n new_fs) more ∙ zip2-group up at 8 new_fs old_fs fs whole (sym same_fs)
            (omega (arith, same, same_fs)) room_fs h.forward (is_fs ∙ ap (put_chunk at old_fs) (made up)) ∙
            ap (λ n. zip2 up (take n fs) (take n whole)) (sym more);
        backward = ap (λ n. take n new_gs) more ∙ zip2-group down at 8 new_gs old_gs fs whole (sym same ∙ sym same_gs)
            (omega (arith, same_gs)) room_gs h.backward (is_gs ∙ ap (put_chunk at old_gs) (made down)) ∙
            ap (λ n. zip2 down (take n fs) (take n whole)) (sym more);
        forward_rest = ap (λ n. drop n new_fs) more ∙ rest-group at 8 new_fs old_fs fs
            (zip2 up (chunk at 8 old_fs) (last ∷ chunk at 7 old_gs))
            (length-eight up at last old_fs old_gs room_fs room_gs) room_fs h.forward_rest is_fs ∙
            ap (λ n. drop n fs) (sym more);
        backward_rest = ap (λ n. drop n new_gs) more ∙ rest-group at 8 new_gs old_gs gs
            (zip2 down (chunk at 8 old_fs) (last ∷ chunk at 7 old_gs))
            (length-eight down at last old_fs old_gs room_fs room_gs) room_gs h.backward_rest is_gs ∙
            ap (λ n. drop n gs) (sym more);
        last_is = is_next ∙ get_or-take 8 (drop at old_gs) 7 (pos 0) (omega arith) ∙
            ap (λ l. sample l 7) h.backward_rest ∙ get_or-drop at gs 7 (pos 0) ∙
            sym (behind before gs m (at + 7) (omega (arith, more)));
      }

  pub one-more : (f g f' g' : ℤ) (m : ℕ) → m ≡ at + 1 → at < length fs → f ≡ sample old_fs at → g ≡ sample old_gs at →
      f' ≡ reflected k last f → g' ≡ reflected k f last →
      Reached k before fs gs (set old_fs at f') (set old_gs at g') g m
  one-more f g f' g' m more inside is_f is_g up_is down_is =
      let up : ℤ → ℤ → ℤ = λ f g. reflected k g f in
      let down : ℤ → ℤ → ℤ = λ f g. reflected k f g in
      let front : f ≡ sample fs at = is_f ∙ rest-sample at old_fs fs h.forward_rest in
      record {
        within = omega (arith, more, inside);
        forward = zip2-one up at m old_fs fs whole f' more (sym same_fs) (omega (arith, same, same_fs))
            (omega (arith, inside, same_fs)) h.forward (up_is ∙ ap₂ (λ a b. reflected k a b) h.last_is front);
        backward = zip2-one down at m old_gs fs whole g' more (sym same ∙ sym same_gs) (omega (arith, same_gs))
            (omega (arith, inside, same, same_gs)) h.backward (down_is ∙ ap₂ (λ a b. reflected k a b) front h.last_is);
        forward_rest = rest-one at m old_fs fs f' more h.forward_rest;
        backward_rest = rest-one at m old_gs gs g' more h.backward_rest;
        last_is = is_g ∙ rest-sample at old_gs gs h.backward_rest ∙ sym (behind before gs m at more);
      }

-- ---- the end

zip2-cut : (f : ℤ → ℤ → ℤ) (n : ℕ) (xs ys : List ℤ) → length xs ≤ n → zip2 f xs (take n ys) ≡ zip2 f xs ys
zip2-cut f n [] ys long = refl
zip2-cut f zero (x ∷ xs) ys long = absurd (omega (arith, long))
zip2-cut f (suc n) (x ∷ xs) [] long = refl
zip2-cut f (suc n) (x ∷ xs) (y ∷ ys) long = ap (λ l. f x y ∷ l) (zip2-cut f n xs ys (omega (arith, long)))

module _ (k before : ℤ) (fs gs new_fs new_gs : List ℤ) (last : ℤ) (at : ℕ) (same : length gs ≡ length fs)
    (done : length fs ≤ at) (h : Reached k before fs gs new_fs new_gs last at) where
  written : (f : ℤ → ℤ → ℤ) (new : List ℤ) → length new ≡ length fs →
      take at new ≡ zip2 f (take at fs) (take at (before ∷ gs)) → new ≡ zip2 f fs (before ∷ gs)
  written f new long is =
      sym (take_all at new (omega (arith, long, done)))
      ∙ is
      ∙ ap (λ l. zip2 f l (take at (before ∷ gs))) (take_all at fs done)
      ∙ zip2-cut f at fs (before ∷ gs) done

  pub all-forward : length new_fs ≡ length fs → new_fs ≡ zip2 (λ f g. reflected k g f) fs (before ∷ gs)
  all-forward long = written (λ f g. reflected k g f) new_fs long h.forward

  pub all-backward : length new_gs ≡ length gs → new_gs ≡ zip2 (λ f g. reflected k f g) fs (before ∷ gs)
  all-backward long = written (λ f g. reflected k f g) new_gs (long ∙ same) h.backward
