-- A loop that works on slices group by group, and then element by element, in numbers.
use Rattle.std.proofs.Common.{ℕ, ◌≡◌, ◌<◌, ◌≤◌, ◌+◌, ◌-◌, ◌*◌, ◌/◌, ◌%◌, suc, List, [], ◌∷◌, ◌++◌, length, take, drop}
use Rattle.std.proofs.Common.{map, set, ℤ, pos, refl, sym, ap, ◌∙◌, arith, length-take-le, take-add, drop-drop}
use Rattle.std.proofs.lemmas.List.{map-append, length-map, length-append, append_assoc, take_more_set, drop-set-lt}
use Rattle.std.proofs.lemmas.List.{drop_at, get_or-drop}
use Rattle.std.proofs.lemmas.Simd.{length-zip2, length-chunk, length-put_chunk, take_more_put_chunk, put_chunk_is}
use Rattle.std.proofs.Math.Seq.{take-suc}
use native.Mathlib.Nat.{div-eq_of_lt-le}
use lib.Lanes.{zip2, chunk, put_chunk}
use Rattle.dsp_defs.specs.Counts.{Counts, Rises}
use Rattle.dsp_defs.specs.Signal.{sample}
use Rattle.dsp_lanes.specs.Turns.{RisesWithin, lane_turns}

pub zip2-append : (f : ℤ → ℤ → ℤ) (xs xs' ys ys' : List ℤ) → length xs ≡ length ys →
    zip2 f (xs ++ xs') (ys ++ ys') ≡ zip2 f xs ys ++ zip2 f xs' ys'
zip2-append f [] xs' [] ys' e = refl
zip2-append f [] xs' (y ∷ ys) ys' e = absurd (omega (arith, e))
zip2-append f (x ∷ xs) xs' [] ys' e = absurd (omega (arith, e))
zip2-append f (x ∷ xs) xs' (y ∷ ys) ys' e = ap (λ l. f x y ∷ l) (zip2-append f xs xs' ys ys' (omega arith))

-- ---- the next group
pub zip2-group : (f : ℤ → ℤ → ℤ) (at n : ℕ) (new old a b : List ℤ) → length a ≡ length old → length old ≤ length b →
    at + n ≤ length old
    → take at old ≡ zip2 f (take at a) (take at b) → new ≡ put_chunk at old (zip2 f (chunk at n a) (chunk at n b)) →
    take (at + n) new ≡ zip2 f (take (at + n) a) (take (at + n) b)
zip2-group f at n new old a b e h room done is =
    let long_a : length (chunk at n a) ≡ n = length-chunk at n a (omega arith) in
    let long_b : length (chunk at n b) ≡ n = length-chunk at n b (omega arith) in
    let long : length (zip2 f (chunk at n a) (chunk at n b)) ≡ n =
    length-zip2 f (chunk at n a) (chunk at n b) (omega arith) ∙ long_a in
    let front_a : length (take at a) ≡ at = length-take-le at a (omega arith) in
    let front_b : length (take at b) ≡ at = length-take-le at b (omega arith) in
    ap (take (at + n)) is
    ∙ take_more_put_chunk at old (zip2 f (chunk at n a) (chunk at n b)) (at + n) (omega arith) (omega arith)
    ∙ ap (λ l. l ++ zip2 f (chunk at n a) (chunk at n b)) done
    ∙ sym (zip2-append f (take at a) (chunk at n a) (take at b) (chunk at n b) (omega arith))
    ∙ (λ i. zip2 f (sym (take-add at n a) i) (sym (take-add at n b) i))

pub map-group : (f : ℤ → ℤ) (at n : ℕ) (new old a : List ℤ) → length a ≡ length old → at + n ≤ length old
    → take at old ≡ map f (take at a) → new ≡ put_chunk at old (map f (chunk at n a)) →
    take (at + n) new ≡ map f (take (at + n) a)
map-group f at n new old a e room done is =
    let long_a : length (chunk at n a) ≡ n = length-chunk at n a (omega arith) in
    let long : length (map f (chunk at n a)) ≡ n = length-map (chunk at n a) f ∙ long_a in
    ap (take (at + n)) is
    ∙ take_more_put_chunk at old (map f (chunk at n a)) (at + n) (omega arith) (omega arith)
    ∙ ap (λ l. l ++ map f (chunk at n a)) done
    ∙ sym (map-append f (take at a) (chunk at n a))
    ∙ ap (map f) (sym (take-add at n a))

-- what is behind a group that was stored stays
pub rest-group : (at n : ℕ) (new old first ys : List ℤ) → length ys ≡ n → at + n ≤ length old →
    drop at old ≡ drop at first → new ≡ put_chunk at old ys → drop (at + n) new ≡ drop (at + n) first
rest-group at n new old first ys long room left is =
    let front : length (take at old) ≡ at = length-take-le at old (omega arith) in
    let rest = drop (length ys) (drop at old) in
    ap (drop (at + n)) (is ∙ put_chunk_is at old ys (omega arith))
    ∙ sym (drop-drop n at (take at old ++ (ys ++ rest)))
    ∙ ap (drop n) (drop_at (take at old) (ys ++ rest) at front)
    ∙ drop_at ys rest n long
    ∙ (λ i. drop (long i) (left i))
    ∙ drop-drop n at first

-- ---- two groups, one behind the other
pub chunk-append : (at n m : ℕ) (xs : List ℤ) → chunk at (n + m) xs ≡ chunk at n xs ++ chunk (at + n) m xs
chunk-append at n m xs = take-add n m (drop at xs) ∙ ap (λ l. chunk at n xs ++ take m l) (drop-drop n at xs)

pub put_chunk-append : (at : ℕ) (old xs ys : List ℤ) → at + length xs + length ys ≤ length old →
    put_chunk at old (xs ++ ys) ≡ put_chunk (at + length xs) (put_chunk at old xs) ys
put_chunk-append at old xs ys room =
    let n = length xs in
    let m = length ys in
    let first = put_chunk at old xs in
    let same : length first ≡ length old = length-put_chunk at old xs in
    let both : length (xs ++ ys) ≡ n + m = length-append xs ys in
    let front : take (at + n) first ≡ take at old ++ xs = take_more_put_chunk at old xs (at + n) refl (omega arith) in
    let behind : drop (at + n) first ≡ drop (at + n) old =
    rest-group at n first old old xs refl (omega arith) refl refl in
    put_chunk_is at old (xs ++ ys) (omega (arith, both, room))
    ∙ ap (λ k. take at old ++ ((xs ++ ys) ++ drop k (drop at old))) both
    ∙ ap (λ l. take at old ++ ((xs ++ ys) ++ l)) (sym (drop-drop m n (drop at old)) ∙ ap (drop m) (drop-drop n at old))
    ∙ ap (λ l. take at old ++ l) (append_assoc xs ys (drop m (drop (at + n) old)))
    ∙ sym (append_assoc (take at old) xs (ys ++ drop m (drop (at + n) old)))
    ∙ (λ i. sym front i ++ (ys ++ drop m (sym behind i)))
    ∙ sym (put_chunk_is (at + n) first ys (omega (arith, same, room)))

-- two groups, one changed after the other
pub zip2-double : (f : ℤ → ℤ → ℤ) (at n : ℕ) (old mid new b : List ℤ) → at + 2 * n ≤ length old →
    at + 2 * n ≤ length b → mid ≡ put_chunk at old (zip2 f (chunk at n old) (chunk at n b)) →
    new ≡ put_chunk (at + n) mid (zip2 f (chunk (at + n) n mid) (chunk (at + n) n b)) →
    new ≡ put_chunk at old (zip2 f (chunk at (2 * n) old) (chunk at (2 * n) b))
zip2-double f at n old mid new b room behind first second =
    let long : (m : ℕ) → m + n ≤ length old → m + n ≤ length b →
    length (zip2 f (chunk m n old) (chunk m n b)) ≡ n =
    λ m p q. length-zip2 f (chunk m n old) (chunk m n b) (length-chunk m n old p ∙ sym (length-chunk m n b q)) ∙
    length-chunk m n old p in
    let ys = zip2 f (chunk at n old) (chunk at n b) in
    let zs = zip2 f (chunk (at + n) n old) (chunk (at + n) n b) in
    let long_y : length ys ≡ n = long at (omega (arith, room)) (omega (arith, behind)) in
    let long_z : length zs ≡ n = long (at + n) (omega (arith, room)) (omega (arith, behind)) in
    let chunk_o : length (chunk at n old) ≡ n = length-chunk at n old (omega (arith, room)) in
    let chunk_b : length (chunk at n b) ≡ n = length-chunk at n b (omega (arith, behind)) in
    let left : drop (at + n) mid ≡ drop (at + n) old = rest-group at n mid old old ys long_y (omega (arith, room)) refl
    first in
    let both : 2 * n ≡ n + n = omega arith in
    let joined : zip2 f (chunk at (2 * n) old) (chunk at (2 * n) b) ≡ ys ++ zs =
    ap (λ k. zip2 f (chunk at k old) (chunk at k b)) both
    ∙ (λ i. zip2 f (chunk-append at n n old i) (chunk-append at n n b i))
    ∙ zip2-append f (chunk at n old) (chunk (at + n) n old) (chunk at n b) (chunk (at + n) n b)
    (chunk_o ∙ sym chunk_b) in
    second
    ∙ (λ i. put_chunk (at + n) (first i) (zip2 f (take n (left i)) (chunk (at + n) n b)))
    ∙ ap (λ k. put_chunk (at + k) (put_chunk at old ys) zs) (sym long_y)
    ∙ sym (put_chunk-append at old ys zs (omega (arith, room, long_y, long_z)))
    ∙ ap (put_chunk at old) (sym joined)

-- ---- the next element
pub zip2-one : (f : ℤ → ℤ → ℤ) (at m : ℕ) (old a b : List ℤ) (v : ℤ) → m ≡ at + 1 → length a ≡ length old →
    length old ≤ length b → at < length old
    → take at old ≡ zip2 f (take at a) (take at b) → v ≡ f (sample a at) (sample b at) →
    take m (set old at v) ≡ zip2 f (take m a) (take m b)
zip2-one f at m old a b v next same_a same_b room done is =
    let front_a : length (take at a) ≡ at = length-take-le at a (omega arith) in
    let front_b : length (take at b) ≡ at = length-take-le at b (omega arith) in
    let more : m ≡ suc at = omega arith in
    ap (λ k. take k (set old at v)) next
    ∙ take_more_set old at v room
    ∙ (λ i. done i ++ (is i ∷ []))
    ∙ sym (zip2-append f (take at a) (sample a at ∷ []) (take at b) (sample b at ∷ []) (omega arith))
    ∙ (λ i. zip2 f (sym (take-suc a at (pos 0) (omega arith)) i) (sym (take-suc b at (pos 0) (omega arith)) i))
    ∙ ap (λ k. zip2 f (take k a) (take k b)) (sym more)

pub map-one : (f : ℤ → ℤ) (at m : ℕ) (old a : List ℤ) (v : ℤ) → m ≡ at + 1 → length a ≡ length old → at < length old
    → take at old ≡ map f (take at a) → v ≡ f (sample a at) → take m (set old at v) ≡ map f (take m a)
map-one f at m old a v next same room done is =
    let more : m ≡ suc at = omega arith in
    ap (λ k. take k (set old at v)) next
    ∙ take_more_set old at v room
    ∙ (λ i. done i ++ (is i ∷ []))
    ∙ sym (map-append f (take at a) (sample a at ∷ []))
    ∙ ap (map f) (sym (take-suc a at (pos 0) (omega arith)))
    ∙ ap (λ k. map f (take k a)) (sym more)

pub rest-one : (at m : ℕ) (old first : List ℤ) (v : ℤ) → m ≡ at + 1 → drop at old ≡ drop at first →
    drop m (set old at v) ≡ drop m first
rest-one at m old first v next left =
    drop-set-lt m old at v (omega arith)
    ∙ ap (λ k. drop k old) next
    ∙ sym (drop-drop 1 at old)
    ∙ ap (drop 1) left
    ∙ drop-drop 1 at first
    ∙ ap (λ k. drop k first) (sym next)

-- an element that is not written yet
pub rest-sample : (at : ℕ) (old first : List ℤ) → drop at old ≡ drop at first → sample old at ≡ sample first at
rest-sample at old first left =
    let here : at + 0 ≡ at = omega arith in
    ap (sample old) (sym here) ∙ sym (get_or-drop at old 0 (pos 0)) ∙ ap (λ l. sample l 0) left ∙
    get_or-drop at first 0 (pos 0) ∙ ap (sample first) here

-- ---- counts: each element takes t products; k groups of n took t turns each
pub turned : (k n at : ℕ) → k * n ≡ at → (k + 1) * n ≡ at + n
turned k n at done = omega (arith, done)

pub counted_group : (a b c : Counts) (t n at : ℕ) → (k : ℕ) × (k * n ≡ at) × RisesWithin a b (t * at) (t * k) →
    RisesWithin b c (t * n) t → (k : ℕ) × (k * n ≡ at + n) × RisesWithin a c (t * (at + n)) (t * k)
counted_group a b c t n at h more =
    let before = h.2 in (
      h.0 + 1,
      turned h.0 n at h.1,
      record { multiplies_rise = omega (arith, before, more); turns_within = omega (arith, before, more) },
    )

pub counted_double : (a b c : Counts) (t n at : ℕ) → (k : ℕ) × (k * n ≡ at) × RisesWithin a b (t * at) (t * k) →
    RisesWithin b c (t * (2 * n)) (2 * t) → (k : ℕ) × (k * n ≡ at + 2 * n) × RisesWithin a c (t * (at + 2 * n)) (t * k)
counted_double a b c t n at h more =
    let before = h.2 in (
      h.0 + 2,
      omega (arith, h.1),
      record { multiplies_rise = omega (arith, before, more); turns_within = omega (arith, before, more) },
    )

pub counted_quad : (a b c : Counts) (t n at : ℕ) → (k : ℕ) × (k * n ≡ at) × RisesWithin a b (t * at) (t * k) →
    RisesWithin b c (t * (4 * n)) (4 * t) → (k : ℕ) × (k * n ≡ at + 4 * n) × RisesWithin a c (t * (at + 4 * n)) (t * k)
counted_quad a b c t n at h more =
    let before = h.2 in (
      h.0 + 4,
      omega (arith, h.1),
      record { multiplies_rise = omega (arith, before, more); turns_within = omega (arith, before, more) },
    )

-- a group of which each element took one product, in one turn
pub one_group : (b c : Counts) (n : ℕ) → Rises b c n 1 → RisesWithin b c (1 * n) 1
one_group b c n h = record { multiplies_rise = omega (arith, h); turns_within = omega (arith, h) }

-- two such groups, in two turns
pub two_groups : (b c : Counts) (n : ℕ) → Rises b c (2 * n) 2 → RisesWithin b c (1 * (2 * n)) (2 * 1)
two_groups b c n h = record { multiplies_rise = omega (arith, h); turns_within = omega (arith, h) }

pub one_product : (b c : Counts) → Rises b c 1 1 → Rises b c (1 * 1) 1
one_product b c h = record { multiplies_rise = omega (arith, h); turns_rise = omega (arith, h) }

pub counted_one : (a b c : Counts) (t start at m : ℕ) → start ≤ at → m ≡ at + 1 →
    Rises a b (t * (at - start)) (t * (at - start)) → Rises b c t t → Rises a c (t * (m - start)) (t * (m - start))
counted_one a b c t start at m started next before more =
    let step : m - start ≡ at - start + 1 = omega arith in
    let whole : t * (m - start) ≡ t * (at - start) + t = ap (λ j. t * j) step ∙ omega arith in
    record { multiplies_rise = omega (arith, before, more, whole); turns_rise = omega (arith, before, more, whole) }

-- the turns of a loop that has gone k times over groups of n and then over the rest
lane_turns_is : (n k at total : ℕ) → 0 < n → k * n ≡ at → at ≤ total → total < at + n →
    k + (total - at) ≡ lane_turns n total
lane_turns_is n k at total some done within left =
    let whole : total / n ≡ k = div-eq_of_lt-le n (omega arith) (omega arith) in
    let split : total ≡ n * (total / n) + total % n = omega arith in
    let same : n * (total / n) ≡ n * k = ap (λ q. n * q) whole in
    omega arith

pub counted_all : (a b c : Counts) (t n at last total : ℕ) → 0 < n → (k : ℕ) × (k * n ≡ at) ×
    RisesWithin a b (t * at) (t * k) → at ≤ total → total < at + n → last ≡ total
    → Rises b c (t * (last - at)) (t * (last - at)) → RisesWithin a c (t * total) (t * lane_turns n total)
counted_all a b c t n at last total some h within left end rest =
    let turns = ap (λ m. t * m) (lane_turns_is n h.0 at total some h.1 within left) in
    let done : last - at ≡ total - at = omega arith in
    let same = ap (λ m. t * m) done in
    let split : total ≡ at + (total - at) = omega arith in
    let parts = ap (λ m. t * m) split in
    let before = h.2 in
    record {
      multiplies_rise = omega (arith, before, rest, same, parts);
      turns_within =
          omega (arith, before, rest, same, turns);
    }
