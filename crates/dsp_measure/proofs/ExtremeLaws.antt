-- Extremes of signals that go on.
use Rattle.std.proofs.Common.{◌≡◌, ◌∙◌, ap, refl, sym, ℕ, zero, suc, ◌+◌, ◌<◌, ℤ, pos, negsuc, List, [], ◌∷◌, ◌++◌, if◌then◌else◌}
use Rattle.std.proofs.Common.{length, arith, Bool, true, false, ◌||◌, int_lt, Option, Some, None, ◌≤ℤ◌}
use Rattle.std.proofs.Common.{◌<ℤ◌, replicate, rules, subst, append_assoc}
use Rattle.std.specs.Prelude.{FitsSigned}
use Rattle.std.proofs.lemmas.Bool.Decides.{nat_tests}
use Rattle.std.proofs.lemmas.List.{append-nil}
use Rattle.dsp_defs.specs.Formats.{word}
use Rattle.dsp_defs.specs.Measure.{better_of, maximum, minimum}
use Rattle.dsp_defs.specs.Signal.{sample}
use Rattle.dsp_defs.specs.declared.format.Fmt.{Fmt}
use Rattle.dsp_defs.specs.Kept.{Each, IsOfKind, extreme_kept, extreme_kinds}
use Rattle.dsp_measure.specs.Extremes.{wins, extreme, better_behind, ExtremeState, extreme_of, IsFew, IsFound}
use Rattle.dsp_measure.specs.Extremes.{KeepsExtreme}

-- ---- which wins

less-on : (a b c : ℤ) → int_lt a b ≡ true → int_lt b c ≡ true → int_lt a c ≡ true
less-on (pos a) (pos b) (pos c) h k = grind (arith, nat_tests)
less-on (pos a) (pos b) (negsuc c) h k = cc
less-on (pos a) (negsuc b) c h k = cc
less-on (negsuc a) (pos b) (pos c) h k = refl
less-on (negsuc a) (pos b) (negsuc c) h k = cc
less-on (negsuc a) (negsuc b) (pos c) h k = refl
less-on (negsuc a) (negsuc b) (negsuc c) h k = grind (arith, nat_tests)

not-less-on : (a b c : ℤ) → int_lt a b ≡ false → int_lt b c ≡ false → int_lt a c ≡ false
not-less-on (pos a) (pos b) (pos c) h k = grind (arith, nat_tests)
not-less-on (pos a) (pos b) (negsuc c) h k = refl
not-less-on (pos a) (negsuc b) (pos c) h k = cc
not-less-on (pos a) (negsuc b) (negsuc c) h k = refl
not-less-on (negsuc a) (pos b) c h k = cc
not-less-on (negsuc a) (negsuc b) (pos c) h k = cc
not-less-on (negsuc a) (negsuc b) (negsuc c) h k = grind (arith, nat_tests)

wins-on : (least : Bool) (a b c : ℤ) → wins least a b ≡ true → wins least b c ≡ true → wins least a c ≡ true
wins-on true a b c h k = less-on a b c h k
wins-on false a b c h k = less-on c b a k h

loses-on : (least : Bool) (a b c : ℤ) → wins least a b ≡ false → wins least b c ≡ false → wins least a c ≡ false
loses-on true a b c h k = not-less-on a b c h k
loses-on false a b c h k = not-less-on c b a k h

-- ---- one sample behind

-- a sample in front and one behind, in either order
both-ends : (least : Bool) (x v : ℤ) (best : ℤ × ℕ) (n : ℕ) (vb bx vx : Bool) → wins least v best.0 ≡ vb →
    wins least best.0 x ≡ bx → wins least v x ≡ vx →
    better_of (wins least) x (Some (better_behind least (Some best) v n)) ≡ better_behind least
    (Some (better_of (wins least) x (Some best))) v (n + 1)
both-ends least x v best n true true true e f g = rw (e, f, g, e) refl
both-ends least x v best n true true false e f g = (let h : wins least v x ≡ true = wins-on least v best.0 x e f in cc)
both-ends least x v best n true false vx e f g = rw (e, f) refl
both-ends least x v best n false true vx e f g = rw (e, f, e) refl
both-ends least x v best n false false true e f g = (let h : wins least v x ≡ false = loses-on least v best.0 x e f in
    cc)
both-ends least x v best n false false false e f g = rw (e, f, g) refl

-- only of nothing is nothing found
none-found : (least : Bool) (xs : List ℤ) → extreme least xs ≡ None → length xs ≡ 0
none-found least [] e = refl
none-found least (x ∷ xs) e = cc

pub extreme-more : (least : Bool) (x : List ℤ) (v : ℤ) →
    extreme least (x ++ (v ∷ [])) ≡ Some (better_behind least (extreme least x) v (length x))
extreme-more least [] v = refl
extreme-more least (x ∷ xs) v = ap (λ b. Some (better_of (wins least) x b)) (extreme-more least xs v) ∙
    ap Some (by (extreme least xs) refl)
  where
    by : (found : Option (ℤ × ℕ)) → extreme least xs ≡ found →
        better_of (wins least) x (Some (better_behind least found v (length xs))) ≡ better_behind least
        (Some (better_of (wins least) x found)) v (suc (length xs))
    by None e = ap (λ k. better_of (wins least) x (Some (v, k))) (none-found least xs e) ∙
        ap (λ (k : ℕ). if wins least v x then (v, suc k) else (x, 0)) (sym (none-found least xs e))
    by (Some best) e = both-ends least x v best (length xs) (wins least v best.0) (wins least best.0 x)
        (wins least v x) refl refl refl ∙ ap (λ k. better_behind least (Some (better_of (wins least) x (Some best))) v
        k) (let next : length xs + 1 ≡ suc (length xs) = omega arith in next)

-- neither of two
pub neither : (a b : Bool) → (a || b) ≡ false → (a ≡ false) × (b ≡ false)
neither true b e = (let never : true ≡ false = e in (cc, cc))
neither false b e = (refl, e)

-- where none of further samples wins, the best one stays
pub extreme-kept : (least : Bool) (x y : List ℤ) (best : ℤ × ℕ) → extreme least x ≡ Some best →
    ((n : ℕ) → n < length y → wins least (sample y n) best.0 ≡ false) → extreme least (x ++ y) ≡ Some best
extreme-kept least x [] best is none = ap (extreme least) (append-nil x) ∙ is
extreme-kept least x (v ∷ y) best is none =
    let here : extreme least (x ++ (v ∷ [])) ≡ Some best =
    extreme-more least x v ∙ ap (λ found. Some (better_behind least found v (length x))) is ∙
    ap (λ won. Some (if won then (v, length x) else best)) (none 0 (omega arith)) in
    ap (extreme least) (sym (append_assoc x (v ∷ []) y)) ∙
    extreme-kept least (x ++ (v ∷ [])) y best here (λ n below. none (suc n) (omega (arith, below)))

-- what is found stays a number of the format, with an index below the count
pub found-more : (format : Fmt) (least : Bool) (found : Option (ℤ × ℕ)) (count m : ℕ) (v : ℤ) → m ≡ count + 1 →
    IsFound format found count → FitsSigned (word format) v →
    IsFound format (Some (better_behind least found v count)) m
found-more format least None count m v next is fits = (fits, omega (arith, next))
found-more format least (Some best) count m v next is fits = by (wins least v best.0)
  where
    by : (won : Bool) → IsFound format (Some (if won then (v, count) else best)) m
    by true = (fits, omega (arith, next))
    by false = (is.0, omega (arith, is.1, next))

-- ---- the definitions by either order

pub extreme-maximum : (x : List ℤ) → extreme false x ≡ maximum x
extreme-maximum [] = refl
extreme-maximum (x ∷ xs) = ap (λ b. Some (better_of (wins false) x b)) (extreme-maximum xs)

pub extreme-minimum : (x : List ℤ) → extreme true x ≡ minimum x
extreme-minimum [] = refl
extreme-minimum (x ∷ xs) = ap (λ b. Some (better_of (wins true) x b)) (extreme-minimum xs)

-- ---- numbers

pub four-numbers : (xs : List ℤ) → length xs ≡ 4 → xs ≡ sample xs 0 ∷ sample xs 1 ∷ sample xs 2 ∷ sample xs 3 ∷ []
four-numbers [] e = absurd (omega (arith, e))
four-numbers (a ∷ []) e = absurd (omega (arith, e))
four-numbers (a ∷ b ∷ []) e = absurd (omega (arith, e))
four-numbers (a ∷ b ∷ c ∷ []) e = absurd (omega (arith, e))
four-numbers (a ∷ b ∷ c ∷ d ∷ []) e = refl
four-numbers (a ∷ b ∷ c ∷ d ∷ f ∷ xs) e = absurd (omega (arith, e))

-- what an extreme keeps
pub keeps-found : (format : Fmt) (found : Option (ℤ × ℕ)) (count : ℕ) → IsFew count → IsFound format found count →
    KeepsExtreme format count (extreme_kept found count)
keeps-found format None zero few is = (few, (refl, (refl, (refl, (refl, tt)))))
keeps-found format None (suc n) few is = absurd (omega (arith, is))
keeps-found format (Some best) zero few is = absurd (omega (arith, is.1))
keeps-found format (Some best) (suc n) few is = (
  few,
  (refl, (is.0, ((not-negative best.1, below best.1 n is.1), (refl, tt)))),
)
  where
    not-negative : (k : ℕ) → pos 0 ≤ℤ pos k
    not-negative k = search (rules, arith)

    below : (k m : ℕ) → k < suc m → pos k <ℤ pos (suc m)
    below k m h = search (rules, arith)

-- what is kept of a signal is the state of it
pub same-state : (format : Fmt) (least : Bool) (s : ExtremeState) (n : ℕ) (x numbers : List ℤ) →
    Each IsOfKind (extreme_kinds format n) numbers → s.count ≡ n → numbers ≡ extreme_kept s.found s.count →
    numbers ≡ extreme_kept (extreme least x) (length x) → s ≡ extreme_of least x
same-state format least s n x numbers kinds counted state signal = by s.found (extreme least x) refl refl
  where
    joined : (found : Option (ℤ × ℕ)) → s.found ≡ found → extreme least x ≡ found → s.count ≡ length x →
        s ≡ extreme_of least x
    joined found e f k = λ i. record { found = (e ∙ sym f) i; count = k i }

    zeros : (m : ℕ) → Each IsOfKind (extreme_kinds format m) (replicate 4 (pos 0)) → m ≡ 0
    zeros zero h = refl
    zeros (suc m) h = (let e : pos 0 ≡ pos 1 = h.0 in cc)

    by : (f g : Option (ℤ × ℕ)) → s.found ≡ f → extreme least x ≡ g → s ≡ extreme_of least x
    by None None e h =
        let none : numbers ≡ replicate 4 (pos 0) = state ∙ ap (λ k. extreme_kept k s.count) e in
        joined None e h (counted ∙ zeros n (subst (Each IsOfKind (extreme_kinds format n)) none kinds) ∙
        sym (none-found least x h))
    by None (Some b) e h = (let both : extreme_kept None s.count ≡ extreme_kept (Some b) (length x) =
        ap (λ k. extreme_kept k s.count) (sym e) ∙ sym state ∙ signal ∙ ap (λ k. extreme_kept k (length x)) h in cc)
    by (Some a) None e h = (let both : extreme_kept (Some a) s.count ≡ extreme_kept None (length x) =
        ap (λ k. extreme_kept k s.count) (sym e) ∙ sym state ∙ signal ∙ ap (λ k. extreme_kept k (length x)) h in cc)
    by (Some a) (Some b) e h =
        let both : extreme_kept (Some a) s.count ≡ extreme_kept (Some b) (length x) =
        ap (λ k. extreme_kept k s.count) (sym e) ∙ sym state ∙ signal ∙ ap (λ k. extreme_kept k (length x)) h in
        let value : a.0 ≡ b.0 = cc in
        let index : a.1 ≡ b.1 = cc in
        let count : s.count ≡ length x = cc in
        let same : a ≡ b = λ i. (value i, index i) in
        joined (Some b) (e ∙ ap Some same) h count
