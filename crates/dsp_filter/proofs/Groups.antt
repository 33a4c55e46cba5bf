-- Whole groups of samples, and the open group after them.
use Rattle.std.proofs.Common.{◌≡◌, ◌∙◌, ap, sym, ℕ, ◌+◌, ◌*◌, ◌/◌, ◌%◌, ◌<◌, ◌≤◌, arith, ⊎_elim}
use Rattle.std.specs.Int.{div_ceil}
use Rattle.std.proofs.lemmas.Bool.{cases_lt}
use Rattle.std.proofs.lemmas.Grind.{div_ceil_times}
use Rattle.std.proofs.lemmas.Nat.{div-mul-add, mod-mul-add, div-add-mod', div_below, mod_below}
use Rattle.dsp_unit.proofs.CostLaws.{quotient_more}

-- of n and m samples there are as many whole groups as of n, and those that the m samples and the open group make
pub groups-more : (n m p t : ℕ) → 0 < t → p ≡ n % t → n / t + (p + m) / t ≡ (n + m) / t
groups-more n m p t some phase =
    let q = n / t in
    let r = (p + m) / t in
    let s = (p + m) % t in
    let whole : n + m ≡ (q + r) * t + s = omega (arith, div-add-mod' n t, div-add-mod' (p + m) t) in
    sym (ap (λ k. k / t) whole ∙ div-mul-add (q + r) t s (mod_below (p + m) t some))

-- and the open group is what is left of both
pub open-more : (n m p t : ℕ) → 0 < t → p ≡ n % t → (p + m) % t ≡ (n + m) % t
open-more n m p t some phase =
    let q = n / t in
    let r = (p + m) / t in
    let s = (p + m) % t in
    let whole : n + m ≡ (q + r) * t + s = omega (arith, div-add-mod' n t, div-add-mod' (p + m) t) in
    sym (ap (λ k. k % t) whole ∙ mod-mul-add (q + r) t s (mod_below (p + m) t some))

-- an open group makes no more than a last group that is not whole
pub groups-within : (m p t : ℕ) → p < t → (p + m) / t ≤ div_ceil m t
groups-within m p t within =
    let some : 0 < t = omega arith in
    let covered : m ≤ div_ceil m t * t = (div_ceil_times m t some).0 in
    let below : p + m < (div_ceil m t + 1) * t = omega (arith, covered) in
    let groups : (p + m) / t < div_ceil m t + 1 = div_below (p + m) t (div_ceil m t + 1) some below in
    omega (arith, groups)

-- more samples make no fewer groups
pub ceil-more : (a b t : ℕ) → a ≤ b → div_ceil a t ≤ div_ceil b t
ceil-more a b t more =
    let quotients : a / t ≤ b / t = quotient_more a b t more in
    ⊎_elim
    (λ (fewer : a / t < b / t). omega arith)
    (λ (no_fewer : b / t ≤ a / t). let same : a / t ≡ b / t = omega arith in
    let rows : a / t * t ≡ b / t * t = ap (λ q. q * t) same in
    omega (arith, div-add-mod' a t, div-add-mod' b t, rows))
    (cases_lt (a / t) (b / t))
