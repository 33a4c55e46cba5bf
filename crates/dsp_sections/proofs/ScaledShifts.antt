-- A number times 2^p, shifted down.
use Rattle.std.proofs.Common.{◌≡◌, ◌∙◌, ap, sym, ℕ, ◌+◌, ◌-◌, ◌*◌, ◌<◌, ◌≤◌, ◌^◌, ℤ, pos, ◌+ℤ◌, ◌*ℤ◌, arith}
use Rattle.std.proofs.Math.Nat.{mul_comm}
use Rattle.std.proofs.lemmas.Nat.{pow-add, mul-add-lt}
use lib.IntN.{pos-*ℤ-pos}
use lib.Pow.{pow_pos}
use lib.Signed.{shr_z}
use Rattle.dsp_sections.proofs.FloorShifts.{times_times, sum_times, floor_is}
use Rattle.dsp_lanes.proofs.Fractions.{floored}

-- shifted down by n places, it is the number shifted down by p places fewer
pub shift_scaled : (s : ℤ) (p n : ℕ) → p ≤ n → shr_z (s *ℤ pos (2 ^ p)) (2 ^ n) ≡ shr_z s (2 ^ (n - p))
shift_scaled s p n few =
    let d = 2 ^ (n - p) in
    let e = 2 ^ p in
    let q = shr_z s d in
    let f = floored s d (pow_pos (n - p)) in
    let m = f.0 in
    let all : n - p + p ≡ n = omega (arith, few) in
    let both : d * e ≡ 2 ^ n = sym (pow-add 2 (n - p) p) ∙ ap (λ k. 2 ^ k) all in
    let spread : s *ℤ pos e ≡ q *ℤ pos (2 ^ n) +ℤ pos (m * e) =
    ap (λ v. v *ℤ pos e) f.2
    ∙ sum_times (q *ℤ pos d) (pos m) e
    ∙ (λ t. sym (times_times q d e) t +ℤ pos-*ℤ-pos m e t)
    ∙ ap (λ k. q *ℤ pos k +ℤ pos (m * e)) both in
    let below : m * e + 0 < e * d = mul-add-lt m e 0 d f.1 (pow_pos p) in
    let turned : e * d ≡ 2 ^ n = mul_comm e d ∙ both in
    let small : m * e < 2 ^ n = omega (arith, below, turned) in
    ap (λ v. shr_z v (2 ^ n)) spread ∙ floor_is q (m * e) (2 ^ n) small
