-- The gains of a controller.
use Rattle.std.proofs.Common.{◌≡◌, ◌≢◌, ◌∙◌, ap, refl, ℤ, pos, ◌+ℤ◌, ◌-ℤ◌, arith}
use Rattle.std.specs.Prelude.{neg_ℤ}
use Rattle.std.specs.Int.{w32}
use Rattle.std.proofs.Math.IntN.{+ℤ_idl}
use Rattle.std.proofs.lemmas.Int.{ints}
use Rattle.dsp_defs.specs.Numbers.{saturate, wrap}
use Rattle.dsp_defs.specs.Formats.{word_bits}
use Rattle.dsp_defs.specs.Adaptive.{pid_gains}
use Rattle.dsp_defs.specs.declared.format.Fmt.{Fmt}
use Rattle.dsp_defs.specs.declared.format.Fmt.TheVariants.{Q7, Q15, Q31}
use Rattle.dsp_exact.proofs.Exact.{exact}
use Rattle.dsp_channelwise.proofs.FewTerms.{twice}

-- the code's negative
pub less-is : (z : ℤ) → pos 0 -ℤ z ≡ neg_ℤ z
less-is z = omega (arith, ints)

pub ruleset controls = (exact, less-is, +ℤ_idl)

-- in Q31 step by step
pub gains-in-Q31 : (f : Fmt) (kp ki kd a0 a1 a2 : ℤ) → f ≡ Q31
    → a0 ≡ saturate (word_bits f) (saturate (word_bits f) (kp +ℤ ki) +ℤ kd)
    → a1 ≡ wrap w32 (neg_ℤ (saturate (word_bits f) (saturate (word_bits f) (kd +ℤ kd) +ℤ kp))) → a2 ≡ kd
    → record { a0 = a0; a1 = a1; a2 = a2 } ≡ pid_gains f kp ki kd
gains-in-Q31 Q31 kp ki kd a0 a1 a2 is first second third =
    let negative = second ∙ ap (λ v. wrap w32 (neg_ℤ (saturate 32 (saturate 32 v +ℤ kp)))) (twice kd) in
    λ i. record { a0 = first i; a1 = negative i; a2 = third i }
gains-in-Q31 f kp ki kd a0 a1 a2 is first second third = absurd (cc)

-- and else in one sum
pub gains-else : (f : Fmt) (kp ki kd a0 a1 a2 : ℤ) → f ≢ Q31 → a0 ≡ saturate (word_bits f) (kp +ℤ ki +ℤ kd)
    → a1 ≡ saturate (word_bits f) (neg_ℤ (kd +ℤ kd +ℤ kp)) → a2 ≡ kd
    → record { a0 = a0; a1 = a1; a2 = a2 } ≡ pid_gains f kp ki kd
gains-else Q7 kp ki kd a0 a1 a2 not first second third =
    let negative = second ∙ ap (λ v. saturate 8 (neg_ℤ (v +ℤ kp))) (twice kd) in
    λ i. record { a0 = first i; a1 = negative i; a2 = third i }
gains-else Q15 kp ki kd a0 a1 a2 not first second third =
    let negative = second ∙ ap (λ v. saturate 16 (neg_ℤ (v +ℤ kp))) (twice kd) in
    λ i. record { a0 = first i; a1 = negative i; a2 = third i }
gains-else Q31 kp ki kd a0 a1 a2 not first second third = absurd (not refl)
