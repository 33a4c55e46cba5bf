-- The LMS filters and the PID controllers.
use Rattle.std.specs.Prelude.{ℕ, ◌-◌, ℤ, pos, ◌+ℤ◌, ◌-ℤ◌, ◌*ℤ◌, neg_ℤ, List, [], ◌∷◌, map, length, reverse, get_or}
use Rattle.dsp_defs.specs.Numbers.{◌>>◌, saturate, wrap, w16, w32, w64}
use Rattle.dsp_defs.specs.Formats.{word, word_bits}
use Rattle.dsp_defs.specs.Signal.{sample, values, sum_below, outputs}
use Rattle.dsp_defs.specs.declared.format.Fmt.{Fmt}
use Rattle.dsp_defs.specs.declared.format.Fmt.TheVariants.{Q31}

-- what LMS gives of one sample, and the weights after it
pub record Adapted : Type 0 where
  pub output : ℤ
  pub error : ℤ
  pub weights : List ℤ

-- y = sat_16(wrap_32(s >> (15-p))), and wrap_32(wrap_64(s) >> (31-p)) in Q31
abbrev pub lms_close : Fmt → ℕ → ℤ → ℤ
lms_close Q31 p s = wrap w32 (wrap w64 s >> (31 - p))
lms_close format p s = saturate 16 (wrap w32 (s >> (15 - p)))

-- alpha = wrap_16(e*mu >> 15), wrap_32(e*mu >> 31)
abbrev pub step_size : Fmt → ℤ → ℤ → ℤ
step_size Q31 mu e = wrap w32 (e *ℤ mu >> 31)
step_size format mu e = wrap w16 (e *ℤ mu >> 15)

-- w(n+1) = sat_16(w + (alpha*x >> 15)), sat_32(w + wrap_32(2*(alpha*x >> 32)))
abbrev pub weight_after : Fmt → ℤ → ℤ → ℤ → ℤ
weight_after Q31 alpha w x = saturate 32 (w +ℤ wrap w32 (pos 2 *ℤ (alpha *ℤ x >> 32)))
weight_after format alpha w x = saturate 16 (w +ℤ (alpha *ℤ x >> 15))

-- from the weights w before sample n and the inputs x(n), x(n-1), ..: y = the sum of w_k*x(n-k), e = wrap_n(reference
-- - y)
abbrev pub adapted : Fmt → ℕ → ℤ → List ℤ → List ℤ → ℤ → Adapted
adapted format p mu w xs reference =
    let y = lms_close format p (sum_below (length w) (λ k. sample w k *ℤ sample xs k)) in
    let e = wrap (word format) (reference -ℤ y) in
    let alpha = step_size format mu e in
    record {
      output = y;
      error = e;
      weights = values (length w)
          (λ k. weight_after format alpha (sample w k) (sample xs k));
    }

-- the weights before sample n, from what was given before it
abbrev pub weights_before : List ℤ → List Adapted → List ℤ
weights_before first [] = first
weights_before first (a ∷ earlier) = a.weights

-- the newest sample's reference
abbrev pub reference_now : List (ℤ × ℤ) → ℤ
reference_now samples = (get_or samples 0 (pos 0, pos 0)).1

-- y of what was given
abbrev pub outputs_of : Adapted → ℤ
outputs_of a = a.output

-- and e
abbrev pub errors_of : Adapted → ℤ
errors_of a = a.error

-- what is given of sample n, from the samples up to it and what was given before
abbrev pub lms_output : Fmt → ℕ → ℤ → List ℤ → List (ℤ × ℤ) → List Adapted → Adapted
lms_output format p mu first samples earlier = adapted format p mu (weights_before first earlier)
    (map (λ (s : ℤ × ℤ). s.0) samples) (reference_now samples)

-- of pairs of an input and its reference; the taps stand from w_{T-1}(0) to w_0(0)
abbrev pub lms : Fmt → ℕ → ℤ → List ℤ → List (ℤ × ℤ) → List Adapted
lms format p mu taps x = outputs (lms_output format p mu (reverse taps)) x

-- the gains A0, A1 and A2
pub record Gains : Type 0 where
  pub a0 : ℤ
  pub a1 : ℤ
  pub a2 : ℤ

-- sat(kp+ki+kd), sat(-(2*kd+kp)), kd; in Q31 each sum is saturated, and wrap_32(-sat_32(sat_32(2*kd)+kp)) may wrap
abbrev pub pid_gains : Fmt → ℤ → ℤ → ℤ → Gains
pid_gains Q31 kp ki kd = record {
  a0 = saturate 32 (saturate 32 (kp +ℤ ki) +ℤ kd);
  a1 = wrap w32 (neg_ℤ (saturate 32 (saturate 32 (pos 2 *ℤ kd) +ℤ kp)));
  a2 = kd;
}
pid_gains format kp ki kd = record {
  a0 = saturate (word_bits format) (kp +ℤ ki +ℤ kd);
  a1 = saturate (word_bits format) (neg_ℤ (pos 2 *ℤ kd +ℤ kp));
  a2 = kd;
}

-- sat_16((s + y1*2^15) >> 15), and wrap_32((wrap_64(s) >> 31) + y1) in Q31
abbrev pub pid_close : Fmt → ℤ → ℤ → ℤ
pid_close Q31 s y1 = wrap w32 ((wrap w64 s >> 31) +ℤ y1)
pid_close format s y1 = saturate 16 (s +ℤ y1 *ℤ pos 32768 >> 15)

-- y from A0*x + A1*x1 + A2*x2 and y1
abbrev pub pid_output : Fmt → Gains → List ℤ → List ℤ → ℤ
pid_output format g xs ys = pid_close format (g.a0 *ℤ sample xs 0 +ℤ g.a1 *ℤ sample xs 1 +ℤ g.a2 *ℤ sample xs 2)
    (sample ys 0)

-- the controller of a whole signal
abbrev pub pid : Fmt → ℤ → ℤ → ℤ → List ℤ → List ℤ
pid format kp ki kd x = outputs (pid_output format (pid_gains format kp ki kd)) x
