-- Lattice filters, recursions on n and on the section m.
use Rattle.std.specs.Prelude.{ℤ, pos, ◌+ℤ◌, ◌-ℤ◌, ◌*ℤ◌, List, [], ◌∷◌, map, length, get_or, drop, fold}
use Rattle.dsp_defs.specs.Numbers.{◌>>◌, saturate, wrap, w32, w64}
use Rattle.dsp_defs.specs.Formats.{word_bits}
use Rattle.dsp_defs.specs.Signal.{sample, sum_below, outputs}
use Rattle.dsp_defs.specs.declared.format.Fmt.{Fmt}
use Rattle.dsp_defs.specs.declared.format.Fmt.TheVariants.{Q31}

-- f_m(n) = sat_16((k_m*g_{m-1}(n-1) >> 15) + f_{m-1}(n)) and g_m(n) = sat_16((k_m*f_{m-1}(n) >> 15) + g_{m-1}(n-1)),
-- as a pair
abbrev pub lattice_output : ℤ → List (ℤ × ℤ) → List (ℤ × ℤ) → ℤ × ℤ
lattice_output k before earlier =
    let f = (get_or before 0 (pos 0, pos 0)).0 in
    let g = (get_or before 1 (pos 0, pos 0)).1 in
    (saturate 16 ((k *ℤ g >> 15) +ℤ f), saturate 16 ((k *ℤ f >> 15) +ℤ g))

-- one section of a whole signal of pairs
abbrev pub lattice_section : List (ℤ × ℤ) → ℤ → List (ℤ × ℤ)
lattice_section before k = outputs (lattice_output k) before

-- y = f_S: the sections k_1 to k_S one after another, from f_0(n) = g_0(n) = x(n)
abbrev pub lattice_fir : List ℤ → List ℤ → List ℤ
lattice_fir ks x = map (λ (w : ℤ × ℤ). w.0) (fold lattice_section (map (λ a. (a, a)) x) ks)

-- k*g >> 15, and wrap_32(k*g >> 31) in Q31
abbrev pub reflected : Fmt → ℤ → ℤ → ℤ
reflected Q31 k g = wrap w32 (k *ℤ g >> 31)
reflected format k g = k *ℤ g >> 15

-- g_S(n), .., g_0(n) from f_S(n), k_S .. k_1 and g_{S-1}(n-1), .., g_0(n-1): f_{m-1} = sat(f_m - k_m*g_{m-1}(n-1)),
-- g_m = sat(k_m*f_{m-1} + g_{m-1}(n-1)), g_0 = f_0
abbrev pub backward_values : Fmt → ℤ → List ℤ → List ℤ → List ℤ
backward_values format f [] before = f ∷ []
backward_values format f (k ∷ ks) before =
    let g = sample before 0 in
    let lower = saturate (word_bits format) (f -ℤ reflected format k g) in
    saturate (word_bits format) (reflected format k lower +ℤ g) ∷ backward_values format lower ks (drop 1 before)

-- sat_16(s >> 15), and wrap_32(wrap_64(s) >> 31) in Q31
abbrev pub ladder_close : Fmt → ℤ → ℤ
ladder_close Q31 s = wrap w32 (wrap w64 s >> 31)
ladder_close format s = saturate 16 (s >> 15)

-- the sum of v_m * g_m, m from S to 0
abbrev pub ladder_sum : List ℤ → List ℤ → ℤ
ladder_sum v g = sum_below (length v) (λ m. sample v m *ℤ sample g m)

-- g_S(n), .., g_0(n) of a signal x = f_S, from the lists before
abbrev pub ladder_output : Fmt → List ℤ → List ℤ → List (List ℤ) → List ℤ
ladder_output format k xs gs = backward_values format (sample xs 0) k (drop 1 (get_or gs 0 []))

-- y(n), the ladder sum as a sample; k stands from k_S to k_1, v from v_S to v_0
abbrev pub lattice_iir : Fmt → List ℤ → List ℤ → List ℤ → List ℤ
lattice_iir format k v x = map (λ g. ladder_close format (ladder_sum v g)) (outputs (ladder_output format k) x)
