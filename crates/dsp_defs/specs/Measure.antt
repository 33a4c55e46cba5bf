-- The measures of a whole signal, and those of a chain.
use Rattle.std.specs.Prelude.{ℕ, ◌+◌, ℤ, ◌+ℤ◌, ◌-ℤ◌, ◌*ℤ◌, List, [], ◌∷◌, ◌++◌, length, Option, Some, None, Bool}
use Rattle.std.specs.Prelude.{int_lt, if◌then◌else◌}
use Rattle.dsp_defs.specs.Numbers.{◌>>◌, wrap, w32}
use Rattle.dsp_defs.specs.Formats.{accumulator}
use Rattle.dsp_defs.specs.Signal.{sample, values, sum_below}
use Rattle.dsp_defs.specs.Block.{Frame, channel, whole, format_after, channels_after}
use Rattle.dsp_defs.specs.declared.format.Fmt.{Fmt}
use Rattle.dsp_defs.specs.declared.format.Fmt.TheVariants.{Q7, Q15, Q31}
use Rattle.dsp_defs.specs.declared.measure.Measure.{Measure}
use Rattle.dsp_defs.specs.declared.measure.Measure.TheVariants as Measures
use Rattle.dsp_defs.specs.declared.script.Block.{Block}
use Rattle.dsp_defs.specs.declared.script.Block.TheVariants.{Power, Dot, CmplxDot, Max, Min}

-- one product of a measure; in Q31 each is shifted first
abbrev pub measured_product : Fmt → ℤ → ℤ → ℤ
measured_product Q7 a b = a *ℤ b
measured_product Q15 a b = a *ℤ b
measured_product Q31 a b = a *ℤ b >> 14

-- the sum of the products, wrapped to the accumulator
abbrev pub dot : Fmt → List ℤ → List ℤ → ℤ
dot format a b = wrap (accumulator format) (sum_below (length a)
    (λ n. measured_product format (sample a n) (sample b n)))

-- the sum of the squares
abbrev pub power : Fmt → List ℤ → ℤ
power format x = dot format x x

-- the two sums of a*c - b*d and of a*d + b*c, as they are kept
abbrev pub cmplx_dot_sums : Fmt → List ℤ → List ℤ → List ℤ → List ℤ → ℤ × ℤ
cmplx_dot_sums format a b c d =
    let p : ℤ → ℤ → ℤ = measured_product format in (
      wrap (accumulator format) (sum_below (length a) (λ n. p (sample a n) (sample c n) -ℤ p (sample b n)
          (sample d n))),
      wrap (accumulator format) (sum_below (length a) (λ n. p (sample a n) (sample d n) +ℤ p (sample b n)
          (sample c n))),
    )

-- a kept sum as a result: wrap_32(sum >> 6) in Q15
abbrev pub cmplx_dot_close : Fmt → ℤ → ℤ
cmplx_dot_close Q15 s = wrap w32 (s >> 6)
cmplx_dot_close _ s = s

-- both sums as results
abbrev pub cmplx_dot : Fmt → List ℤ → List ℤ → List ℤ → List ℤ → ℤ × ℤ
cmplx_dot format a b c d =
    let sums = cmplx_dot_sums format a b c d in
    (cmplx_dot_close format sums.0, cmplx_dot_close format sums.1)

-- a sample in front of a best one at its place
abbrev pub better_of : (ℤ → ℤ → Bool) → ℤ → Option (ℤ × ℕ) → ℤ × ℕ
better_of beats x None = (x, 0)
better_of beats x (Some best) = if beats best.0 x then (best.0, best.1 + 1) else (x, 0)

-- the greatest value and the first index at which it stands
abbrev pub maximum : List ℤ → Option (ℤ × ℕ)
maximum [] = None
maximum (x ∷ xs) = Some (better_of (λ a b. int_lt b a) x (maximum xs))

-- the least value and the first index at which it stands
abbrev pub minimum : List ℤ → Option (ℤ × ℕ)
minimum [] = None
minimum (x ∷ xs) = Some (better_of (λ a b. int_lt a b) x (minimum xs))

-- ---- the measures of a chain

-- the measures of one block, by channel; `number` is its place in the script
abbrev pub block_measures : Fmt → ℕ → ℕ → Block → List Frame → List Measure
block_measures format channels number Power x = values channels
    (λ c. Measures.Power number c (power format (channel c x)))
block_measures format channels number Dot x = Measures.Dot number (dot format (channel 0 x) (channel 1 x)) ∷ []
block_measures format channels number CmplxDot x =
    let sums = cmplx_dot format (channel 0 x) (channel 1 x) (channel 2 x) (channel 3 x) in
    Measures.CmplxDot number sums.0 sums.1 ∷ []
block_measures format channels number Max x = values channels (λ c. Measures.Max number c (maximum (channel c x)))
block_measures format channels number Min x = values channels (λ c. Measures.Min number c (minimum (channel c x)))
block_measures format channels number block x = []

-- the measures of a chain whose first block has this number, each of the whole signal at its place
abbrev pub measures : Fmt → ℕ → ℕ → List Block → List Frame → List Measure
measures format channels number [] x = []
measures format channels number (block ∷ blocks) x =
    block_measures format channels number block x
    ++ measures (format_after format block) (channels_after channels block) (number + 1) blocks
    (whole format channels block x)
