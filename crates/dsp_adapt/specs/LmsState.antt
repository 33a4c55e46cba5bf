-- What a contract sees of an LMS filter.
use Rattle.std.specs.Prelude.{ℕ, ◌-◌, ◌≡◌, ℤ, pos, List, ◌++◌, length, map, reverse, replicate, Option, Some, None}
use Rattle.std.specs.Prelude.{nat_le, if◌then◌else◌}
use Rattle.std.specs.Option.{option_or}
use Rattle.dsp_defs.specs.Adaptive.{lms, weights_before, outputs_of, errors_of}
use Rattle.dsp_defs.specs.Signal.{sample, values}
use Rattle.dsp_defs.specs.Streaming.{last_of}
use Rattle.dsp_filter.specs.Making.{block_fault, taps_fault}
use Rattle.dsp_defs.specs.declared.format.Fmt.{Fmt}
use Rattle.dsp_defs.specs.declared.fault.MakeFault.{MakeFault}
use Rattle.dsp_defs.specs.declared.fault.MakeFault.TheVariants.{Range}

-- its post shift, mu, its first weights as they were given, its weights in the same order, the last inputs,
-- and the greatest length of a block
pub record LmsState : Type 0 where
  pub post_shift : ℕ
  pub mu : ℤ
  pub taps : List ℤ
  pub weights : List ℤ
  pub past : List ℤ
  pub block : ℕ

-- a filter that has taken nothing
abbrev pub new_lms : ℕ → ℤ → List ℤ → ℕ → LmsState
new_lms post_shift mu taps block = record {
  post_shift = post_shift;
  mu = mu;
  taps = taps;
  weights = taps;
  past = replicate (length taps - 1) (pos 0);
  block = block;
}

-- the kept numbers: the last inputs, the oldest first, and then w_0, .., w_{T-1}
abbrev pub kept : LmsState → List ℤ
kept s = s.past ++ reverse s.weights

-- ---- signals

-- the first n inputs, each with its reference
abbrev pub first_pairs : ℕ → List ℤ → List ℤ → List (ℤ × ℤ)
first_pairs n inputs references = values n (λ i. (sample inputs i, sample references i))

-- the inputs, each with its reference
abbrev pub pairs : List ℤ → List ℤ → List (ℤ × ℤ)
pairs inputs references = first_pairs (length inputs) inputs references

-- the inputs of pairs
abbrev pub inputs_of : List (ℤ × ℤ) → List ℤ
inputs_of x = map (λ (s : ℤ × ℤ). s.0) x

-- the weights after a signal x, from w_{T-1} to w_0
abbrev pub weights_after : Fmt → ℕ → ℤ → List ℤ → List (ℤ × ℤ) → List ℤ
weights_after format p mu taps x = reverse (weights_before (reverse taps) (reverse (lms format p mu taps x)))

-- the outputs of a signal of pairs
abbrev pub lms_outputs : Fmt → LmsState → List (ℤ × ℤ) → List ℤ
lms_outputs format s x = map outputs_of (lms format s.post_shift s.mu s.taps x)

-- and its errors
abbrev pub lms_errors : Fmt → LmsState → List (ℤ × ℤ) → List ℤ
lms_errors format s x = map errors_of (lms format s.post_shift s.mu s.taps x)

-- the filter has taken the signal x: it keeps the last T-1 inputs, with zeros before, and the weights after it
pub record StandsFor (format : Fmt) (s : LmsState) (x : List (ℤ × ℤ)) : Type 0 where
  pub past_is : s.past ≡ last_of (length s.taps - 1) (inputs_of x)
  pub weights_are : s.weights ≡ weights_after format s.post_shift s.mu s.taps x

-- after x the filter took more, gave these outputs and errors, and has these weights
pub record Adapts (format : Fmt) (p : ℕ) (mu : ℤ) (taps : List ℤ) (x more : List (ℤ × ℤ))
    (weights outputs errors : List ℤ) : Type 0 where
  pub weights_are : weights ≡ weights_after format p mu taps (x ++ more)
  pub outputs_are : map outputs_of (lms format p mu taps (x ++ more)) ≡ map outputs_of (lms format p mu taps x) ++
      outputs
  pub errors_are : map errors_of (lms format p mu taps (x ++ more)) ≡ map errors_of (lms format p mu taps x) ++ errors

-- ---- faults

-- the fault of such a post shift
abbrev pub shift_fault : ℕ → ℕ → Option MakeFault
shift_fault greatest post_shift = if nat_le post_shift greatest then None else Some (Range (pos post_shift))

-- the first fault of so many taps, such a post shift and such a block
abbrev pub lms_fault : ℕ → ℕ → ℕ → ℕ → Option MakeFault
lms_fault greatest post_shift taps block = option_or (taps_fault taps)
    (option_or (shift_fault greatest post_shift) (block_fault block))
