-- The generated input: a linear congruential sequence, and its samples.
use Rattle.std.specs.Prelude.{ℕ, zero, suc, ◌+◌, ◌*◌, ◌%◌, ◌^◌, ℤ, pos, List, ◌++◌, Some}
use Rattle.dsp_defs.specs.Numbers.{◌>>◌, wrap, w8, w16, w32}
use Rattle.dsp_defs.specs.Signal.{values}
use Rattle.dsp_defs.specs.Block.{Frame}
use Rattle.dsp_defs.specs.Bytes.{coding_of, coded}
use Rattle.dsp_defs.specs.Wave.{wave_header, pad}
use Rattle.dsp_defs.specs.declared.limits.TheConstants.{GENERATED_RATE}
use Rattle.dsp_defs.specs.declared.format.Container.TheVariants as Containers
use Rattle.dsp_defs.specs.declared.format.InputKind.TheVariants.{Wave, Raw}
use Rattle.dsp_defs.specs.declared.format.Input.{Input}
use Rattle.dsp_defs.specs.declared.format.Fmt.{Fmt}
use Rattle.dsp_defs.specs.declared.format.Fmt.TheVariants.{Q7, Q15, Q31}

-- the state after n samples: s = (1664525*s + 1013904223) mod 2^32
abbrev pub generator_state : ℕ → ℕ → ℕ
generator_state seed zero = seed
generator_state seed (suc n) = (1664525 * generator_state seed n + 1013904223) % 2 ^ 32

-- wrap_8(s >> 24), wrap_16(s >> 16), wrap_32(s)
abbrev pub state_sample : Fmt → ℕ → ℤ
state_sample Q7 s = wrap w8 (pos s >> 24)
state_sample Q15 s = wrap w16 (pos s >> 16)
state_sample Q31 s = wrap w32 (pos s)

-- the samples in the order of the file
abbrev pub generated : Fmt → ℕ → ℕ → ℕ → List Frame
generated format channels seed frames =
    values frames (λ n. values channels (λ c. state_sample format (generator_state seed (suc (n * channels + c)))))

-- the bytes of the generated input; a WAVE file says the rate 48,000 and its length
abbrev pub generated_bytes : Input → ℕ → ℕ → List ℕ
generated_bytes input seed frames =
    let signal = generated input.format input.channels seed frames in
    elim input.kind [
      | Raw rate ↦ coded (coding_of Containers.Raw input.format) signal
      | Wave ↦ wave_header Containers.Wave input.format input.channels GENERATED_RATE (Some frames)
          ++ coded (coding_of Containers.Wave input.format) signal ++ pad input.format input.channels (Some frames)
    ]
