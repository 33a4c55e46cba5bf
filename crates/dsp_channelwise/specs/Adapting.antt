-- What an adaptive filter takes and gives, as the definitions have it.
use Rattle.std.specs.Prelude.{ℤ, List, length}
use Rattle.dsp_defs.specs.Signal.{sample, values}
use Rattle.dsp_defs.specs.Adaptive as adaptive
use Rattle.dsp_channelwise.specs.declared.adapting.Adapted.{Adapted}

-- each input with its reference
abbrev pub pairs_of : List ℤ → List ℤ → List (ℤ × ℤ)
pairs_of x reference = values (length x) (λ n. (sample x n, sample reference n))

-- what is given of one sample, and the weights after it
abbrev pub adapted_of : Adapted → adaptive.Adapted
adapted_of a = record { output = a.output; error = a.error; weights = a.weights.items }
