-- The delays of a sparse filter, its faults, and what it gives.
use Rattle.std.specs.Prelude.{ℕ, ◌-◌, ◌+◌, ℤ, pos, List, length, fold, max, find, get_or, Option, Some, nat_le}
use Rattle.std.specs.Prelude.{nat_lt, nat_eq, ◌&&◌, if◌then◌else◌}
use Rattle.std.specs.Option.{option_map, option_or}
use Rattle.dsp_defs.specs.Signal.{sample, values, sum_below}
use Rattle.dsp_defs.specs.Sums.{sparse_term, sparse_close}
use Rattle.dsp_filter.specs.Making.{block_fault}
use Rattle.dsp_defs.specs.declared.format.Fmt.{Fmt}
use Rattle.dsp_defs.specs.declared.limits.TheConstants.{MAX_DELAY, MAX_TAPS}
use Rattle.dsp_defs.specs.declared.fault.MakeFault.{MakeFault}
use Rattle.dsp_defs.specs.declared.fault.MakeFault.TheVariants.{Length, Range}

-- how far back the filter reads
abbrev pub greatest_delay : List ℕ → ℕ
greatest_delay delays = fold max 0 delays

-- ---- faults

-- the first delay that is too great
abbrev pub delays_fault : List ℕ → Option MakeFault
delays_fault delays = option_map (λ d. Range (pos d)) (find (λ d. nat_lt MAX_DELAY d) delays)

-- the first fault of so many taps, such delays and such a block
abbrev pub sparse_fault : ℕ → List ℕ → ℕ → Option MakeFault
sparse_fault taps delays block =
    if nat_le 2 taps && nat_le taps MAX_TAPS
    then (if nat_eq (length delays) taps then option_or (delays_fault delays) (block_fault block) else
    Some (Length (length delays) taps))
    else Some (Length taps 2)

-- ---- values

-- the sum over k < count of taps[k] * window[i + past - delays[k]]
abbrev pub delayed_sum : Fmt → List ℤ → List ℕ → ℕ → List ℤ → ℕ → ℕ → ℤ
delayed_sum format taps delays past window count i =
    sum_below count (λ k. sparse_term format (sample taps k) (sample window (i + (past - get_or delays k 0))))

-- the outputs over a window of the past and the block
abbrev pub sparse_rows : Fmt → List ℤ → List ℕ → ℕ → List ℤ → ℕ → List ℤ
sparse_rows format taps delays past window n = values n
    (λ i. sparse_close format (delayed_sum format taps delays past window (length taps) i))
