use Rattle.std.proofs.Common.{ℕ, ◌<◌, ◌+◌, ◌*◌, slice_range}
use Rattle.dsp_lanes.specs.Narrow.{IsNarrow}
use Rattle.dsp_matrix.proofs.paired_products.are_narrow.Given as goal

-- the columns so far are narrow
abbrev pub invariant-loop-l : goal.invariant-loop-l
invariant-loop-l l = (k : ℕ) → k < l.l → IsNarrow (slice_range l.turned (k * l.columns) (k * l.columns + l.columns))
