use Rattle.std.proofs.Common.{ℕ, ◌<◌}
use Rattle.dsp_unit.specs.Channels.{numbers_in}
use Rattle.dsp_defs.specs.Kept.{FitsChannel}
use Rattle.dsp_measure.specs.Measures.{block_of, size_of}
use Rattle.dsp_measure.proofs.places.place_each.Given as goal

-- the numbers of the measures so far are of the first one's count
abbrev pub invariant-loop-part : goal.invariant-loop-part
invariant-loop-part g l = (p : ℕ) → p < l.part → FitsChannel g.T.Sample.format (block_of l.measure) l.place
    (numbers_in (size_of l.measure) l.numbers p)
