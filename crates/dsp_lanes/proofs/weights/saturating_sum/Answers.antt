use Rattle.std.proofs.Common.{◌+ℤ◌, ◌∙◌, arith, w32}
use lib.Lanes.{zip2}
use Rattle.std.specs.Int.{saturate_to_bits}
use Rattle.dsp_lanes.proofs.LaneOps.{ints_of_bits}
use Rattle.dsp_lanes.proofs.WordViews.{read_fit, read_long}
use Rattle.dsp_lanes.proofs.weights.saturating_sum.Goals as goal

pub saturating_lanes-requires : goal.saturating_lanes-requires
saturating_lanes-requires c = (
  omega arith,
  (
    read_fit w32 c.args.values c.requires.values,
    (read_fit w32 c.args.changes c.requires.changes, read_long w32 4 c.args.values c.requires.long),
  ),
)

pub returns-clause-sums : goal.returns-clause-sums
returns-clause-sums c =
    ints_of_bits w32 c.saturating_lanes.result c.saturating_lanes.ensures.fit
    ∙ c.saturating_lanes.ensures.sums
    ∙ (λ i. zip2 (λ v d. saturate_to_bits 31 (v +ℤ d)) (ints_of_bits w32 c.args.values c.requires.values i)
    (ints_of_bits w32 c.args.changes c.requires.changes i))

pub returns-clause-fit : goal.returns-clause-fit
returns-clause-fit c = read_fit w32 c.saturating_lanes.result c.saturating_lanes.ensures.fit
