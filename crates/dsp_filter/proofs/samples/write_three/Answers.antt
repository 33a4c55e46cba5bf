use Rattle.std.proofs.Common.{SFits}
use Rattle.std.specs.Int.{w64}
use Rattle.std.proofs.lemmas.Int.{to_z-of_z}
use Rattle.dsp_filter.proofs.Slices.{three-written}
use Rattle.dsp_filter.proofs.samples.write_three.Goals as goal

pub returns : goal.returns
returns c =
    let first : SFits w64 c.args.first = c.ranges.first in
    let second : SFits w64 c.args.second = c.ranges.second in
    let third : SFits w64 c.args.third = c.ranges.third in
    simp to_z-of_z (three-written c.args.out.now c.args.first c.args.second c.args.third c.requires)
