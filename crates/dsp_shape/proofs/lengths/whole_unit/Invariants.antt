use Rattle.std.proofs.Common.{drop}
use Rattle.dsp_shape.proofs.Paces.{IsPacing}
use Rattle.dsp_shape.proofs.lengths.whole_unit.Given as goal

abbrev pub invariant-loop-block : goal.invariant-loop-block
invariant-loop-block l = IsPacing l.script.input.channels l.script.blocks l.pace (drop l.block-index l.block-items)
