use Rattle.std.proofs.Common.{◌≤◌, drop}
use Rattle.dsp_defs.specs.Sizes.{size_at}
use Rattle.dsp_defs.specs.declared.limits.TheConstants.{MAX_INPUT}
use Rattle.dsp_check.proofs.PlaceSizes.{SizesFrom}
use Rattle.dsp_check.proofs.lengths.size_fault.Given as goal

-- the first place with too many samples is among the blocks that are left
abbrev pub invariant-loop-block : goal.invariant-loop-block
invariant-loop-block l = record {
  sizes : SizesFrom (size_at l.script.input.channels l.script.blocks l.fn.n) l.flow
      (drop l.block-index l.block-items) l.n;
  few : l.n ≤ MAX_INPUT;
}
