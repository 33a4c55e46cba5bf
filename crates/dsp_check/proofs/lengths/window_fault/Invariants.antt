use Rattle.std.proofs.Common.{drop}
use Rattle.dsp_defs.specs.Shape.{window_at}
use Rattle.dsp_check.proofs.PlaceSizes.{WindowsFrom}
use Rattle.dsp_check.proofs.lengths.window_fault.Given as goal

-- the first window that ends past its convolution is among the blocks that are left
abbrev pub invariant-loop-block : goal.invariant-loop-block
invariant-loop-block l = WindowsFrom (window_at l.script.blocks l.fn.n) (drop l.block-index l.block-items) l.n
