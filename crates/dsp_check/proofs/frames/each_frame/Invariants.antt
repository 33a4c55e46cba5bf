use Rattle.std.proofs.Common.{◌+◌, ◌≤◌, length}
use Rattle.dsp_defs.specs.Block.{channels_after, format_after, given_frame}
use Rattle.dsp_defs.specs.Cost.{whole_block_cost}
use Rattle.dsp_check.specs.Channels.{frame_at}
use Rattle.dsp_check.proofs.Signals.{AreFirst}
use Rattle.dsp_check.proofs.frames.each_frame.Given as goal

-- the frames so far
abbrev pub invariant-loop-n : goal.invariant-loop-n
invariant-loop-n g l = record {
  first : AreFirst (format_after l.fn.flow.format l.block) (channels_after l.fn.flow.channels l.block) l.n
      (λ n. given_frame l.fn.flow.format l.block (frame_at l.x n)) l.y;
  products : l.steps.multiplies ≤ l.initial.steps.multiplies + whole_block_cost l.fn.flow.format
      (length l.x) l.block l.n;
}
