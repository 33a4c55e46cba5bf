use Rattle.std.proofs.Common.{◌≡◌, ◌+◌, ◌≤◌, map, take}
use Rattle.dsp_defs.specs.Block.{whole_channel}
use Rattle.dsp_defs.specs.Cost.{whole_block_cost}
use Rattle.dsp_check.specs.Channels.{InFormat, frame_count}
use Rattle.dsp_check.proofs.Wholes.{of_channel}
use Rattle.dsp_check.proofs.channels.each_channel.Given as goal

-- the channels so far
abbrev pub invariant-loop-c : goal.invariant-loop-c
invariant-loop-c g l = record {
  each : l.channels.items ≡ map (of_channel (whole_channel l.flow.format l.block)) (take l.c l.x);
  format : InFormat l.flow.format l.channels.items;
  products : l.steps.multiplies ≤ l.initial.steps.multiplies + whole_block_cost l.flow.format l.c l.block
      (frame_count l.x);
}
