use Rattle.std.proofs.Common.{◌≡◌, drop}
use Rattle.std.specs.Prelude.{fold}
use Rattle.dsp_defs.specs.Block.{format_after, channels_after}
use Rattle.dsp_defs.specs.Output.{format_of, channels_of}
use Rattle.dsp_shape.proofs.Placed.{IsPlaced}
use Rattle.dsp_shape.proofs.output.output_flow.Given as goal

abbrev pub invariant-loop-block : goal.invariant-loop-block
invariant-loop-block l = record {
  format : fold format_after l.flow.format (drop l.block-index l.block-items) ≡ format_of l.script;
  channels : fold channels_after l.flow.channels (drop l.block-index l.block-items) ≡ channels_of l.script;
  placed : IsPlaced l.flow (drop l.block-index l.block-items);
}
