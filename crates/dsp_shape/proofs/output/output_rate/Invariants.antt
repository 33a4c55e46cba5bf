use Rattle.std.proofs.Common.{◌≡◌, drop}
use Rattle.std.specs.Prelude.{fold}
use Rattle.dsp_defs.specs.Output.{rate_of}
use Rattle.dsp_defs.specs.Shape.{rate_after}
use Rattle.dsp_shape.proofs.Placed.{MayStand}
use Rattle.dsp_shape.proofs.output.output_rate.Given as goal

abbrev pub invariant-loop-block : goal.invariant-loop-block
invariant-loop-block l = record {
  same : fold rate_after l.rate (drop l.block-index l.block-items) ≡ rate_of l.script l.fn.rate;
  placed : MayStand (drop l.block-index l.block-items);
}
