use Rattle.std.proofs.Common.{◌≡◌, ◌+◌, drop}
use Rattle.dsp_defs.specs.Cost.{cost}
use Rattle.dsp_shape.proofs.Placed.{IsPlaced}
use Rattle.dsp_defs.specs.Shape.{given_frames}
use Rattle.dsp_shape.proofs.FewFrames.{FewBy}
use Rattle.dsp_shape.proofs.lengths.cost.Given as goal

abbrev pub invariant-loop-block : goal.invariant-loop-block
invariant-loop-block l = record {
  same : l.total + cost l.flow.format l.flow.channels (drop l.block-index l.block-items) l.frames ≡ cost
      l.script.input.format l.script.input.channels l.script.blocks l.fn.frames;
  placed : IsPlaced l.flow (drop l.block-index l.block-items);
  few : FewBy given_frames (drop l.block-index l.block-items) l.frames;
}
