use Rattle.std.proofs.Common.{◌≡◌, drop}
use Rattle.dsp_defs.specs.Shape.{frames_given, given_frames}
use Rattle.dsp_shape.proofs.Placed.{MayStand}
use Rattle.dsp_shape.proofs.FewFrames.{FewBy}
use Rattle.dsp_shape.proofs.lengths.frames_given.Given as goal

abbrev pub invariant-loop-block : goal.invariant-loop-block
invariant-loop-block l = record {
  same : frames_given (drop l.block-index l.block-items) l.frames ≡ frames_given l.script.blocks l.fn.frames;
  placed : MayStand (drop l.block-index l.block-items);
  few : FewBy given_frames (drop l.block-index l.block-items) l.frames;
}
