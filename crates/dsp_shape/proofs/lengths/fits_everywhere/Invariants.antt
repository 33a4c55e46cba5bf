use Rattle.std.proofs.Common.{◌≡◌, ◌≤◌, ◌^◌, drop}
use Rattle.dsp_defs.specs.Shape.{fits_everywhere}
use Rattle.dsp_shape.proofs.Placed.{IsPlaced}
use Rattle.dsp_shape.proofs.lengths.fits_everywhere.Given as goal

abbrev pub invariant-loop-block : goal.invariant-loop-block
invariant-loop-block l = record {
  same : fits_everywhere l.flow.channels (drop l.block-index l.block-items) l.frames ≡ fits_everywhere
      l.script.input.channels l.script.blocks l.fn.frames;
  placed : IsPlaced l.flow (drop l.block-index l.block-items);
  few : l.frames ≤ 2 ^ 36;
}
