use Rattle.std.proofs.Common.{ap}
use Rattle.std.proofs.lemmas.Simd.{length-chunk}
use Rattle.std.proofs.lemmas.List.Elements.{All-take, All-drop}
use mir.Val.{of_z}
use mir.Syntax.{w32}
use lib.Lanes.{chunk, put_chunk}
use Rattle.dsp_defs.specs.Bytes.{IsValue}
use Rattle.dsp_wave.proofs.Packing.{lanes_fit, lanes_are}
use Rattle.dsp_wave.proofs.slices.encode_group.Goals as goal

pub overflow_cast-bytes : goal.overflow_cast-bytes
overflow_cast-bytes c = lanes_fit 32 (of_z w32 c.args.above) (chunk c.args.at 32 c.args.samples.now)
    (length-chunk c.args.at 32 c.args.samples.now c.requires.inside)

pub returns : goal.returns
returns c = ap (put_chunk c.args.at c.args.bytes.now)
    (lanes_are 32 c.args.coding c.args.above c.requires.last (chunk c.args.at 32 c.args.samples.now)
    (length-chunk c.args.at 32 c.args.samples.now c.requires.inside)
    (All-take (IsValue c.args.coding) 32 _
    (All-drop (IsValue c.args.coding) c.args.at c.args.samples.now c.requires.fits)))
