use Rattle.std.proofs.Common.{◌∙◌, length, map, SFits}
use Rattle.std.specs.Int.{w32}
use Rattle.std.proofs.lemmas.Int.{to_z-of_z}
use Rattle.std.proofs.lemmas.List.{length-map}
use Rattle.dsp_defs.specs.Elementwise.{scale}
use Rattle.dsp_matrix.proofs.RowWrites.{mapped-values}
use Rattle.dsp_matrix.proofs.calls.mat_scale.Goals as goal

pub returns-clause-out : goal.returns-clause-out
returns-clause-out g c =
    let number = g.T.Sample.number in
    let fits : SFits w32 c.args.s = c.ranges.s in
    c.scale_slices.ensures.out
    ∙ simp to_z-of_z (mapped-values (scale g.T.Sample.format (number c.args.f) c.args.s) (length c.args.out.now)
    (map number c.args.a.now) (length-map c.args.a.now number ∙ c.requires.same))
