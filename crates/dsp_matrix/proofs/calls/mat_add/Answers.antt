use Rattle.std.proofs.Common.{◌∙◌, length, map}
use Rattle.std.proofs.lemmas.List.{length-map}
use Rattle.dsp_defs.specs.Elementwise.{add}
use Rattle.dsp_matrix.proofs.RowWrites.{joined-values}
use Rattle.dsp_matrix.proofs.calls.mat_add.Goals as goal

pub returns : goal.returns
returns g c =
    let number = g.T.Sample.number in
    c.add_slices.ensures
    ∙ joined-values (add g.T.Sample.format) (length c.args.out.now) (map number c.args.a.now) (map number c.args.b.now)
    (length-map c.args.a.now number ∙ c.requires.left) (length-map c.args.b.now number ∙ c.requires.right)
