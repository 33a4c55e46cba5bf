use Rattle.std.proofs.Common.{◌≡◌, ◌∙◌, ◌*◌, ap, sym, length, rules}
use Rattle.std.proofs.lemmas.List.{length-map}
use Rattle.dsp_matrix.proofs.matrix_work.MatrixWorkGroupWork.transform.Goals as goal

pub returns-in-Sub-clause-out : goal.returns-in-Sub-clause-out
returns-in-Sub-clause-out g c = search rules

pub returns-in-Trans-clause-out : goal.returns-in-Trans-clause-out
returns-in-Trans-clause-out g c = search rules

pub mat_add-requires-clause-right : goal.mat_add-requires-clause-right
mat_add-requires-clause-right g c =
    let items = c.in-Add.matrix.items in
    let is = rw c.in-Add.is at c.requires.work in
    let room : length c.args.out.now ≡ c.in-Add.rows * c.in-Add.columns = rw c.in-Add.is at c.requires.given in
    ap length c.deref.ensures.value ∙ sym (length-map items g.T.Sample.number) ∙ is.2.0 ∙ sym room

pub mat_sub-requires-clause-right : goal.mat_sub-requires-clause-right
mat_sub-requires-clause-right g c =
    let items = c.in-Sub.matrix.items in
    let is = rw c.in-Sub.is at c.requires.work in
    let room : length c.args.out.now ≡ c.in-Sub.rows * c.in-Sub.columns = rw c.in-Sub.is at c.requires.given in
    ap length c.deref-in-Sub.ensures.value ∙ sym (length-map items g.T.Sample.number) ∙ is.2.0 ∙ sym room
