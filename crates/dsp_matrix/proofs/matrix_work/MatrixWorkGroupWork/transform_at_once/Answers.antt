use Rattle.std.proofs.Common.{◌≡◌, ◌∙◌, ◌+◌, ◌*◌, ◌/◌, ◌<◌, length, arith, rules, SFits}
use Rattle.std.specs.Int.{w32}
use Rattle.std.proofs.lemmas.Int.{to_z-of_z}
use Rattle.std.proofs.lemmas.Nat.{mul-le}
use Rattle.dsp_matrix.proofs.ScaledGroups.{scaled-at-once}
use Rattle.dsp_matrix.proofs.matrix_work.MatrixWorkGroupWork.transform_at_once.Goals as goal

pub returns-in-Scale-clause-out : goal.returns-in-Scale-clause-out
returns-in-Scale-clause-out g c =
    let number = g.T.Sample.number in
    let rows = c.in-Scale.rows in
    let columns = c.in-Scale.columns in
    let is = rw c.in-Scale.is at c.requires.work in
    let room : length c.args.output.now ≡ length c.args.input.now / (rows * columns) * (rows * columns) =
    rw c.in-Scale.is at c.requires.room in
    let some : 0 < rows * columns = omega (arith, mul-le 1 1 rows columns is.0.0 is.1.0) in
    let fits : SFits w32 c.in-Scale.shift = search rules in
    λ _. rw c.in-Scale.is (c.mat_scale.ensures.out
    ∙ simp to_z-of_z (scaled-at-once number g.T.Sample.format (number c.in-Scale.fract) c.in-Scale.shift
    (rows * columns) (length c.args.output.now) c.args.input.now some room))
