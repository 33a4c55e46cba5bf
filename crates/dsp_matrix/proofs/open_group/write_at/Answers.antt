use Rattle.std.proofs.Common.{◌≡◌, ◌∙◌, ◌+◌, ◌++◌, length, take, ap, arith}
use Rattle.std.proofs.lemmas.Slice.{take-put_mid}
use Rattle.dsp_matrix.proofs.open_group.write_at.Goals as goal

pub returns : goal.returns
returns g c =
    let written = c.copy_from_slice.ensures.after in
    let long : length c.copy_from_slice.new.self ≡ length c.args.block.now = ap length written in
    take-put_mid c.args.at _ c.args.samples.now c.copy_from_slice.new.self (c.args.at + length c.args.block.now)
    (omega (arith, long)) (omega arith)
    ∙ ap (λ l. take c.args.at c.args.samples.now ++ l) written
