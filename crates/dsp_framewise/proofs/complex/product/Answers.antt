use Rattle.std.proofs.Common.{arith}
use Rattle.std.proofs.lemmas.Int.{to_z-of_z}
use Rattle.dsp_sat.proofs.WideProducts.{product-small}
use Rattle.dsp_framewise.proofs.Given.{sample-fits}
use Rattle.dsp_framewise.proofs.complex.product.Goals as goal

pub returns-clause-small : goal.returns-clause-small
returns-clause-small g c =
    let f = c.args.format in
    let left = sample-fits f c.args.frame.now c.args.i c.requires in
    let right = sample-fits f c.args.frame.now c.args.j c.requires in
    let small = product-small f _ _ left right in
    grind (arith, to_z-of_z, small)
