use Rattle.std.proofs.Common.{◌∙◌, ap, refl, arith}
use Rattle.std.specs.Int.{w128}
use Rattle.dsp_sat.proofs.Words.{shift_down-is}
use Rattle.dsp_defs.specs.Complex.{product_shift}
use Rattle.dsp_defs.specs.Numbers.{◌>>◌}
use Rattle.dsp_framewise.proofs.Shifted.{products-small}
use Rattle.dsp_framewise.proofs.complex.shifted.Goals as goal

pub returns : goal.returns
returns g c =
    let format = c.args.format in
    let p = c.product in
    let is = shift_down-is w128 p.result p.result c.product_shift.result (product_shift format)
    (record { sfits = p.type_inv }) refl c.product_shift.ensures in
    record {
      value = is ∙ ap (λ z. z >> product_shift format) p.ensures.value;
      small = rw is (omega (arith, products-small format p.result 1 (omega (arith, p.ensures.small))));
      products = p.ensures.products;
    }
