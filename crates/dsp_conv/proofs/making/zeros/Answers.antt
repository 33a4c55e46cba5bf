use Rattle.std.proofs.Common.{◌≡◌, ◌∙◌, ap, map, replicate, arith}
use Rattle.std.proofs.lemmas.Grind.{common_steps}
use Rattle.dsp_conv.proofs.ConvLemmas.{map-replicate}
use Rattle.dsp_conv.proofs.making.zeros.Goals as goal

pub returns : goal.returns
returns g c =
    let T = g.T.Sample in
    let zeros : c.resize.new.self.items ≡ replicate c.args.count c.zero.result =
    grind (
      arith,
      common_steps,
      c.in_ok-resize.ensures.items,
      c.in_ok-zeros.ensures.items,
      c.in_ok-zeros.ensures.len,
    ) in
    ap (map T.number) zeros ∙ map-replicate T.number c.zero.result c.args.count ∙
    ap (replicate c.args.count) c.zero.ensures
