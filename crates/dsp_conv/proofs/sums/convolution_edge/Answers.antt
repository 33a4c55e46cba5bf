use Rattle.std.proofs.Common.{◌≡◌, ◌+◌, ◌*◌, length, map, arith}
use Rattle.dsp_defs.specs.Formats.{close}
use Rattle.dsp_defs.specs.Sums.{convolution_at}
use Rattle.dsp_conv.proofs.SliceSums.{written-more}
use Rattle.dsp_conv.proofs.sums.convolution_edge.Goals as goal

pub loop-i-preserved : goal.loop-i-preserved
loop-i-preserved g c =
    let T = g.T.Sample in
    let i = c.loop-i.i in
    let most : (i + 1) * length c.args.b.now ≡ i * length c.args.b.now + length c.args.b.now = omega arith in
    let so_far = c.loop-i.invariant.steps in
    let one = c.convolution_value.ensures.steps in
    record {
      values = written-more T.number c.loop-i.out i c.convolution_value.result
          (λ k. close T.format (convolution_at (map T.number c.args.b.now) (map T.number c.args.a.now)
          (c.args.first + k))) (omega arith) c.loop-i.invariant.values c.convolution_value.ensures.value;
      steps = record {
        multiplies_rise = omega (arith, so_far, one);
        multiplies_most = omega (arith, so_far, one, most);
        turns_most = omega (arith, so_far, one, most);
      };
    }
