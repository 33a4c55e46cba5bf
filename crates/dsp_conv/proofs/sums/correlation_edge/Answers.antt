use Rattle.std.proofs.Common.{◌+◌, length, map, arith}
use Rattle.dsp_defs.specs.Formats.{close}
use Rattle.dsp_conv.specs.Sums.{correlation_at}
use Rattle.dsp_conv.proofs.SliceSums.{written-more, correlation-more}
use Rattle.dsp_conv.proofs.sums.correlation_edge.Goals as goal

pub loop-i-preserved : goal.loop-i-preserved
loop-i-preserved g c =
    let T = g.T.Sample in
    let i = c.loop-i.i in
    let more = correlation-more (length c.args.a.now) (length c.args.b.now) c.args.first i in
    let so_far = c.loop-i.invariant.steps in
    let one = c.correlation_value.ensures.steps in
    record {
      values = written-more T.number c.loop-i.out i c.correlation_value.result
          (λ k. close T.format (correlation_at (map T.number c.args.b.now) (map T.number c.args.a.now)
          (c.args.first + k))) (omega arith) c.loop-i.invariant.values c.correlation_value.ensures.value;
      steps = record {
        multiplies = omega (arith, so_far, one, more);
        turns = omega (arith, so_far, one, more);
      };
    }
