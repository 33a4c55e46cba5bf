use Rattle.std.proofs.Common.{◌≡◌, ◌+◌, ℕ, length, map, arith}
use Rattle.dsp_defs.specs.Formats.{close}
use Rattle.dsp_conv.specs.Sums.{correlation_at}
use Rattle.dsp_conv.proofs.Stretches.{three-written, three-correlated}
use Rattle.dsp_conv.proofs.sums.correlation_sums.Goals as goal

pub returns : goal.returns
returns g c =
    let T = g.T.Sample in
    let f = λ (n : ℕ). close T.format (correlation_at (map T.number c.args.b.now) (map T.number c.args.a.now) n) in
    let p = length c.split_at_mut-before.result.0.now in
    let q = length c.split_at_mut-inside.result.0.now in
    let r = length c.split_at_mut-inside.result.1.now in
    let front = c.split_at_mut-before.ensures in
    let back = c.split_at_mut-inside.ensures in
    let middle = c.middle_of-middle in
    let whole : length c.args.out.now ≡ p + (q + r) = omega (arith, front, back, middle.ensures) in
    let next : c.args.first + middle.result.start ≡ c.args.first + p = omega (arith, front, back) in
    let last : c.args.first + middle.result.end ≡ c.args.first + p + q = omega (arith, front, back, middle.ensures) in
    record {
      values = three-written T.number f c.args.first p q r c.correlation_edge.new.out c.correlation_middle.new.out
          c.correlation_edge-2.new.out whole next last c.correlation_edge.ensures.values
          c.correlation_middle.ensures.values c.correlation_edge-2.ensures.values;
      steps = three-correlated p q r whole next last c.correlation_edge.ensures.steps
          c.correlation_middle.ensures.steps c.correlation_edge-2.ensures.steps;
    }
