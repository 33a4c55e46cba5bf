use Rattle.std.proofs.Common.{◌≡◌, ◌+◌, ◌≤◌, ℕ, length, map, arith}
use Rattle.dsp_defs.specs.Formats.{close}
use Rattle.dsp_defs.specs.Sums.{convolution_at}
use Rattle.dsp_conv.proofs.Stretches.{three-written, three-risen}
use Rattle.dsp_conv.proofs.sums.convolution_by_taps.Goals as goal

pub returns : goal.returns
returns g c =
    let T = g.T.Sample in
    let f = λ (n : ℕ). close T.format (convolution_at (map T.number c.args.b.now) (map T.number c.args.a.now) n) in
    let p = length c.convolution_middle.new.scratch in
    let q = length c.split_at_mut-inside.result.0.now in
    let r = length c.split_at_mut-inside.result.1.now in
    let front = c.split_at_mut-before.ensures in
    let back = c.split_at_mut-inside.ensures in
    let middle = c.middle_of-middle.ensures in
    let order : c.min-start.result ≤ c.middle_of-middle.result.end = omega (arith, c.min-start.ensures) in
    let before : p ≡ c.min-start.result = omega (arith, front, back, c.convolution_middle.auto.scratch) in
    let whole : length c.args.out.now ≡ p + (q + r) = omega (arith, front, back, order, middle, before) in
    record {
      values = three-written T.number f c.args.first p q r c.convolution_edge.new.out c.convolution_middle.new.out
          c.convolution_edge-2.new.out whole (omega (arith, before)) (omega (arith, front, back, order, before))
          c.convolution_edge.ensures.values c.convolution_middle.ensures.values c.convolution_edge-2.ensures.values;
      steps = three-risen (length c.args.b.now) p q r whole c.convolution_middle.ensures.steps
          c.convolution_edge.ensures.steps c.convolution_edge-2.ensures.steps;
    }
