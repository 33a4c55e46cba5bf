use Rattle.std.proofs.Common.{◌∙◌, length, map}
use Rattle.dsp_conv.proofs.Stretches.{swapped}
use Rattle.dsp_conv.proofs.sums.convolution_values.Goals as goal

pub returns-then-a-b-clause-values : goal.returns-then-a-b-clause-values
returns-then-a-b-clause-values g c =
    let T = g.T.Sample in
    c.convolution_by_taps.ensures.values ∙ swapped T.format (map T.number c.args.a.now) (map T.number c.args.b.now)
    c.args.first (length c.args.out.now)
