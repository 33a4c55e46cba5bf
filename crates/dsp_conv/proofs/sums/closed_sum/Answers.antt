use Rattle.std.proofs.Common.{◌∙◌, ap, ℕ, ℤ, ◌*ℤ◌, length, map, arith}
use Rattle.dsp_defs.specs.Formats.{close, lanes}
use Rattle.dsp_defs.specs.Signal.{sample, sum_below}
use Rattle.dsp_defs.proofs.FormatLemmas.{close-wrap}
use Rattle.dsp_conv.proofs.Stretches.{lanes-within}
use Rattle.dsp_conv.proofs.sums.closed_sum.Goals as goal

pub returns-clause-value : goal.returns-clause-value
returns-clause-value g c =
    let T = g.T.Sample in
    let products : ℕ → ℤ = λ j. sample (map T.number c.args.a.now) j *ℤ sample (map T.number c.args.b.now) j in
    c.close.ensures ∙ ap (close T.format) c.dot.ensures.sum ∙
    close-wrap T.format (sum_below (length c.args.a.now) products)

pub returns-clause-steps : goal.returns-clause-steps
returns-clause-steps g c =
    let within = lanes-within (lanes g.T.Sample.format) (length c.args.a.now) in
    record {
      multiplies_rise = omega (arith, c.dot.ensures.steps);
      turns_within = omega (arith, c.dot.ensures.steps, within);
    }
