use Rattle.std.proofs.Common.{◌∙◌, ap, sym, ◌%◌, ◌/◌, ◌*ℤ◌}
use Rattle.std.specs.Int.{w32, w128}
use Rattle.std.proofs.lemmas.Int.{to_z-of_z}
use Rattle.dsp_defs.specs.Formats.{close}
use Rattle.dsp_defs.specs.Signal.{delayed, sample, sum_below}
use Rattle.dsp_defs.specs.Sums.{phase_taps}
use Rattle.dsp_channelwise.proofs.Phases.{taps-of-phase}
use Rattle.dsp_channelwise.proofs.interpolation.InterpolatedFormula.at.Goals as goal

pub returns-clause-value : goal.returns-clause-value
returns-clause-value g c =
    let f = c.args.self.now in
    let p = c.args.i % f.factor in
    to_z-of_z w32 c.close.result (record { sfits = c.close.type_inv })
    ∙ c.close.ensures.value
    ∙ ap (close f.format) (to_z-of_z w128 c.sum_below.result (record { sfits = c.sum_below.type_inv })
    ∙ c.sum_below.ensures.value
    ∙ ap (λ count. sum_below count (λ k. sample (phase_taps f.factor f.b.now p) k
    *ℤ delayed f.x.now (c.args.i / f.factor) k)) (sym (taps-of-phase f.factor f.b.now p)))
