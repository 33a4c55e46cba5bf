use Rattle.std.proofs.Common.{◌-◌, length, drop}
use Rattle.std.specs.Prelude.{FitsSigned}
use Rattle.dsp_defs.specs.Formats.{word}
use Rattle.dsp_adapt.proofs.LmsSteps.{all-take, all-drop}
use Rattle.dsp_adapt.proofs.weights.restore_parts.Goals as goal

pub restore-requires-clause-samples : goal.restore-requires-clause-samples
restore-requires-clause-samples g c = all-take (FitsSigned (word g.T.Sample.format)) c.args.numbers.now _
    c.requires.samples

pub restore_reversed-requires-clause-samples : goal.restore_reversed-requires-clause-samples
restore_reversed-requires-clause-samples g c =
    let fits = FitsSigned (word g.T.Sample.format) in
    let past = length c.args.numbers.now - length c.args.weights.now in
    all-take fits (drop past c.args.numbers.now) _ (all-drop fits c.args.numbers.now past c.requires.samples)
