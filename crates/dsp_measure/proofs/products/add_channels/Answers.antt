use Rattle.std.proofs.Common.{ap, SFits, rules, to_z-of_z, ◌∙◌}
use mir.Syntax.{w64}
use Rattle.dsp_measure.specs.Sums.{with_products}
use Rattle.dsp_measure.proofs.SumLaws.{only-channel}
use Rattle.dsp_measure.proofs.products.add_channels.Goals as goal

pub returns-then-channels-eq1-clause-sum : goal.returns-then-channels-eq1-clause-sum
returns-then-channels-eq1-clause-sum g c =
    let frames = c.args.frames.now in
    let fits : SFits w64 c.add_squares.result = search rules in
    to_z-of_z fits
    ∙ c.add_squares.ensures.sum
    ∙ ap (λ s. with_products g.T.Sample.format s frames frames) (to_z-of_z c.ranges.start)
    ∙ only-channel g.T.Sample.format c.args.start c.args.channels c.args.first c.args.second frames
    c.if-channels-eq1.true c.requires.first c.requires.second
