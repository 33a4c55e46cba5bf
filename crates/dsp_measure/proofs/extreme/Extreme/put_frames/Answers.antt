use Rattle.std.proofs.Common.{◌≡◌, ◌∙◌, ap, refl, ◌+◌, ◌++◌, length, arith, length-append}
use Rattle.dsp_measure.specs.Extremes.{ExtremeState, extreme}
use Rattle.dsp_measure.proofs.extreme.Extreme.put_frames.Goals as goal

pub returns-clause-stands : goal.returns-clause-stands
returns-clause-stands g c = λ x stood. (
    let frames = c.args.frames.now in
    let old = c.self.view_is ∙ stood in
    let found : c.best_of-self-inside.result ≡ extreme g.O.Order.least (x ++ frames) =
    c.best_of-self-inside.ensures.stands x frames (ap (λ (s : ExtremeState). s.found) old)
    (ap (λ (s : ExtremeState). s.count) old) refl (λ n s less is. is) in
    let counted : c.self.inside.count + length frames ≡ length (x ++ frames) =
    omega (arith, ap (λ (s : ExtremeState). s.count) old, length-append x frames) in
    λ i. record { found = found i; count = counted i })
