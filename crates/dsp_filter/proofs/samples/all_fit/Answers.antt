use Rattle.std.proofs.Common.{◌≡◌, ◌∙◌, subst, ℤ, pos, map, arith, below_more}
use Rattle.std.specs.Prelude.{FitsSigned}
use Rattle.std.proofs.lemmas.List.{length-map}
use Rattle.std.proofs.lemmas.List.Elements.{All-from_get_or}
use Rattle.dsp_defs.specs.Formats.{word}
use Rattle.dsp_defs.specs.Signal.{sample}
use Rattle.dsp_defs.proofs.SumLemmas.{sample-map}
use Rattle.dsp_filter.proofs.samples.all_fit.Goals as goal

pub loop-sample-preserved : goal.loop-sample-preserved
loop-sample-preserved g c =
    let T = g.T.Sample in
    let samples = c.args.samples.now in
    let i = c.loop-sample.sample-index in
    let x = c.sample-item in
    let read : T.number x.result ≡ sample (map T.number samples) i =
    sample-map T.number samples i x.result (omega arith) x.is in
    let P : ℤ → Type 0 = λ z. FitsSigned (word T.format) z in
    below_more _ i c.loop-sample.invariant (subst P (c.number-number.ensures.value ∙ read) c.number-number.ensures.fits)

pub returns : goal.returns
returns g c =
    let T = g.T.Sample in
    let samples = c.args.samples.now in
    All-from_get_or (FitsSigned (word T.format)) (map T.number samples) (pos 0)
    (λ k h. c.loop-sample.invariant k (omega (arith, h, length-map samples T.number, c.loop-sample-test.false)))
