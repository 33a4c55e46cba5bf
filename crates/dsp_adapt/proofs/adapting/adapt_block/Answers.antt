use Rattle.std.proofs.Common.{◌≡◌, ◌∙◌, ap, sym, ◌+◌, ◌*◌, ◌-ℤ◌, length, map, take, slice_range, arith}
use Rattle.std.proofs.lemmas.List.{length-map}
use Rattle.dsp_defs.specs.Formats.{word}
use Rattle.dsp_defs.specs.Numbers.{wrap}
use Rattle.dsp_defs.specs.Signal.{sample}
use Rattle.dsp_defs.proofs.SumLemmas.{sample-map}
use Rattle.dsp_filter.proofs.Slices.{sample-piece}
use Rattle.dsp_adapt.proofs.LmsSteps.{lms-step, sample-counted, written-more}
use Rattle.dsp_adapt.proofs.adapting.adapt_block.Goals as goal

pub loop-i-preserved : goal.loop-i-preserved
loop-i-preserved g c =
    let T = g.T.Sample in
    let number = T.number in
    let i = c.loop-i.i in
    let window = c.args.window.now in
    let weights = c.loop-i.weights in
    let count = length c.args.weights.now in
    let wanted = c.index-references-i in
    let once = c.adapt-output in
    let same : length weights ≡ count = c.loop-i.auto.weights in
    record {
      adapts = λ taps inputs x size long shows begun.
          let piece = slice_range window i (i + count) in
          let whole : length (map number weights) ≡ length taps = length-map weights number ∙ same ∙ sym size in
          let wanted_is : number wanted.result ≡ sample (map number c.args.references.now) i =
          sample-map number c.args.references.now i wanted.result (omega arith) wanted.is in
          let step = lms-step T.format c.args.post_shift (number c.args.mu) taps x inputs
          (map number c.args.references.now) i (omega (arith, long)) (map number weights) (map number piece)
          (length weights) (same ∙ sym size) whole
          (λ j h. sample-piece number window i count j (omega (arith, h, size)) ∙ ap (λ l. sample l (i + j)) shows)
          (map number once.new.weights) (map number (take i c.loop-i.outputs)) (map number (take i c.loop-i.errors))
          (number once.result.0) (number once.result.1)
          once.ensures.output (once.ensures.error ∙ ap (λ r. wrap (word T.format) (r -ℤ number once.result.0))
          wanted_is) once.ensures.weights
          (c.loop-i.invariant.adapts taps inputs x size long shows begun) in
          rw (
            written-more number c.loop-i.outputs i once.result.0 (omega arith),
            written-more number c.loop-i.errors i once.result.1 (omega arith),
          ) step;
      counted = sample-counted _ _ _ i _ _ (ap (λ n. 2 * n + 1) same) c.loop-i.invariant.counted once.ensures.steps;
    }
