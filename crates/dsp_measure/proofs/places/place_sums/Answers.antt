use Rattle.std.proofs.Common.{◌≡◌, ◌∙◌, sym, refl, true, false}
use Rattle.dsp_defs.specs.Formats.{accumulator}
use Rattle.dsp_defs.specs.Kept.{IsOfKind}
use Rattle.dsp_unit.proofs.ChannelKept.{words-fit, fit-words, length-words}
use Rattle.dsp_measure.proofs.places.place_sums.Goals as goal
use Rattle.dsp_measure.proofs.places.place_sums.Goals.{else-numbers-size-via-then-numbers-size+else-are_sums}
use Rattle.dsp_measure.proofs.places.place_sums.Goals.{else-numbers-size-via-else-numbers-size}

never : true ≡ false → ⊥
never h = cc

pub returns-then-are_sums-clause-fits : goal.returns-then-are_sums-clause-fits
returns-then-are_sums-clause-fits g c = (
  refl,
  words-fit (accumulator g.T.Sample.format) c.args.size
      c.args.numbers.now c.if-numbers-size.true (c.are_sums.ensures.0 c.if-are_sums.true),
)

pub returns-else-numbers-size-clause-least : goal.returns-else-numbers-size-clause-least
returns-else-numbers-size-clause-least g c = λ each.
    elim c.else-numbers-size.branch [
      | else-numbers-size-via-then-numbers-size+else-are_sums w ↦ absurd
          (never (sym (w.are_sums.ensures.1 (fit-words (accumulator g.T.Sample.format) c.args.size c.args.numbers.now
          each)) ∙ w.if-are_sums.false))
      | else-numbers-size-via-else-numbers-size w ↦ absurd
          (w.if-numbers-size.false (length-words IsOfKind (accumulator g.T.Sample.format) c.args.size c.args.numbers.now
          each))
    ]
