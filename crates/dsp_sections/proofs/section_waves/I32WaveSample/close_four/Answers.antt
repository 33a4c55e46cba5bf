use Rattle.std.proofs.Common.{◌∙◌, ◌^◌, ◌-◌, ap, map}
use Rattle.std.proofs.lemmas.Int.{SFits-int_wrap}
use Rattle.std.specs.Int.{int_wrap, w32}
use lib.Signed.{shr_z}
use Rattle.dsp_defs.specs.Signal.{sample, values}
use Rattle.dsp_sections.proofs.FourSections.{back, back_fits, back_four, closed_32_value}
use Rattle.dsp_sections.proofs.section_waves.I32WaveSample.close_four.Goals as goal

pub shifted_words-requires-clause-fit : goal.shifted_words-requires-clause-fit
shifted_words-requires-clause-fit c = back_fits c.args.sums c.requires.fit

pub returns-clause-value : goal.returns-clause-value
returns-clause-value c =
    ap (map (int_wrap w32)) (back c.shifted_words.result c.shifted_words.ensures.fit)
    ∙ closed_32_value c.args.sums _ c.requires.fit c.args.post_shift (c.shifted_words.ensures.value
    ∙ (λ t. values 4 (λ i. int_wrap w32 (shr_z (sample (back c.args.sums c.requires.fit t) i)
    (2 ^ (31 - c.args.post_shift))))))

pub returns-clause-fit : goal.returns-clause-fit
returns-clause-fit c =
    let words = c.shifted_words in
    record {
      four = back_four words.result words.ensures.fit words.ensures.four;
      wide = back_fits words.result words.ensures.fit;
      words = λ i. SFits-int_wrap w32 _;
    }
