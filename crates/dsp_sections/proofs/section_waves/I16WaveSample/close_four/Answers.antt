use Rattle.std.proofs.Common.{◌∙◌, ◌^◌, ◌-◌, ap, map}
use Rattle.std.specs.Int.{int_wrap, w32}
use lib.Signed.{shr_z}
use Rattle.dsp_defs.specs.Signal.{sample, values}
use Rattle.dsp_defs.specs.declared.format.Fmt.TheVariants.{Q15}
use Rattle.dsp_sections.proofs.FourSections.{back, back_fits, back_four, closed_16_value, words_back}
use Rattle.dsp_sections.proofs.section_waves.I16WaveSample.close_four.Goals as goal

pub shifted_words-requires-clause-fit : goal.shifted_words-requires-clause-fit
shifted_words-requires-clause-fit c = back_fits c.args.sums c.requires.fit

pub clamped_words-requires-clause-four : goal.clamped_words-requires-clause-four
clamped_words-requires-clause-four c = back_four c.shifted_words.result c.shifted_words.ensures.fit
    c.shifted_words.ensures.four

pub clamped_words-requires-clause-fit : goal.clamped_words-requires-clause-fit
clamped_words-requires-clause-fit c = back_fits c.shifted_words.result c.shifted_words.ensures.fit

pub returns-clause-value : goal.returns-clause-value
returns-clause-value c =
    let clamped = c.clamped_words in
    ap (map (int_wrap w32)) (back clamped.result clamped.ensures.fit.wide)
    ∙ closed_16_value c.args.sums c.requires.sums c.args.post_shift c.requires.shift _ clamped.result
    (ap (map (int_wrap w32)) (back c.shifted_words.result c.shifted_words.ensures.fit) ∙ c.shifted_words.ensures.value
    ∙ (λ t. values 4 (λ i. int_wrap w32 (shr_z (sample (back c.args.sums c.requires.fit t) i)
    (2 ^ (15 - c.args.post_shift)))))) clamped.ensures.value

pub returns-clause-fit : goal.returns-clause-fit
returns-clause-fit c = words_back Q15 c.clamped_words.result c.clamped_words.ensures.fit
