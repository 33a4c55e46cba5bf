use Rattle.std.proofs.Common.{◌∙◌, sym, subst, ℕ, ◌<◌, ℤ, pos, List, length, SFits, FitsSigned}
use Rattle.std.proofs.lemmas.List.Elements.{All-get_or}
use Rattle.dsp_defs.specs.Formats.{word}
use Rattle.dsp_defs.specs.Signal.{sample}
use Rattle.dsp_defs.specs.declared.format.Fmt.{Fmt}
use Rattle.dsp_defs.specs.Kept.{Each, IsOfKind, in_words}
use Rattle.dsp_unit.proofs.ChannelKept.{fit-words}
use Rattle.dsp_filter.proofs.Slices.{narrow-word}
use Rattle.dsp_bank.proofs.kept.sample_at.Goals as goal
use Rattle.dsp_sat.proofs.WideProducts.{word-in-32, cast-fits}

kept-fits : (format : Fmt) (numbers : List ℤ) (k : ℕ) → Each IsOfKind (in_words (word format) (length numbers)) numbers
    → k < length numbers → SFits (word format) (sample numbers k)
kept-fits format numbers k each inside =
    All-get_or (FitsSigned (word format)) numbers k (pos 0) inside (fit-words (word format) (length numbers) numbers
    each)

pub overflow_cast-numbers : goal.overflow_cast-numbers
overflow_cast-numbers g c =
    let format = g.T.Sample.format in
    let z = sample c.args.numbers.now c.args.k in
    cast-fits z (word-in-32 format z (kept-fits format c.args.numbers.now c.args.k c.requires.fits c.requires.inside))

pub of_number-requires : goal.of_number-requires
of_number-requires g c =
    let format = g.T.Sample.format in
    let fits = kept-fits format c.args.numbers.now c.args.k c.requires.fits c.requires.inside in
    subst (λ (z : ℤ). SFits (word format) z) (sym (narrow-word format (sample c.args.numbers.now c.args.k) fits)) fits

pub returns : goal.returns
returns g c =
    let format = g.T.Sample.format in
    let fits = kept-fits format c.args.numbers.now c.args.k c.requires.fits c.requires.inside in
    c.of_number.ensures ∙ narrow-word format (sample c.args.numbers.now c.args.k) fits
