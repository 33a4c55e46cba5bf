use Rattle.std.proofs.Common.{◌≡◌, ◌∙◌, ◌*◌, ap, refl, sym, subst, pos, length, arith, rules}
use Rattle.std.specs.Prelude.{FitsSigned}
use Rattle.std.proofs.lemmas.List.{get_or_default}
use Rattle.dsp_defs.specs.Block.{format_after, given_frame}
use Rattle.dsp_defs.specs.Formats.{word}
use Rattle.dsp_defs.specs.declared.flow.Flow.{Flow}
use Rattle.dsp_defs.proofs.SumLemmas.{same_numbers}
use Rattle.dsp_framewise.specs.Framewise.{sample_price}
use Rattle.dsp_framewise.proofs.Given.{length-given, prices-within}
use Rattle.dsp_framewise.proofs.frames.given_frame.Goals as goal

pub returns : goal.returns
returns g c =
    let block = c.args.block.now in
    let frame = c.args.frame.now in
    let flow : Flow = record { format = c.args.format; channels = length frame } in
    let all : length c.loop-j.given ≡ c.loop-j.j = omega arith in
    let count = c.loop-j.auto.given ∙ c.requires.room in
    let price = ap (λ n. n * sample_price block) (sym all ∙ count) in
    record {
      value = same_numbers c.loop-j.given (given_frame c.args.format block frame)
          (count ∙ sym (length-given flow block frame c.requires.framewise c.requires.suits refl))
          (λ k inside. c.loop-j.invariant.values k (omega (arith, inside, all)));
      fits = λ k d inside. subst (FitsSigned (word (format_after c.args.format block)))
          (sym (get_or_default c.loop-j.given k d (pos 0) inside))
          (c.loop-j.invariant.fits k (omega (arith, inside, all)));
      products = omega (
        arith,
        c.loop-j.invariant.products,
        price,
        prices-within c.args.format block (length frame) c.requires.framewise,
      );
    }

pub loop-j-init : goal.loop-j-init
loop-j-init g c = search rules

pub offset_bounds-given-j : goal.offset_bounds-given-j
offset_bounds-given-j g c = search rules

pub bounds-given-j : goal.bounds-given-j
bounds-given-j g c = search rules

pub given_sample-requires-clause-framewise : goal.given_sample-requires-clause-framewise
given_sample-requires-clause-framewise g c = search rules

pub given_sample-requires-clause-suits : goal.given_sample-requires-clause-suits
given_sample-requires-clause-suits g c = search rules

pub given_sample-requires-clause-format : goal.given_sample-requires-clause-format
given_sample-requires-clause-format g c = search rules

pub given_sample-requires-clause-channel : goal.given_sample-requires-clause-channel
given_sample-requires-clause-channel g c = search rules

pub loop-j-preserved : goal.loop-j-preserved
loop-j-preserved g c = search rules
