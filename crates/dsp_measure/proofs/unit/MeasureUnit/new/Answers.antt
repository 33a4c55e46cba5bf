use Rattle.std.proofs.Common.{◌≡◌, ◌∙◌, ap, sym, subst, ◌*◌, ◌<◌, pos, replicate, false, rules}
use Rattle.dsp_unit.specs.Unit.{IsNew}
use Rattle.dsp_defs.specs.Kept.{FitsAfter}
use Rattle.dsp_measure.specs.Measures.{block_of, parts_of, size_of}
use Rattle.dsp_measure.proofs.MeasureUnits.{measure-new, zeros-fit, enough-channels, state}
use Rattle.dsp_measure.proofs.unit.MeasureUnit.new.Goals as goal

pub invariant_of-result : goal.invariant_of-result
invariant_of-result c =
    let m = c.of-measure.result in
    let narrow : c.args.channels < 256 = search rules in
    let count : c.parts.result * c.size.result ≡ parts_of m c.args.channels * size_of m =
    (λ i. (c.parts.ensures ∙ ap (parts_of m) c.from.ensures) i * c.size.ensures i) in
    let zeros = c.in_ok-kept.ensures ∙ ap (λ k. replicate k (pos 0)) count in
    record {
      enough = enough-channels m c.args.format c.args.channels c.args.block.now c.of-measure.ensures
          c.requires.channels c.requires.suits;
      narrow = narrow;
      few = c.requires.samples;
      fits = (
        0,
        subst (FitsAfter c.args.format c.args.channels (block_of m) 0) (sym zeros)
            (zeros-fit c.args.format c.args.channels m),
      );
    }

pub returns : goal.returns
returns c =
    let m = c.of-measure.result in
    let count : c.parts.result * c.size.result ≡ parts_of m c.args.channels * size_of m =
    (λ i. (c.parts.ensures ∙ ap (parts_of m) c.from.ensures) i * c.size.ensures i) in
    let zeros = c.in_ok-kept.ensures ∙ ap (λ k. replicate k (pos 0)) count in
    subst (λ kept. IsNew c.args.block.now c.args.format c.args.channels c.args.frames
    (state m c.args.format c.args.channels c.args.frames kept false)) (sym zeros)
    (measure-new m c.args.format c.args.channels c.args.frames c.args.block.now c.of-measure.ensures)
