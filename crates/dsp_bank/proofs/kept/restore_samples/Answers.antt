use Rattle.std.proofs.Common.{◌∙◌, ap, sym, subst, ◌<◌, length, map, take_all, arith}
use Rattle.dsp_defs.specs.Formats.{word}
use Rattle.dsp_defs.specs.Kept.{Each, IsOfKind, in_words}
use Rattle.dsp_unit.proofs.ChannelKept.{length-words}
use Rattle.dsp_bank.proofs.Written.{sample-more}
use Rattle.dsp_bank.proofs.kept.restore_samples.Goals as goal

pub sample_at-requires-clause-inside : goal.sample_at-requires-clause-inside
sample_at-requires-clause-inside g c =
    let size = length-words IsOfKind (word g.T.Sample.format) (length c.args.samples.now) c.args.numbers.now
    c.requires in
    omega (arith, size, c.loop-k-test.true)

pub sample_at-requires-clause-fits : goal.sample_at-requires-clause-fits
sample_at-requires-clause-fits g c =
    let word = word g.T.Sample.format in
    let size = length-words IsOfKind word (length c.args.samples.now) c.args.numbers.now c.requires in
    subst (λ n. Each IsOfKind (in_words word n) c.args.numbers.now) (sym size) c.requires

pub loop-k-preserved : goal.loop-k-preserved
loop-k-preserved g c =
    let number = g.T.Sample.number in
    let k = c.loop-k.k in
    let samples = c.loop-k.samples in
    let numbers = c.args.numbers.now in
    let size = length-words IsOfKind (word g.T.Sample.format) (length c.args.samples.now) numbers c.requires in
    let room : k < length samples = omega (arith, c.loop-k-test.true, c.loop-k.auto.samples) in
    let inside : k < length numbers = omega (arith, size, c.loop-k-test.true) in
    sample-more number samples numbers k c.sample_at.result room inside c.sample_at.ensures c.loop-k.invariant

pub returns : goal.returns
returns g c =
    let number = g.T.Sample.number in
    let size = length-words IsOfKind (word g.T.Sample.format) (length c.args.samples.now) c.args.numbers.now
    c.requires in
    let all = take_all c.loop-k.k c.loop-k.samples (omega (arith, c.loop-k-test.false, c.loop-k.auto.samples)) in
    let all' = take_all c.loop-k.k c.args.numbers.now (omega (arith, c.loop-k-test.false, size)) in
    ap (map number) (sym all) ∙ c.loop-k.invariant ∙ all'
