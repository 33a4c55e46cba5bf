use Rattle.std.proofs.Common.{ap, rules, SFits, to_z-of_z, ◌∙◌, sym, ◌<◌, ◌+◌, ◌*◌, ◌/◌, length}
use mir.Syntax.{w64}
use Rattle.dsp_unit.specs.Channels.{samples_in}
use Rattle.dsp_defs.specs.Signal.{sample}
use Rattle.dsp_defs.proofs.FrameLemmas.{sample-within}
use Rattle.dsp_measure.specs.Sums.{with_products}
use Rattle.dsp_unit.proofs.ChannelFrames.{length-samples_in, sample-values}
use Rattle.dsp_measure.proofs.products.add_strided.Goals as goal

pub add_products-requires-clause-places : goal.add_products-requires-clause-places
add_products-requires-clause-places g c n short =
    let size = length c.args.frames.now in
    let less : n < size / c.args.channels = rw c.frame_count.ensures at short in (
      sample-within size c.args.channels n c.args.first less c.requires.first,
      (sample-within size c.args.channels n c.args.second less c.requires.second, c.requires.in_format),
    )

pub returns-clause-sum : goal.returns-clause-sum
returns-clause-sum g c =
    let frames = c.args.frames.now in
    let channels = c.args.channels in
    let count = length frames / channels in
    let first = samples_in channels count frames c.args.first in
    let second = samples_in channels count frames c.args.second in
    let fits : SFits w64 c.add_products.result = search rules in
    rw (to_z-of_z fits)
    (c.add_products.ensures.sum first second (length-samples_in channels count frames c.args.first ∙
    sym c.frame_count.ensures)
    (λ n s short is. let less : n < count = rw c.frame_count.ensures at short in (
      is.0 ∙ sym (sample-values count (λ k. sample frames (k * channels + c.args.first)) n less),
      is.1 ∙ sym (sample-values count (λ k. sample frames (k * channels + c.args.second)) n less),
    ))
    ∙ ap (λ s. with_products g.T.Sample.format s first second) (to_z-of_z c.ranges.start))
