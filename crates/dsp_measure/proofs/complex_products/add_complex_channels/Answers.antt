use Rattle.std.proofs.Common.{◌∙◌, sym, ◌<◌, ◌/◌, ◌+◌, ◌*◌, length}
use Rattle.dsp_unit.specs.Channels.{samples_in}
use Rattle.dsp_defs.specs.Signal.{sample}
use Rattle.dsp_unit.proofs.ChannelFrames.{length-samples_in, sample-values}
use Rattle.dsp_measure.proofs.complex_products.add_complex_channels.Goals as goal

pub returns-clause-sums : goal.returns-clause-sums
returns-clause-sums g c =
    let frames = c.args.frames.now in
    let channels = c.args.channels in
    let count = length frames / channels in
    let of = samples_in channels count frames in
    c.add_complex.ensures.sums (of 0) (of 1) (of 2) (of 3)
    (length-samples_in channels count frames 0 ∙ sym c.frame_count.ensures)
    (λ n s short is. let less : n < count = rw c.frame_count.ensures at short in (
      is.0 ∙ sym (sample-values count (λ k. sample frames (k * channels + 0)) n less),
      is.1.0 ∙ sym (sample-values count (λ k. sample frames (k * channels + 1)) n less),
      is.1.1.0 ∙ sym (sample-values count (λ k. sample frames (k * channels + 2)) n less),
      is.1.1.1 ∙ sym (sample-values count (λ k. sample frames (k * channels + 3)) n less),
    ))
