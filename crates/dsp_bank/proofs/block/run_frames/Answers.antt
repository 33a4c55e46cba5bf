use Rattle.std.proofs.Common.{◌≡◌, ◌∙◌, ap, sym, subst, ◌+◌, ◌-◌, ◌*◌, ◌/◌, length, map}
use borrow.Rule.Slice.PartMut.{put_mid}
use Rattle.dsp_defs.specs.Streaming.{GoesOn}
use Rattle.dsp_defs.specs.declared.script.Block.TheVariants.{Biquad}
use Rattle.dsp_unit.specs.Channels.{numbers_in, samples_in}
use Rattle.dsp_biquad.specs.Sections.{block_acts}
use Rattle.dsp_bank.specs.Rows.{channel_after}
use Rattle.dsp_bank.proofs.BlockFrames.{taken-frames, given-frames}
use Rattle.dsp_bank.proofs.block.run_frames.Goals as goal

pub returns-clause-goes : goal.returns-clause-goes
returns-clause-goes g c = λ i h.
    let number = g.T.Sample.number in
    let row = c.args.row in
    let count = c.args.count in
    let acts = block_acts g.T.Sample.format (Biquad c.args.post_shift (map number c.args.coefficients.now)) in
    let size = 4 * (length c.args.coefficients.now / g.T.BiquadSample.SIZE) in
    let old = numbers_in size (map number c.args.kept.now) i in
    let new = numbers_in size (map number c.run_sections.new.kept) i in
    let written = c.copy_from_slice.new.self in
    let outputs = c.run_sections.new.outputs in
    let taken = taken-frames number row count i h c.args.inner.now written c.requires.inner
    (ap length c.copy_from_slice.ensures.after ∙ c.requires.frames)
    ∙ ap (λ l. samples_in row count (map number l) i) c.copy_from_slice.ensures.after in
    let before = channel_after row count (map number (put_mid (2 * row) (length c.args.inner.now - 2 * row)
    c.args.inner.now written)) i in
    let long : length outputs ≡ (count + 2) * row = c.run_sections.auto.outputs ∙ c.requires.outputs in
    let given = given-frames number row count i h outputs long
    ∙ ap (λ l. samples_in row count (map number l) i) (sym c.copy_from_slice-2.ensures.after) in
    subst (λ xs. GoesOn acts.gives acts.keeps old new xs
    (samples_in row count (map number c.copy_from_slice-2.new.self) i)) taken
    (subst (λ ys. GoesOn acts.gives acts.keeps old new before ys) given (c.run_sections.ensures.goes i h))
