use Rattle.std.proofs.Common.{◌≡◌, refl, ◌*◌, ◌≤◌, length, arith, lit<}
use Rattle.dsp_defs.specs.Block.{frames_in, channels_after}
use Rattle.dsp_defs.specs.declared.script.Block.TheVariants.{Conj, CmplxMult, CmplxMultReal, MagSquared}
use Rattle.dsp_complex.proofs.Operations.{frames-give}
use Rattle.dsp_complex.proofs.operation.Operation.feed_as.Goals as goal

pub returns-in-Conj-clause-given : goal.returns-in-Conj-clause-given
returns-in-Conj-clause-given g c =
    let wanted : c.args.channels ≡ 2 = rw c.in-Conj.is at c.requires.suits.channels in
    let room : length (frames_in c.args.channels c.args.frames.now) * channels_after c.args.channels Conj ≤ length
    c.args.out.now = rw c.in-Conj.is at c.requires.room in
    let room' : length (frames_in c.args.channels c.args.frames.now) * channels_after c.args.channels Conj ≤ length
    c.give_frames.new.out = omega (arith, room, c.give_frames.auto.out) in
    rw (c.in-Conj.is, c.give_frames.ensures.count, c.frame_count-count.ensures)
    (frames-give g.T.Sample.format c.args.channels 2 2 Conj c.args.frames.now c.give_frames.new.out wanted (lit< tt)
    wanted (λ x. refl) room' (rw c.frame_count-count.ensures at c.give_frames.ensures.values)
    (rw c.frame_count-count.ensures at c.give_frames.ensures.fits))

pub returns-in-CmplxMult-clause-given : goal.returns-in-CmplxMult-clause-given
returns-in-CmplxMult-clause-given g c =
    let wanted : c.args.channels ≡ 4 = rw c.in-CmplxMult.is at c.requires.suits.channels in
    let room : length (frames_in c.args.channels c.args.frames.now) * channels_after c.args.channels CmplxMult ≤
    length c.args.out.now = rw c.in-CmplxMult.is at c.requires.room in
    let room' : length (frames_in c.args.channels c.args.frames.now) * channels_after c.args.channels CmplxMult ≤
    length c.give_frames-in-CmplxMult.new.out = omega (arith, room, c.give_frames-in-CmplxMult.auto.out) in
    rw (c.in-CmplxMult.is, c.give_frames-in-CmplxMult.ensures.count, c.frame_count-count.ensures)
    (frames-give g.T.Sample.format c.args.channels 4 2 CmplxMult c.args.frames.now c.give_frames-in-CmplxMult.new.out
    wanted (lit< tt) refl (λ x. refl) room'
    (rw c.frame_count-count.ensures at c.give_frames-in-CmplxMult.ensures.values)
    (rw c.frame_count-count.ensures at c.give_frames-in-CmplxMult.ensures.fits))

pub returns-in-CmplxMultReal-clause-given : goal.returns-in-CmplxMultReal-clause-given
returns-in-CmplxMultReal-clause-given g c =
    let wanted : c.args.channels ≡ 3 = rw c.in-CmplxMultReal.is at c.requires.suits.channels in
    let room : length (frames_in c.args.channels c.args.frames.now) * channels_after c.args.channels CmplxMultReal ≤
    length c.args.out.now = rw c.in-CmplxMultReal.is at c.requires.room in
    let room' : length (frames_in c.args.channels c.args.frames.now) * channels_after c.args.channels CmplxMultReal ≤
    length c.give_frames-in-CmplxMultReal.new.out = omega (arith, room, c.give_frames-in-CmplxMultReal.auto.out) in
    rw (c.in-CmplxMultReal.is, c.give_frames-in-CmplxMultReal.ensures.count, c.frame_count-count.ensures)
    (frames-give g.T.Sample.format c.args.channels 3 2 CmplxMultReal c.args.frames.now
    c.give_frames-in-CmplxMultReal.new.out wanted (lit< tt) refl (λ x. refl) room'
    (rw c.frame_count-count.ensures at c.give_frames-in-CmplxMultReal.ensures.values)
    (rw c.frame_count-count.ensures at c.give_frames-in-CmplxMultReal.ensures.fits))

pub returns-in-MagSquared-clause-given : goal.returns-in-MagSquared-clause-given
returns-in-MagSquared-clause-given g c =
    let wanted : c.args.channels ≡ 2 = rw c.in-MagSquared.is at c.requires.suits.channels in
    let room : length (frames_in c.args.channels c.args.frames.now) * channels_after c.args.channels MagSquared ≤
    length c.args.out.now = rw c.in-MagSquared.is at c.requires.room in
    let room' : length (frames_in c.args.channels c.args.frames.now) * channels_after c.args.channels MagSquared ≤
    length c.give_frames-in-MagSquared.new.out = omega (arith, room, c.give_frames-in-MagSquared.auto.out) in
    rw (c.in-MagSquared.is, c.give_frames-in-MagSquared.ensures.count, c.frame_count-count.ensures)
    (frames-give g.T.Sample.format c.args.channels 2 1 MagSquared c.args.frames.now
    c.give_frames-in-MagSquared.new.out wanted (lit< tt) refl (λ x. refl) room'
    (rw c.frame_count-count.ensures at c.give_frames-in-MagSquared.ensures.values)
    (rw c.frame_count-count.ensures at c.give_frames-in-MagSquared.ensures.fits))
