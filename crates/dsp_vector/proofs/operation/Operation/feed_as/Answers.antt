use Rattle.std.proofs.Common.{◌∙◌, ap, sym, refl, ◌*◌, ◌/◌, ◌≤◌, map, length, arith, rules, SFits, to_z-of_z, w32}
use Rattle.dsp_defs.specs.Elementwise.{add, negate, abs, scale, shift, clip, convert, sub, mult}
use Rattle.dsp_defs.specs.declared.format.Fmt.TheVariants.{Q7, Q15, Q31}
use Rattle.dsp_defs.specs.declared.script.Block.TheVariants.{Offset, Negate, Abs, Scale, Shift, Clip, To, Add, Sub}
use Rattle.dsp_defs.specs.declared.script.Block.TheVariants.{Mult}
use Rattle.dsp_defs.proofs.FrameLemmas.{length-frames_in}
use Rattle.dsp_filter.proofs.MemorylessUnits.{map-gives, pairs-give}
use Rattle.dsp_vector.proofs.ListedChannels.{route-gives, route-inside}
use Rattle.dsp_vector.proofs.operation.Operation.feed_as.Goals as goal

pub returns-in-Offset-clause-given : goal.returns-in-Offset-clause-given
returns-in-Offset-clause-given g c =
    let fits_value : SFits w32 c.in-Offset.value = search rules in
    rw (c.in-Offset.is, c.change_each.ensures.count)
    (map-gives g.T.Sample.format c.args.channels (Offset c.in-Offset.value) c.args.frames.now _
    (λ x. add g.T.Sample.format x c.in-Offset.value) c.requires.signal refl (λ x. refl)
    (c.change_each.ensures.values ∙ (λ i. map (λ x. add g.T.Sample.format x (to_z-of_z fits_value i))
    c.args.frames.now)) c.change_each.ensures.fits)

pub returns-in-Negate-clause-given : goal.returns-in-Negate-clause-given
returns-in-Negate-clause-given g c =
    rw (c.in-Negate.is, c.change_each-in-Negate.ensures.count)
    (map-gives g.T.Sample.format c.args.channels Negate c.args.frames.now _ (negate g.T.Sample.format)
    c.requires.signal refl (λ x. refl)
    c.change_each-in-Negate.ensures.values c.change_each-in-Negate.ensures.fits)

pub returns-in-Abs-clause-given : goal.returns-in-Abs-clause-given
returns-in-Abs-clause-given g c =
    rw (c.in-Abs.is, c.change_each-in-Abs.ensures.count)
    (map-gives g.T.Sample.format c.args.channels Abs c.args.frames.now _ (abs g.T.Sample.format) c.requires.signal
    refl (λ x. refl)
    c.change_each-in-Abs.ensures.values c.change_each-in-Abs.ensures.fits)

pub returns-in-Scale-clause-given : goal.returns-in-Scale-clause-given
returns-in-Scale-clause-given g c =
    let fits_fract : SFits w32 c.in-Scale.fract = search rules in
    let fits_shift : SFits w32 c.in-Scale.shift = search rules in
    rw (c.in-Scale.is, c.scale_numbers.ensures.count)
    (map-gives g.T.Sample.format c.args.channels (Scale c.in-Scale.fract c.in-Scale.shift) c.args.frames.now _
    (scale g.T.Sample.format c.in-Scale.fract c.in-Scale.shift) c.requires.signal refl (λ x. refl)
    (c.scale_numbers.ensures.values ∙ (λ i. map (scale g.T.Sample.format (to_z-of_z fits_fract i)
    (to_z-of_z fits_shift i)) c.args.frames.now)) c.scale_numbers.ensures.fits)

pub returns-in-Shift-clause-given : goal.returns-in-Shift-clause-given
returns-in-Shift-clause-given g c =
    let fits_shift : SFits w32 c.in-Shift.shift = search rules in
    rw (c.in-Shift.is, c.change_each-in-Shift.ensures.count)
    (map-gives g.T.Sample.format c.args.channels (Shift c.in-Shift.shift) c.args.frames.now _
    (shift g.T.Sample.format c.in-Shift.shift) c.requires.signal refl (λ x. refl)
    (c.change_each-in-Shift.ensures.values ∙ (λ i. map (shift g.T.Sample.format (to_z-of_z fits_shift i))
    c.args.frames.now)) c.change_each-in-Shift.ensures.fits)

pub returns-in-Clip-clause-given : goal.returns-in-Clip-clause-given
returns-in-Clip-clause-given g c =
    let fits_low : SFits w32 c.in-Clip.low = search rules in
    let fits_high : SFits w32 c.in-Clip.high = search rules in
    rw (c.in-Clip.is, c.change_each-in-Clip.ensures.count)
    (map-gives g.T.Sample.format c.args.channels (Clip c.in-Clip.low c.in-Clip.high) c.args.frames.now _
    (clip c.in-Clip.low c.in-Clip.high) c.requires.signal refl (λ x. refl)
    (c.change_each-in-Clip.ensures.values ∙ (λ i. map (clip (to_z-of_z fits_low i) (to_z-of_z fits_high i))
    c.args.frames.now)) c.change_each-in-Clip.ensures.fits)

pub returns-in-Q7-clause-given : goal.returns-in-Q7-clause-given
returns-in-Q7-clause-given g c =
    rw (c.in-To.is, c.in-Q7.is, c.change_each-in-Q7.ensures.count)
    (map-gives g.T.Sample.format c.args.channels (To Q7) c.args.frames.now _ (convert g.T.Sample.format Q7)
    c.requires.signal refl (λ x. refl)
    c.change_each-in-Q7.ensures.values c.change_each-in-Q7.ensures.fits)

pub returns-in-Q15-clause-given : goal.returns-in-Q15-clause-given
returns-in-Q15-clause-given g c =
    rw (c.in-To.is, c.in-Q15.is, c.change_each-in-Q15.ensures.count)
    (map-gives g.T.Sample.format c.args.channels (To Q15) c.args.frames.now _ (convert g.T.Sample.format Q15)
    c.requires.signal refl (λ x. refl)
    c.change_each-in-Q15.ensures.values c.change_each-in-Q15.ensures.fits)

pub returns-in-Q31-clause-given : goal.returns-in-Q31-clause-given
returns-in-Q31-clause-given g c =
    rw (c.in-To.is, c.in-Q31.is, c.change_each-in-Q31.ensures.count)
    (map-gives g.T.Sample.format c.args.channels (To Q31) c.args.frames.now _ (convert g.T.Sample.format Q31)
    c.requires.signal refl (λ x. refl)
    c.change_each-in-Q31.ensures.values c.change_each-in-Q31.ensures.fits)

pub returns-in-Add-clause-given : goal.returns-in-Add-clause-given
returns-in-Add-clause-given g c =
    rw (c.in-Add.is, c.join_pairs.ensures.count)
    (pairs-give g.T.Sample.format c.args.channels Add c.args.frames.now _ (add g.T.Sample.format)
    (rw c.in-Add.is at c.requires.suits.channels) refl (λ x. refl) c.join_pairs.ensures.values
    c.join_pairs.ensures.fits)

pub returns-in-Sub-clause-given : goal.returns-in-Sub-clause-given
returns-in-Sub-clause-given g c =
    rw (c.in-Sub.is, c.join_pairs-in-Sub.ensures.count)
    (pairs-give g.T.Sample.format c.args.channels Sub c.args.frames.now _ (sub g.T.Sample.format)
    (rw c.in-Sub.is at c.requires.suits.channels) refl (λ x. refl) c.join_pairs-in-Sub.ensures.values
    c.join_pairs-in-Sub.ensures.fits)

pub returns-in-Mult-clause-given : goal.returns-in-Mult-clause-given
returns-in-Mult-clause-given g c =
    rw (c.in-Mult.is, c.join_pairs-in-Mult.ensures.count)
    (pairs-give g.T.Sample.format c.args.channels Mult c.args.frames.now _ (mult g.T.Sample.format)
    (rw c.in-Mult.is at c.requires.suits.channels) refl (λ x. refl) c.join_pairs-in-Mult.ensures.values
    c.join_pairs-in-Mult.ensures.fits)

pub returns-in-Route-clause-given : goal.returns-in-Route-clause-given
returns-in-Route-clause-given g c =
    let list = c.in-Route.list in
    let channels = c.args.channels in
    let frames = c.args.frames.now in
    let suits = rw c.in-Route.is at c.requires.suits in
    let room : length frames / channels * length list ≤ length c.args.out.now =
    rw (c.in-Route.is, length-frames_in) at c.requires.room in
    let room' : length frames / channels * length list ≤ length c.route_frames.new.out =
    omega (arith, room, c.route_frames.auto.out) in
    rw (c.in-Route.is, c.as_slice-list.ensures, c.frame_count-count.ensures)
    (route-gives g.T.Sample.format channels list frames c.route_frames.new.out c.requires.signal c.requires.some suits
    room' (rw c.frame_count-count.ensures at (rw c.as_slice-list.ensures at c.route_frames.ensures)))

pub route_frames-requires : goal.route_frames-requires
route_frames-requires g c = record {
  inside = rw c.as_slice-list.ensures (route-inside g.T.Sample.format c.args.channels c.in-Route.list c.requires.some
      (rw c.in-Route.is at c.requires.suits));
  whole = c.requires.signal.whole_frames ∙ ap (λ n. n * c.args.channels)
      (length-frames_in c.args.channels c.args.frames.now ∙ sym c.frame_count-count.ensures);
  room = rw (c.as_slice-list.ensures, c.frame_count-count.ensures)
      (rw (c.in-Route.is, length-frames_in) at c.requires.room);
}

pub overflow_mul-result : goal.overflow_mul-result
overflow_mul-result g c =
    let room = rw (← c.as_slice-list.ensures, ← c.frame_count-count.ensures) at
    (rw (c.in-Route.is, length-frames_in) at c.requires.room) in
    search (rules, room)

pub returns-in-Route-clause-within : goal.returns-in-Route-clause-within
returns-in-Route-clause-within g c = rw (c.as_slice-list.ensures, c.frame_count-count.ensures)
    (rw (c.in-Route.is, length-frames_in) at c.requires.room)
