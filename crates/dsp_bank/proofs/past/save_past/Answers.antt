use Rattle.std.proofs.Common.{◌≡◌, ◌≢◌, ◌∷◌, [], ◌∙◌, ◌+◌, ◌*◌, ◌<◌, ap, sym, length, below_more, rules}
use Rattle.std.proofs.lemmas.List.{length-map}
use Rattle.dsp_defs.proofs.SumLemmas.{sample-map}
use Rattle.dsp_filter.proofs.Places.{same-channel}
use Rattle.dsp_bank.proofs.Amounts.{four-begins, group-inside, newest-inside, other-group, second-inside}
use Rattle.dsp_bank.proofs.Groups.{group-written, group-other}
use Rattle.dsp_bank.proofs.past.save_past.Goals as goal

pub offset_bounds-kept-at : goal.offset_bounds-kept-at
offset_bounds-kept-at g c =
    let below : (c.loop-channel.channel * c.args.sections + c.args.section) * 4 < length c.loop-channel.kept =
    four-begins c.args.sections c.args.row c.loop-channel.channel c.args.section (length c.loop-channel.kept)
    c.loop-channel-test.true c.requires.section (c.loop-channel.auto.kept ∙ c.requires.size) in
    search rules

pub loop-channel-preserved : goal.loop-channel-preserved
loop-channel-preserved g c =
    let number = g.T.Sample.number in
    let i = c.loop-channel.channel in
    let row = c.args.row in
    let sections = c.args.sections in
    let section = c.args.section in
    let kept = c.loop-channel.kept in
    let group = i * sections + section in
    let piece = c.put_four.new.out in
    let frames = c.args.frames.now in
    let outputs = c.args.outputs.now in
    let inside : i < row = c.loop-channel-test.true in
    let within = group-inside sections row i section inside c.requires.section in
    let whole : length kept ≡ row * sections * 4 = c.loop-channel.auto.kept ∙ c.requires.size in
    let size : length piece ≡ 4 = sym (length-map piece number) ∙ ap length c.put_four.ensures in
    let newest = (c.args.count + 1) * row + i in
    let second = c.args.count * row + i in
    let in_frames = newest-inside c.args.count row i (length frames) inside c.requires.frames in
    let in_outputs = newest-inside c.args.count row i (length outputs) inside c.requires.outputs in
    let x1 = sample-map number frames newest c.index-frames-newest.result in_frames c.index-frames-newest.is in
    let x2 = sample-map number frames second c.index-frames-second.result
    (second-inside c.args.count row i (length frames) inside c.requires.frames) c.index-frames-second.is in
    let y1 = sample-map number outputs newest c.index-outputs-newest.result in_outputs c.index-outputs-newest.is in
    let y2 = sample-map number outputs second c.index-outputs-second.result
    (second-inside c.args.count row i (length outputs) inside c.requires.outputs) c.index-outputs-second.is in
    record {
      fours = below_more _ i
          (λ j h.
          group-other number kept piece (row * sections) group whole within size (j * sections + section)
          (other-group sections j i section c.requires.section h)
          ∙ c.loop-channel.invariant.fours j h)
          (group-written number kept piece (row * sections) group whole within size ∙ c.put_four.ensures
          ∙ (λ k. x1 k ∷ x2 k ∷ y1 k ∷ y2 k ∷ []));
      others = λ j s h k apart.
          let other : j * sections + s ≢ group = λ e. apart (same-channel sections j i s section k c.requires.section
          e) in
          group-other number kept piece (row * sections) group whole within size (j * sections + s) other
          ∙ c.loop-channel.invariant.others j s h k apart;
    }
