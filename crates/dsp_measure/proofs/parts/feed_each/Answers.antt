use Rattle.std.proofs.Common.{◌≡◌, ◌∙◌, ap, sym, subst, rules, ℤ, List, take, drop, ◌+◌, ◌-◌, ◌*◌, ◌/◌, ◌<◌, ◌≤◌, ℕ}
use Rattle.std.proofs.Common.{length, arith}
use Rattle.dsp_unit.specs.Channels.{numbers_in}
use Rattle.dsp_defs.specs.Kept.{Each, IsOfKind, kinds_by}
use Rattle.dsp_measure.specs.Measures.{block_of, parts_of, size_of, price_of, PartFeeds}
use Rattle.dsp_measure.proofs.MeasureParts.{length-kept, kinds-each, parts-more, parts-feed, PartsSoFar}
use Rattle.dsp_unit.proofs.ChannelKept.{length-numbers_in}
use Rattle.dsp_measure.proofs.SumLaws.{steps-more}
use Rattle.dsp_measure.proofs.parts.feed_each.Goals as goal

-- the numbers of a part stand within those of all
within : (part parts size s old new : ℕ) → part < parts → s ≡ size → old ≡ parts * size → new ≡ old → part * s + s ≤ new
within part parts size s old new less same whole kept =
    let room : part * size + size ≤ parts * size = grind (arith, less) in
    rw same (omega (arith, room, whole, kept))

cut : (size part s : ℕ) (xs : List ℤ) → s ≡ size → numbers_in size xs part ≡ take (part * s + s - part * s)
    (drop (part * s) xs)
cut size part s xs same =
    let one : s ≡ part * s + s - part * s = omega arith in
    (λ i. take (sym same i) (drop (part * sym same i) xs)) ∙ ap (λ k. take k (drop (part * s) xs)) one

pub overflow_mul-start : goal.overflow_mul-start
overflow_mul-start g c =
    let whole = length-kept g.T.Sample.format c.args.channels c.args.measure IsOfKind c.requires.kept.0
    c.args.kept.now c.requires.kept.1 in
    let here : c.loop-part.part * c.size-size.result + c.size-size.result ≤ length c.loop-part.kept =
    within c.loop-part.part (parts_of c.args.measure c.args.channels) (size_of c.args.measure) c.size-size.result
    (length c.args.kept.now) (length c.loop-part.kept)
    (omega (arith, c.loop-part-test.true, c.parts-part-end.ensures)) c.size-size.ensures whole c.loop-part.auto.kept
    in
    search rules

pub overflow_add-numbers : goal.overflow_add-numbers
overflow_add-numbers g c =
    let whole = length-kept g.T.Sample.format c.args.channels c.args.measure IsOfKind c.requires.kept.0
    c.args.kept.now c.requires.kept.1 in
    let here : c.loop-part.part * c.size-size.result + c.size-size.result ≤ length c.loop-part.kept =
    within c.loop-part.part (parts_of c.args.measure c.args.channels) (size_of c.args.measure) c.size-size.result
    (length c.args.kept.now) (length c.loop-part.kept)
    (omega (arith, c.loop-part-test.true, c.parts-part-end.ensures)) c.size-size.ensures whole c.loop-part.auto.kept
    in
    search rules

pub offset_bounds-kept-start : goal.offset_bounds-kept-start
offset_bounds-kept-start g c =
    let whole = length-kept g.T.Sample.format c.args.channels c.args.measure IsOfKind c.requires.kept.0
    c.args.kept.now c.requires.kept.1 in
    let here : c.loop-part.part * c.size-size.result + c.size-size.result ≤ length c.loop-part.kept =
    within c.loop-part.part (parts_of c.args.measure c.args.channels) (size_of c.args.measure) c.size-size.result
    (length c.args.kept.now) (length c.loop-part.kept)
    (omega (arith, c.loop-part-test.true, c.parts-part-end.ensures)) c.size-size.ensures whole c.loop-part.auto.kept
    in
    search rules

pub slice_bounds-numbers-end : goal.slice_bounds-numbers-end
slice_bounds-numbers-end g c =
    let whole = length-kept g.T.Sample.format c.args.channels c.args.measure IsOfKind c.requires.kept.0
    c.args.kept.now c.requires.kept.1 in
    let here : c.loop-part.part * c.size-size.result + c.size-size.result ≤ length c.loop-part.kept =
    within c.loop-part.part (parts_of c.args.measure c.args.channels) (size_of c.args.measure) c.size-size.result
    (length c.args.kept.now) (length c.loop-part.kept)
    (omega (arith, c.loop-part-test.true, c.parts-part-end.ensures)) c.size-size.ensures whole c.loop-part.auto.kept
    in
    search rules

pub feed_part-requires-clause-kept : goal.feed_part-requires-clause-kept
feed_part-requires-clause-kept g c =
    let format = g.T.Sample.format in
    let m = c.args.measure in
    let part = c.loop-part.part in
    let n = c.requires.kept.0 in
    let kinds = kinds_by format (block_of m) n in
    let old = kinds-each format c.args.channels m IsOfKind n c.args.kept.now c.requires.kept.1 part
    (omega (arith, c.loop-part-test.true, c.parts-part-end.ensures)) in
    let here : Each IsOfKind kinds (numbers_in (size_of m) c.loop-part.kept part) =
    subst (Each IsOfKind kinds) (sym (c.loop-part.invariant.so_far.left part (omega arith))) old in (
      n,
      subst (Each IsOfKind kinds) (cut (size_of m) part c.size-size.result c.loop-part.kept c.size-size.ensures)
          here,
      c.requires.kept.2,
    )

pub loop-part-preserved : goal.loop-part-preserved
loop-part-preserved g c =
    let format = g.T.Sample.format in
    let m = c.args.measure in
    let part = c.loop-part.part in
    let channels = c.args.channels in
    let frames = c.args.frames.now in
    let s = c.size-size.result in
    let price = price_of m * (length frames / channels) in
    let whole = length-kept g.T.Sample.format c.args.channels c.args.measure IsOfKind c.requires.kept.0
    c.args.kept.now c.requires.kept.1 in
    let here : c.loop-part.part * c.size-size.result + c.size-size.result ≤ length c.loop-part.kept =
    within c.loop-part.part (parts_of c.args.measure c.args.channels) (size_of c.args.measure) c.size-size.result
    (length c.args.kept.now) (length c.loop-part.kept)
    (omega (arith, c.loop-part-test.true, c.parts-part-end.ensures)) c.size-size.ensures whole c.loop-part.auto.kept
    in
    let size = c.size-size.ensures in
    let long : length c.feed_part.new.numbers ≡ size_of m =
    c.feed_part.auto.numbers ∙ ap length (sym (cut (size_of m) part s c.loop-part.kept size)) ∙
    length-numbers_in (size_of m) (parts_of m channels) c.loop-part.kept (c.loop-part.auto.kept ∙ whole) part
    (omega (arith, c.loop-part-test.true, c.parts-part-end.ensures)) in
    let feeds : PartFeeds format m channels part frames (numbers_in (size_of m) c.loop-part.kept part)
    c.feed_part.new.numbers = subst (λ l. PartFeeds format m channels part frames l c.feed_part.new.numbers)
    (sym (cut (size_of m) part s c.loop-part.kept size)) c.feed_part.ensures.fed in
    record {
      so_far = parts-more format m channels part (part * s) (part * s + s - part * s) frames c.args.kept.now
          c.loop-part.kept c.feed_part.new.numbers (ap (λ k. part * k) size) (omega (arith, size)) long
          (subst (λ k. part * k + k ≤ length c.loop-part.kept) size here) c.loop-part.invariant.so_far feeds;
      steps = steps-more c.args.steps.now c.loop-part.steps c.feed_part.new.steps part price
          c.loop-part.invariant.steps c.feed_part.ensures.steps;
    }

pub returns-clause-fed : goal.returns-clause-fed
returns-clause-fed g c =
    let m = c.args.measure in
    let whole = length-kept g.T.Sample.format c.args.channels m IsOfKind c.requires.kept.0 c.args.kept.now
    c.requires.kept.1 in
    let done : c.loop-part.part ≡ parts_of m c.args.channels =
    omega (arith, c.loop-part-test.false, c.loop-part.auto.part-end, c.parts-part-end.ensures) in
    parts-feed g.T.Sample.format m c.args.channels c.args.frames.now c.args.kept.now c.loop-part.kept whole
    c.loop-part.auto.kept
    (subst (PartsSoFar g.T.Sample.format m c.args.channels c.args.frames.now c.args.kept.now c.loop-part.kept) done
    c.loop-part.invariant.so_far)
