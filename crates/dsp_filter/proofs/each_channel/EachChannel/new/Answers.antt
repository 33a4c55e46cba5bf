use Rattle.std.proofs.Common.{◌≤◌, ◌≡◌, sym, subst, map, length, IfOk, arith}
use Rattle.std.specs.Prelude.{All}
use Rattle.std.proofs.lemmas.List.{length-map, length_push}
use Rattle.std.proofs.lemmas.Nat.{mul-le}
use Rattle.std.proofs.lemmas.List.Elements.{All-map, All-push}
use Rattle.dsp_unit.specs.Filter.{IsNewFilter, filter_at, no_filter}
use Rattle.dsp_unit.specs.Unit.{IsNew, most_frames}
use Rattle.dsp_filter.proofs.Units.{new-filters}
use Rattle.dsp_filter.proofs.each_channel.EachChannel.new.Goals as goal

pub of_block-requires-clause-few : goal.of_block-requires-clause-few
of_block-requires-clause-few g c =
    let all = mul-le c.args.frames 1 c.args.frames c.args.channels (omega arith) (omega (arith, c.requires.channels)) in
    omega (arith, all, c.requires.samples)

pub most_frames-requires-clause-fits : goal.most_frames-requires-clause-fits
most_frames-requires-clause-fits g c =
    let most = most_frames c.args.block.now c.args.frames in
    let all = mul-le most 1 most c.args.channels (omega arith) (omega (arith, c.requires.channels)) in
    omega (arith, all, c.requires.room)

pub of_filters-requires-clause-alike : goal.of_filters-requires-clause-alike
of_filters-requires-clause-alike g c =
    let filter = g.F.Filter.filter in
    let filters = c.loop.filters.items in
    let some : 1 ≤ length (map filter filters) = omega (arith, length-map filters filter, c.loop.invariant.count) in
    new-filters c.args.block.now g.T.Sample.format c.args.frames (map filter filters) some
    (g.met.F.Filter.by_channel c.args.block.now c.requires.block)
    (All-map (IsNewFilter c.args.block.now g.T.Sample.format c.args.frames) filter filters c.loop.invariant.fresh)

pub of_filters-requires-clause-fresh : goal.of_filters-requires-clause-fresh
of_filters-requires-clause-fresh g c =
    let filter = g.F.Filter.filter in
    let filters = c.loop.filters.items in
    let some : 1 ≤ length (map filter filters) = omega (arith, length-map filters filter, c.loop.invariant.count) in
    let fresh = All-map (IsNewFilter c.args.block.now g.T.Sample.format c.args.frames) filter filters
    c.loop.invariant.fresh in
    subst (λ b. All (IsNewFilter b g.T.Sample.format c.args.frames) (map filter filters))
    (sym (fresh 0 no_filter some).block) fresh

pub of_filters-requires-clause-room : goal.of_filters-requires-clause-room
of_filters-requires-clause-room g c =
    let filter = g.F.Filter.filter in
    let filters = c.loop.filters.items in
    let some : 1 ≤ length (map filter filters) = omega (arith, length-map filters filter, c.loop.invariant.count) in
    let fresh = All-map (IsNewFilter c.args.block.now g.T.Sample.format c.args.frames) filter filters
    c.loop.invariant.fresh in
    subst (λ b. c.most_frames.result ≡ most_frames b c.args.frames) (sym (fresh 0 no_filter some).block)
    c.most_frames.ensures

pub loop-preserved : goal.loop-preserved
loop-preserved g c =
    let New : g.row.F.Denot → Type 0 = λ f. IsNewFilter c.args.block.now g.T.Sample.format c.args.frames
    (g.F.Filter.filter f) in
    rw c.in_ok-push.ensures.items
    (record {
      count = rw length_push (omega (arith, c.loop.invariant.count));
      fresh = All-push New c.loop.filters.items c.in_ok-of_block.field-0 c.loop.invariant.fresh
          c.in_ok-of_block.ensures;
    })

pub returns : goal.returns
returns g c =
    let filter = g.F.Filter.filter in
    let filters = c.loop.filters.items in
    let count : length filters ≡ c.args.channels = omega (arith, c.loop.invariant.count) in
    let some : 1 ≤ length (map filter filters) = omega (arith, length-map filters filter, count) in
    let fresh = All-map (IsNewFilter c.args.block.now g.T.Sample.format c.args.frames) filter filters
    c.loop.invariant.fresh in
    subst (λ b. IfOk c.of_filters.result (IsNew b g.T.Sample.format c.args.channels c.args.frames))
    (fresh 0 no_filter some).block
    (subst (λ n. IfOk c.of_filters.result (IsNew (filter_at (map filter filters) 0).block g.T.Sample.format n
    c.args.frames)) count c.of_filters.ensures)
