use Rattle.std.proofs.Common.{◌≡◌, ◌∙◌, sym, subst, Some, ◌/◌, ◌<◌, length, map, arith, below_more}
use Rattle.std.proofs.lemmas.List.{length-map}
use Rattle.dsp_defs.specs.Kept.{Fits, FitsChannel}
use Rattle.dsp_unit.specs.Filter.{filter_at}
use Rattle.dsp_unit.specs.Channels.{numbers_in}
use Rattle.dsp_unit.proofs.ChannelRestores.{fits-whole}
use Rattle.dsp_filter.proofs.KeptLists.{place-at, fits-here, fits-all, piece-room}
use Rattle.dsp_filter.proofs.kept.place_channels.Goals as goal

pub returns-then-numbers-channels-ne0-clause-least : goal.returns-then-numbers-channels-ne0-clause-least
returns-then-numbers-channels-ne0-clause-least g c = λ n here.
    (let fits : Fits g.T.Sample.format (length c.args.filters.now)
    (filter_at (map g.F.Filter.filter c.args.filters.now) 0).block c.args.numbers.now = (n, here) in
    absurd (c.if-numbers-channels-ne0.true (fits-whole g.T.Sample.format _ c.requires.by_channel
    (length c.args.filters.now) (omega (arith, c.requires.some, length-map c.args.filters.now g.F.Filter.filter))
    c.args.numbers.now fits)))

pub returns-in_default-clause-least : goal.returns-in_default-clause-least
returns-in_default-clause-least g c = λ n here. (let fits : Fits g.T.Sample.format (length c.args.filters.now)
    (filter_at (map g.F.Filter.filter c.args.filters.now) 0).block c.args.numbers.now = (n, here) in
    absurd (c.in_default.not-Some _
    (place-at _ _ g.F.Filter.filter c.args.filters.now c.requires c.args.numbers.now fits 0 c.index-filters-0.result
    c.numbers_of.result.now c.place.result
    (omega (arith, c.requires.some, length-map c.args.filters.now g.F.Filter.filter)) c.index-filters-0.is
    c.numbers_of.ensures c.place.ensures.least)))

pub returns-in_default-place-clause-least : goal.returns-in_default-place-clause-least
returns-in_default-place-clause-least g c = λ n here.
    (let fits : Fits g.T.Sample.format (length c.args.filters.now)
    (filter_at (map g.F.Filter.filter c.args.filters.now) 0).block c.args.numbers.now = (n, here) in
    absurd (c.in_default-place.not-Some _
    (place-at _ _ g.F.Filter.filter c.args.filters.now c.requires c.args.numbers.now fits c.loop-channel.channel
    c.index-filters-channel.result c.numbers_of-in-loop-channel.result.now c.place-in-loop-channel.result
    c.loop-channel-test.true c.index-filters-channel.is c.numbers_of-in-loop-channel.ensures
    c.place-in-loop-channel.ensures.least)))

pub returns-then-other-place-clause-least : goal.returns-then-other-place-clause-least
returns-then-other-place-clause-least g c = λ n here.
    (let fits : Fits g.T.Sample.format (length c.args.filters.now)
    (filter_at (map g.F.Filter.filter c.args.filters.now) 0).block c.args.numbers.now = (n, here) in
    let first = place-at _ _ g.F.Filter.filter c.args.filters.now c.requires c.args.numbers.now fits 0
    c.index-filters-0.result c.numbers_of.result.now c.place.result
    (omega (arith, c.requires.some, length-map c.args.filters.now g.F.Filter.filter)) c.index-filters-0.is
    c.numbers_of.ensures c.place.ensures.least in
    let here = place-at _ _ g.F.Filter.filter c.args.filters.now c.requires c.args.numbers.now fits
    c.loop-channel.channel c.index-filters-channel.result c.numbers_of-in-loop-channel.result.now
    c.place-in-loop-channel.result
    c.loop-channel-test.true c.index-filters-channel.is c.numbers_of-in-loop-channel.ensures
    c.place-in-loop-channel.ensures.least in
    let both : Some c.in-Some-place.other ≡ Some c.in-Some.place = sym c.in-Some-place.is ∙ here ∙ sym first ∙
    c.in-Some.is in
    let same : c.in-Some-place.other ≡ c.in-Some.place = cc in
    absurd (c.if-other-place.true same))

pub loop-channel-preserved : goal.loop-channel-preserved
loop-channel-preserved g c =
    let filter = g.F.Filter.filter in
    let states = map filter c.args.filters.now in
    below_more (λ d. FitsChannel (filter_at states d).format (filter_at states d).block c.in-Some.place
    (numbers_in (length c.args.numbers.now / length c.args.filters.now) c.args.numbers.now d))
    c.loop-channel.channel
    c.loop-channel.invariant
    (fits-here _ _ filter c.args.filters.now c.requires c.args.numbers.now c.in-Some.place c.loop-channel.channel
    c.index-filters-channel.result c.numbers_of-in-loop-channel.result.now c.loop-channel-test.true
    c.index-filters-channel.is
    c.numbers_of-in-loop-channel.ensures
    (subst (λ n. FitsChannel (filter c.index-filters-channel.result).format
    (filter c.index-filters-channel.result).block n c.numbers_of-in-loop-channel.result.now) c.if-other-place.false
    c.in-Some-place.ensures.fits))

pub returns-clause-fits : goal.returns-clause-fits
returns-clause-fits g c =
    fits-all _ _ g.F.Filter.filter c.args.filters.now c.requires c.args.numbers.now c.in-Some.place
    c.if-numbers-channels-ne0.false
    (λ d h. c.loop-channel.invariant d (omega (arith, h, c.loop-channel-test.false)))

pub returns-clause-least : goal.returns-clause-least
returns-clause-least g c = λ n here.
    sym c.in-Some.is
    ∙ place-at _ _ g.F.Filter.filter c.args.filters.now c.requires c.args.numbers.now (n, here) 0
    c.index-filters-0.result c.numbers_of.result.now c.place.result
    (omega (arith, c.requires.some, length-map c.args.filters.now g.F.Filter.filter)) c.index-filters-0.is
    c.numbers_of.ensures c.place.ensures.least

pub numbers_of-requires : goal.numbers_of-requires
numbers_of-requires g c =
    let some : 0 < length c.args.filters.now = omega (
      arith,
      c.requires.some,
      length-map c.args.filters.now g.F.Filter.filter,
    ) in
    piece-room (length c.args.numbers.now) (length c.args.filters.now) 0 some

pub numbers_of-requires-in-loop-channel : goal.numbers_of-requires-in-loop-channel
numbers_of-requires-in-loop-channel g c =
    piece-room (length c.args.numbers.now) (length c.args.filters.now) c.loop-channel.channel c.loop-channel-test.true
