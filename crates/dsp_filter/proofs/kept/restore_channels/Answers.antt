use Rattle.std.proofs.Common.{◌≡◌, ◌∙◌, ◌<◌, ◌/◌, sym, subst, length, map, ◌+◌, get_or, arith}
use Rattle.std.proofs.lemmas.List.{length-map, map-set}
use Rattle.dsp_defs.specs.Kept.{FitsChannel}
use Rattle.dsp_unit.specs.Filter.{FilterState, FilterRestores, filter_at, no_filter}
use Rattle.dsp_unit.specs.Channels.{numbers_in}
use Rattle.dsp_filter.proofs.KeptLists.{fits-each, piece-room}
use Rattle.dsp_filter.proofs.Rounds.{RestoredSoFar, restored-more, called-at}
use Rattle.dsp_filter.proofs.kept.restore_channels.Goals as goal

pub restore-requires-clause-running : goal.restore-requires-clause-running
restore-requires-clause-running g c =
    let inside : c.loop-channel.channel < length (map g.F.Filter.filter c.args.filters.now) =
    omega (arith, c.loop-channel-test.true, length-map c.args.filters.now g.F.Filter.filter) in
    rw (called-at g.F.Filter.filter c.args.filters.now c.loop-channel.filters c.loop-channel.channel
    c.index-filters-channel.result (omega arith) c.loop-channel.invariant.left)
    ((c.requires.alike.alike c.loop-channel.channel no_filter inside).ended ∙ c.requires.running)

pub restore-requires-clause-fits : goal.restore-requires-clause-fits
restore-requires-clause-fits g c =
    let filter = g.F.Filter.filter in
    let olds = map filter c.args.filters.now in
    let channel = c.loop-channel.channel in
    let size : length olds ≡ length c.args.filters.now = length-map c.args.filters.now filter in
    let inside : channel < length olds = omega (arith, c.loop-channel-test.true, size) in
    let fits = rw (← size) at c.requires.fits in
    let each = fits-each _ _ olds c.requires.alike c.args.numbers.now fits channel inside in
    let at_channel : filter (get_or c.loop-channel.filters channel c.index-filters-channel.result) ≡ filter_at olds
    channel =
    called-at filter c.args.filters.now c.loop-channel.filters channel c.index-filters-channel.result (omega arith)
    c.loop-channel.invariant.left in
    let cut : numbers_in (length c.args.numbers.now / length olds) c.args.numbers.now channel ≡
    c.numbers_of.result.now = (λ i. numbers_in (length c.args.numbers.now / size i) c.args.numbers.now channel) ∙
    sym c.numbers_of.ensures in (
      fits.0,
      subst (λ (f : FilterState). FitsChannel f.format f.block fits.0 c.numbers_of.result.now) (sym at_channel)
          (subst (λ xs. FitsChannel (filter_at olds channel).format (filter_at olds channel).block fits.0 xs) cut each),
    )

pub loop-channel-preserved : goal.loop-channel-preserved
loop-channel-preserved g c =
    let filter = g.F.Filter.filter in
    let olds = map filter c.args.filters.now in
    let news = map filter c.loop-channel.filters in
    let channel = c.loop-channel.channel in
    let each = length c.args.numbers.now / length c.args.filters.now in
    let inside : channel < length olds = omega (arith, c.loop-channel-test.true, length-map c.args.filters.now filter)
    in
    let at_channel : filter (get_or c.loop-channel.filters channel c.index-filters-channel.result) ≡ filter_at olds
    channel =
    called-at filter c.args.filters.now c.loop-channel.filters channel c.index-filters-channel.result (omega arith)
    c.loop-channel.invariant.left in
    let restored : FilterRestores (filter_at olds channel) (filter c.restore.new.self)
    (numbers_in each c.args.numbers.now channel) =
    subst (λ xs. FilterRestores (filter_at olds channel) (filter c.restore.new.self) xs) c.numbers_of.ensures
    (subst (λ f. FilterRestores f (filter c.restore.new.self) c.numbers_of.result.now) at_channel c.restore.ensures) in
    subst (λ fs. RestoredSoFar olds fs (channel + 1) each c.args.numbers.now)
    (sym (map-set filter c.loop-channel.filters channel c.restore.new.self))
    (restored-more _ _ olds c.requires.alike news channel each c.args.numbers.now (filter c.restore.new.self) inside
    c.loop-channel.invariant restored)

pub numbers_of-requires : goal.numbers_of-requires
numbers_of-requires g c = piece-room (length c.args.numbers.now) (length c.args.filters.now) c.loop-channel.channel
    c.loop-channel-test.true

pub returns : goal.returns
returns g c =
    let filter = g.F.Filter.filter in
    let numbers = c.args.numbers.now in
    let olds = map filter c.args.filters.now in
    let news = map filter c.loop-channel.filters in
    let size : length olds ≡ length c.args.filters.now = length-map c.args.filters.now filter in
    record {
      size = c.loop-channel.invariant.size;
      each = λ k h. subst (λ n. FilterRestores (filter_at olds k) (filter_at news k)
          (numbers_in (length numbers / n) numbers k)) (sym size)
          (c.loop-channel.invariant.each k (omega (arith, h, size, c.loop-channel-test.false)));
    }
