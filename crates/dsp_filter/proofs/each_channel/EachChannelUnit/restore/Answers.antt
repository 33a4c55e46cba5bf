use Rattle.std.proofs.Common.{◌≡◌, sym, subst, ◌≤◌, ◌++◌, length, map, take, drop, arith}
use Rattle.std.specs.Prelude.{IsFalse}
use Rattle.std.proofs.lemmas.List.{length-map}
use Rattle.dsp_defs.specs.Kept.{Fits}
use Rattle.dsp_unit.specs.Filter.{AreFilters, filter_at, filter_room}
use Rattle.dsp_unit.specs.Channels.{unit_of_filters, AreRestored}
use Rattle.dsp_unit.specs.Unit.{Restores, UnitState}
use Rattle.dsp_unit.proofs.ChannelRestores.{are-restored, channels-restore}
use Rattle.dsp_filter.proofs.Units.{are-first, written-whole, kept-whole}
use Rattle.dsp_filter.proofs.each_channel.EachChannelUnit.restore.Goals as goal

pub invariant_of-self : goal.invariant_of-self
invariant_of-self g c =
    let filter = g.F.Filter.filter in
    let items = c.self.inside.filters.items in
    let olds = map filter items in
    let made = c.restore_channels.new.filters in
    let slice = c.as_mut_slice.result.now in
    let size : length made ≡ c.self.inside.filters.len =
    omega (arith, c.restore_channels.auto.filters, c.as_mut_slice.ensures.len, c.self.inside.filters.ok.0) in
    let written : take c.self.inside.filters.len (made ++ drop (length made) items) ≡ made =
    written-whole c.self.inside.filters.len made items size in
    let restored : AreRestored olds (map filter made) c.args.numbers.now =
    subst (λ fs. AreRestored (map filter fs) (map filter made) c.args.numbers.now) c.as_mut_slice.ensures.value
    c.restore_channels.ensures in
    let fits : Fits g.T.Sample.format (length olds) (filter_at olds 0).block c.args.numbers.now =
    rw (← c.self.view_is) at c.requires.fits in
    let are' : AreFilters g.T.Sample.format c.self.inside.capacity (map filter made) =
    are-restored g.T.Sample.format c.self.inside.capacity olds (map filter made) c.self.invariant.0
    c.args.numbers.now fits restored in
    let first = restored.each 0 (let some = c.self.invariant.0.some in omega (arith, some)) in
    subst (λ fs. AreFilters g.T.Sample.format c.self.inside.capacity (map filter fs) ×
    (c.self.inside.input.len ≡ c.self.inside.capacity) ×
    (c.self.inside.output.len ≡ filter_room (filter_at (map filter fs) 0)) × (c.self.inside.filters.len ≤ 255))
    (sym written)
    (kept-whole g.T.Sample.format c.self.inside.capacity c.self.inside.input.len c.self.inside.output.len
    c.self.inside.filters.len olds (map filter made) are' first.made c.self.invariant)

pub returns : goal.returns
returns g c =
    let filter = g.F.Filter.filter in
    let items = c.self.inside.filters.items in
    let olds = map filter items in
    let made = c.restore_channels.new.filters in
    let slice = c.as_mut_slice.result.now in
    let size : length made ≡ c.self.inside.filters.len =
    omega (arith, c.restore_channels.auto.filters, c.as_mut_slice.ensures.len, c.self.inside.filters.ok.0) in
    let written : take c.self.inside.filters.len (made ++ drop (length made) items) ≡ made =
    written-whole c.self.inside.filters.len made items size in
    let restored : AreRestored olds (map filter made) c.args.numbers.now =
    subst (λ fs. AreRestored (map filter fs) (map filter made) c.args.numbers.now) c.as_mut_slice.ensures.value
    c.restore_channels.ensures in
    let fits : Fits g.T.Sample.format (length olds) (filter_at olds 0).block c.args.numbers.now =
    rw (← c.self.view_is) at c.requires.fits in
    rw (← c.self.view_is)
    (subst (λ fs. Restores (unit_of_filters g.T.Sample.format c.self.inside.capacity olds)
    (unit_of_filters g.T.Sample.format c.self.inside.capacity (map filter fs)) c.args.numbers.now) (sym written)
    (channels-restore g.T.Sample.format c.self.inside.capacity olds (map filter made) c.self.invariant.0
    c.args.numbers.now fits restored))

pub restore_channels-requires-clause-alike : goal.restore_channels-requires-clause-alike
restore_channels-requires-clause-alike g c =
    let format = g.T.Sample.format in
    let filter = g.F.Filter.filter in
    subst (λ fs. AreFilters format (filter_at (map filter fs) 0).capacity (map filter fs))
    (sym c.as_mut_slice.ensures.value)
    (are-first format c.self.inside.capacity (map filter c.self.inside.filters.items) c.self.invariant.0)

pub restore_channels-requires-clause-running : goal.restore_channels-requires-clause-running
restore_channels-requires-clause-running g c =
    subst (λ fs. IsFalse (filter_at (map g.F.Filter.filter fs) 0).ended) (sym c.as_mut_slice.ensures.value)
    (subst (λ (u : UnitState). IsFalse u.ended) (sym c.self.view_is) c.requires.running)

pub restore_channels-requires-clause-fits : goal.restore_channels-requires-clause-fits
restore_channels-requires-clause-fits g c =
    let format = g.T.Sample.format in
    let filter = g.F.Filter.filter in
    let items = c.self.inside.filters.items in
    let fits : Fits format (length (map filter items)) (filter_at (map filter items) 0).block c.args.numbers.now =
    subst (λ (u : UnitState). Fits u.format u.channels u.block c.args.numbers.now) (sym c.self.view_is)
    c.requires.fits in
    subst (λ fs. Fits format (length fs) (filter_at (map filter fs) 0).block c.args.numbers.now)
    (sym c.as_mut_slice.ensures.value)
    (subst (λ n. Fits format n (filter_at (map filter items) 0).block c.args.numbers.now) (length-map items filter)
    fits)
