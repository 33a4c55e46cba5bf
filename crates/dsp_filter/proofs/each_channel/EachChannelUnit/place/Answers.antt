use Rattle.std.proofs.Common.{◌≡◌, sym, subst, ℕ, length, map, Some, IfSome}
use Rattle.std.proofs.lemmas.List.{length-map}
use Rattle.dsp_unit.specs.Filter.{filter_at}
use Rattle.dsp_defs.specs.Kept.{FitsAfter, place_of}
use Rattle.dsp_filter.proofs.each_channel.EachChannelUnit.place.Goals as goal

pub returns-clause-fits : goal.returns-clause-fits
returns-clause-fits g c =
    let filter = g.F.Filter.filter in
    let items = c.self.inside.filters.items in
    let of_items = subst (λ fs. IfSome c.place_channels.result
    (λ n. FitsAfter g.T.Sample.format (length fs) (filter_at (map filter fs) 0).block n c.args.numbers.now))
    c.as_slice.ensures.value c.place_channels.ensures.fits in
    rw (← c.self.view_is)
    (subst (λ k. IfSome c.place_channels.result (λ n. FitsAfter g.T.Sample.format k
    (filter_at (map filter items) 0).block n c.args.numbers.now)) (sym (length-map items filter)) of_items)

pub returns-clause-least : goal.returns-clause-least
returns-clause-least g c =
    let filter = g.F.Filter.filter in
    let items = c.self.inside.filters.items in
    let of_items = subst (λ fs. (n : ℕ) → FitsAfter g.T.Sample.format (length fs) (filter_at (map filter fs) 0).block
    n c.args.numbers.now → c.place_channels.result ≡ Some (place_of (filter_at (map filter fs) 0).block n))
    c.as_slice.ensures.value c.place_channels.ensures.least in
    rw (← c.self.view_is)
    (subst (λ k. (n : ℕ) → FitsAfter g.T.Sample.format k (filter_at (map filter items) 0).block n c.args.numbers.now →
    c.place_channels.result ≡ Some (place_of (filter_at (map filter items) 0).block n))
    (sym (length-map items filter)) of_items)
