use Rattle.std.proofs.Common.{◌≡◌, ◌<◌, ◌∙◌, ap, false, length, map, arith}
use Rattle.std.proofs.lemmas.List.{length-map, get_or-map}
use Rattle.dsp_unit.specs.Filter.{filter_at, no_filter}
use Rattle.dsp_filter.proofs.each_channel.EachChannelUnit.keep.Goals as goal

pub keep_channels-requires-clause-running : goal.keep_channels-requires-clause-running
keep_channels-requires-clause-running g c = λ k d h.
    let filter = g.F.Filter.filter in
    let items = c.self.inside.filters.items in
    let running : (filter_at (map filter items) 0).ended ≡ false = rw (← c.self.view_is) at c.requires.running in
    let inside : k < length items = omega (arith, h, ap length c.as_slice.ensures.value) in
    let like = c.self.invariant.0.alike k no_filter (omega (arith, inside, length-map items filter)) in
    let here : (filter_at (map filter items) k).ended ≡ false = like.ended ∙ running in
    rw (c.as_slice.ensures.value) (rw (get_or-map filter items k d no_filter inside) at here)
