use Rattle.std.proofs.Common.{◌≡◌, ◌∙◌, ap, sym, subst, ℕ, ◌+◌, ◌*◌, ◌<◌, ◌≤◌, ◌++◌, length, map, take, drop, arith}
use Rattle.std.specs.Prelude.{FitsSigned}
use Rattle.std.proofs.lemmas.List.{length-map}
use Rattle.dsp_defs.specs.Formats.{word}
use Rattle.dsp_defs.specs.Signal.{sample}
use Rattle.dsp_unit.specs.Filter.{AreFilters, filter_at, filter_room}
use Rattle.dsp_unit.specs.Channels.{unit_of_filters, AreFinished}
use Rattle.dsp_unit.specs.Unit.{Finishes, IsOutput, frames_in, most_frames}
use Rattle.dsp_defs.specs.Block.{channels_after}
use Rattle.dsp_unit.proofs.ChannelTails.{are-finished}
use Rattle.dsp_unit.proofs.ChannelOutput.{unit-output, unit-finished, room-for}
use Rattle.dsp_filter.proofs.Units.{are-first, written-whole, kept-whole}
use Rattle.dsp_filter.proofs.each_channel.EachChannelUnit.finish.Goals as goal

pub invariant_of-self : goal.invariant_of-self
invariant_of-self g c =
    let filter = g.F.Filter.filter in
    let items = c.self.inside.filters.items in
    let olds = map filter items in
    let made = c.finish_channels-given.new.filters in
    let slice = c.as_mut_slice.result.now in
    let size : length made ≡ c.self.inside.filters.len =
    omega (arith, c.finish_channels-given.auto.filters, c.as_mut_slice.ensures.len, c.self.inside.filters.ok.0) in
    let written : take c.self.inside.filters.len (made ++ drop (length made) items) ≡ made =
    written-whole c.self.inside.filters.len made items size in
    let finished : AreFinished olds (map filter made) c.finish_channels-given.result c.finish_channels-given.new.out
    c.args.steps.now c.finish_channels-given.new.steps =
    subst (λ fs. AreFinished (map filter fs) (map filter made) c.finish_channels-given.result
    c.finish_channels-given.new.out c.args.steps.now c.finish_channels-given.new.steps) c.as_mut_slice.ensures.value
    c.finish_channels-given.ensures.finished in
    let are' : AreFilters g.T.Sample.format c.self.inside.capacity (map filter made) =
    are-finished g.T.Sample.format c.self.inside.capacity olds (map filter made) c.self.invariant.0
    c.finish_channels-given.result c.finish_channels-given.new.out c.args.steps.now
    c.finish_channels-given.new.steps finished in
    let (start, stop, finishes) = finished.each 0 (let some = c.self.invariant.0.some in omega (arith, some)) in
    subst (λ fs. AreFilters g.T.Sample.format c.self.inside.capacity (map filter fs) ×
    (c.self.inside.input.len ≡ c.self.inside.capacity) ×
    (c.self.inside.output.len ≡ filter_room (filter_at (map filter fs) 0)) × (c.self.inside.filters.len ≤ 255))
    (sym written)
    (kept-whole g.T.Sample.format c.self.inside.capacity c.self.inside.input.len c.self.inside.output.len
    c.self.inside.filters.len olds (map filter made) are' finishes.made c.self.invariant)

pub returns-clause-output : goal.returns-clause-output
returns-clause-output g c =
    let filter = g.F.Filter.filter in
    let items = c.self.inside.filters.items in
    let olds = map filter items in
    let made = c.finish_channels-given.new.filters in
    let slice = c.as_mut_slice.result.now in
    let size : length made ≡ c.self.inside.filters.len =
    omega (arith, c.finish_channels-given.auto.filters, c.as_mut_slice.ensures.len, c.self.inside.filters.ok.0) in
    let written : take c.self.inside.filters.len (made ++ drop (length made) items) ≡ made =
    written-whole c.self.inside.filters.len made items size in
    let finished : AreFinished olds (map filter made) c.finish_channels-given.result c.finish_channels-given.new.out
    c.args.steps.now c.finish_channels-given.new.steps =
    subst (λ fs. AreFinished (map filter fs) (map filter made) c.finish_channels-given.result
    c.finish_channels-given.new.out c.args.steps.now c.finish_channels-given.new.steps) c.as_mut_slice.ensures.value
    c.finish_channels-given.ensures.finished in
    let channels : length olds ≡ c.len.result = omega (
      arith,
      length-map items filter,
      c.len.ensures,
      c.self.inside.filters.ok.0,
    ) in
    let fits : c.finish_channels-given.result ≤ filter_room (filter_at olds 0) =
    omega (arith, c.finish_channels-given.ensures.within, c.as_mut_slice-2.ensures.len, c.self.invariant.2) in
    let room = rw (← c.self.view_is) at c.requires.room in
    let within : c.finish_channels-given.result * length olds ≤ length c.finish_channels-given.new.out =
    (let bound = room-for g.T.Sample.format c.self.inside.capacity olds c.self.invariant.0
    c.finish_channels-given.result (length c.args.out.now) fits room in
    omega (arith, bound, c.finish_channels-given.auto.out)) in
    let each : (n d : ℕ) → n < c.finish_channels-given.result → d < length olds →
    FitsSigned (word g.T.Sample.format) (sample c.finish_channels-given.new.out (n * length olds + d)) =
    subst (λ k. (n d : ℕ) → n < c.finish_channels-given.result → d < k →
    FitsSigned (word g.T.Sample.format) (sample c.finish_channels-given.new.out (n * k + d)))
    (omega (arith, channels, c.as_mut_slice.ensures.len, c.len.ensures)) c.finish_channels-given.ensures.fits in
    rw (← c.self.view_is)
    (subst (λ k. IsOutput (unit_of_filters g.T.Sample.format c.self.inside.capacity olds)
    (most_frames (filter_at olds 0).block c.self.inside.capacity)
    (take (c.finish_channels-given.result * k) c.finish_channels-given.new.out)) channels
    (unit-output g.T.Sample.format c.self.inside.capacity olds c.self.invariant.0 c.finish_channels-given.result
    c.finish_channels-given.new.out within fits each))

pub returns-clause-finished : goal.returns-clause-finished
returns-clause-finished g c =
    let filter = g.F.Filter.filter in
    let items = c.self.inside.filters.items in
    let olds = map filter items in
    let made = c.finish_channels-given.new.filters in
    let slice = c.as_mut_slice.result.now in
    let size : length made ≡ c.self.inside.filters.len =
    omega (arith, c.finish_channels-given.auto.filters, c.as_mut_slice.ensures.len, c.self.inside.filters.ok.0) in
    let written : take c.self.inside.filters.len (made ++ drop (length made) items) ≡ made =
    written-whole c.self.inside.filters.len made items size in
    let finished : AreFinished olds (map filter made) c.finish_channels-given.result c.finish_channels-given.new.out
    c.args.steps.now c.finish_channels-given.new.steps =
    subst (λ fs. AreFinished (map filter fs) (map filter made) c.finish_channels-given.result
    c.finish_channels-given.new.out c.args.steps.now c.finish_channels-given.new.steps) c.as_mut_slice.ensures.value
    c.finish_channels-given.ensures.finished in
    let channels : length olds ≡ c.len.result = omega (
      arith,
      length-map items filter,
      c.len.ensures,
      c.self.inside.filters.ok.0,
    ) in
    let fits : c.finish_channels-given.result ≤ filter_room (filter_at olds 0) =
    omega (arith, c.finish_channels-given.ensures.within, c.as_mut_slice-2.ensures.len, c.self.invariant.2) in
    let room = rw (← c.self.view_is) at c.requires.room in
    let within : c.finish_channels-given.result * length olds ≤ length c.finish_channels-given.new.out =
    (let bound = room-for g.T.Sample.format c.self.inside.capacity olds c.self.invariant.0
    c.finish_channels-given.result (length c.args.out.now) fits room in
    omega (arith, bound, c.finish_channels-given.auto.out)) in
    rw (← c.self.view_is)
    (subst (λ fs. Finishes (unit_of_filters g.T.Sample.format c.self.inside.capacity olds)
    (unit_of_filters g.T.Sample.format c.self.inside.capacity (map filter fs))
    (frames_in (channels_after (length olds) (filter_at olds 0).block)
    (take (c.finish_channels-given.result * c.len.result) c.finish_channels-given.new.out)) c.args.steps.now
    c.finish_channels-given.new.steps) (sym written)
    (subst (λ k. Finishes (unit_of_filters g.T.Sample.format c.self.inside.capacity olds)
    (unit_of_filters g.T.Sample.format c.self.inside.capacity (map filter made))
    (frames_in (channels_after (length olds) (filter_at olds 0).block)
    (take (c.finish_channels-given.result * k) c.finish_channels-given.new.out)) c.args.steps.now
    c.finish_channels-given.new.steps) channels
    (unit-finished g.T.Sample.format c.self.inside.capacity olds c.self.invariant.0 c.finish_channels-given.result
    c.finish_channels-given.new.out within (map filter made) c.args.steps.now c.finish_channels-given.new.steps
    finished)))

pub finish_channels-given-requires-clause-alike : goal.finish_channels-given-requires-clause-alike
finish_channels-given-requires-clause-alike g c =
    let format = g.T.Sample.format in
    let filter = g.F.Filter.filter in
    subst (λ fs. AreFilters format (filter_at (map filter fs) 0).capacity (map filter fs))
    (sym c.as_mut_slice.ensures.value)
    (are-first format c.self.inside.capacity (map filter c.self.inside.filters.items) c.self.invariant.0)

pub finish_channels-given-requires-clause-output : goal.finish_channels-given-requires-clause-output
finish_channels-given-requires-clause-output g c =
    c.as_mut_slice-2.ensures.len ∙ c.self.invariant.2 ∙
    ap (λ fs. filter_room (filter_at (map g.F.Filter.filter fs) 0)) (sym c.as_mut_slice.ensures.value)

pub finish_channels-given-requires-clause-room : goal.finish_channels-given-requires-clause-room
finish_channels-given-requires-clause-room g c =
    let filter = g.F.Filter.filter in
    let items = c.self.inside.filters.items in
    let olds = map filter items in
    let values = length c.as_mut_slice-2.result.now in
    let long : values ≡ filter_room (filter_at olds 0) = c.as_mut_slice-2.ensures.len ∙ c.self.invariant.2 in
    let room = rw (← c.self.view_is) at c.requires.room in
    let bound = room-for g.T.Sample.format c.self.inside.capacity olds c.self.invariant.0 values
    (length c.args.out.now) (omega (arith, long)) room in
    subst (λ k. values * k ≤ length c.args.out.now) (length-map items filter ∙
    ap length (sym c.as_mut_slice.ensures.value)) bound

pub returns-clause-within : goal.returns-clause-within
returns-clause-within g c =
    let filter = g.F.Filter.filter in
    let items = c.self.inside.filters.items in
    let olds = map filter items in
    let channels : length olds ≡ c.len.result = omega (
      arith,
      length-map items filter,
      c.len.ensures,
      c.self.inside.filters.ok.0,
    ) in
    let fits : c.finish_channels-given.result ≤ filter_room (filter_at olds 0) =
    omega (arith, c.finish_channels-given.ensures.within, c.as_mut_slice-2.ensures.len, c.self.invariant.2) in
    let room = rw (← c.self.view_is) at c.requires.room in
    let bound = room-for g.T.Sample.format c.self.inside.capacity olds c.self.invariant.0
    c.finish_channels-given.result (length c.args.out.now) fits room in
    subst (λ k. c.finish_channels-given.result * k ≤ length c.args.out.now) channels bound

pub overflow_mul-result : goal.overflow_mul-result
overflow_mul-result g c =
    let within : c.finish_channels-given.result * c.len.result ≤ length c.args.out.now = returns-clause-within g c in
    omega (arith, within)
