use Rattle.std.proofs.Common.{◌≡◌, ◌∙◌, ap, sym, subst, ℕ, false, ◌+◌, ◌*◌, ◌/◌, ◌<◌, ◌≤◌, ◌++◌, length, map, take}
use Rattle.std.proofs.Common.{drop, arith}
use Rattle.std.specs.Prelude.{All, FitsSigned, IsFalse}
use Rattle.std.proofs.lemmas.List.{length-map}
use Rattle.dsp_defs.specs.Formats.{word}
use Rattle.dsp_defs.specs.Signal.{sample}
use Rattle.dsp_unit.specs.Filter.{AreFilters, FilterAccepts, filter_at, filter_room, no_filter}
use Rattle.dsp_unit.specs.Channels.{unit_of_filters, AreFed}
use Rattle.dsp_unit.specs.Unit.{Feeds, IsOutput, IsSignal, UnitState, frames_in, most_frames}
use Rattle.dsp_defs.specs.Block.{channels_after}
use Rattle.dsp_defs.proofs.FrameLemmas.{length-frames_in}
use Rattle.dsp_unit.proofs.ChannelFeeds.{are-fed, accept-filters}
use Rattle.dsp_unit.proofs.ChannelOutput.{whole-frames, unit-output, unit-fed, room-for}
use Rattle.dsp_filter.proofs.Units.{written-whole, kept-whole}
use Rattle.dsp_filter.proofs.each_channel.EachChannelUnit.feed.Goals as goal

pub feed_block-given-requires-clause-whole : goal.feed_block-given-requires-clause-whole
feed_block-given-requires-clause-whole g c =
    let frames = c.args.frames.now in
    let items = c.self.inside.filters.items in
    let signal = rw (← c.self.view_is) at c.requires.signal in
    let whole = whole-frames _ (length (map g.F.Filter.filter items)) frames signal in
    let size : length (map g.F.Filter.filter items) ≡ c.len.result =
    omega (arith, length-map items g.F.Filter.filter, c.len.ensures, c.self.inside.filters.ok.0) in
    let slice : length c.as_mut_slice.result.now ≡ c.len.result =
    omega (arith, c.as_mut_slice.ensures.len, c.len.ensures) in
    let whole' : length frames ≡ length frames / c.len.result * c.len.result = rw size at whole in
    rw slice (whole' ∙ ap (λ n. n * c.len.result) (sym c.frame_count-count.ensures))

pub feed_block-given-requires-clause-accepts : goal.feed_block-given-requires-clause-accepts
feed_block-given-requires-clause-accepts g c =
    let items = c.self.inside.filters.items in
    let olds = map g.F.Filter.filter items in
    let frames = c.args.frames.now in
    let running : (filter_at olds 0).ended ≡ false = rw (← c.self.view_is) at c.requires.running in
    let accepts = rw (← c.self.view_is) at c.requires.accepts in
    let size : length olds ≡ c.len.result = omega (
      arith,
      length-map items g.F.Filter.filter,
      c.len.ensures,
      c.self.inside.filters.ok.0,
    ) in
    let count : length (frames_in (length olds) frames) ≡ c.frame_count-count.result =
    length-frames_in (length olds) frames ∙ ap (λ n. length frames / n) size ∙ sym c.frame_count-count.ensures in
    let all : All (λ f. FilterAccepts f c.frame_count-count.result) olds =
    subst (λ n. All (λ f. FilterAccepts f n) olds) count
    (accept-filters g.T.Sample.format c.self.inside.capacity olds c.self.invariant.0 running
    (length (frames_in (length olds) frames)) accepts) in
    subst (λ xs. All (λ f. FilterAccepts f c.frame_count-count.result) (map g.F.Filter.filter xs))
    (sym c.as_mut_slice.ensures.value) all

pub invariant_of-self : goal.invariant_of-self
invariant_of-self g c =
    let filter = g.F.Filter.filter in
    let items = c.self.inside.filters.items in
    let olds = map filter items in
    let made = c.feed_block-given.new.filters in
    let slice = c.as_mut_slice.result.now in
    let size : length made ≡ c.self.inside.filters.len =
    omega (arith, c.feed_block-given.auto.filters, c.as_mut_slice.ensures.len, c.self.inside.filters.ok.0) in
    let written : take c.self.inside.filters.len (made ++ drop (length made) items) ≡ made =
    written-whole c.self.inside.filters.len made items size in
    let running : (filter_at olds 0).ended ≡ false = rw (← c.self.view_is) at c.requires.running in
    let fed : AreFed olds (map filter made) c.frame_count-count.result c.args.frames.now
    c.feed_block-given.result c.feed_block-given.new.out c.args.steps.now c.feed_block-given.new.steps =
    subst (λ fs. AreFed (map filter fs) (map filter made) c.frame_count-count.result c.args.frames.now
    c.feed_block-given.result c.feed_block-given.new.out c.args.steps.now c.feed_block-given.new.steps)
    c.as_mut_slice.ensures.value c.feed_block-given.ensures.fed in
    let are' : AreFilters g.T.Sample.format c.self.inside.capacity (map filter made) =
    are-fed g.T.Sample.format c.self.inside.capacity olds (map filter made) c.self.invariant.0 running _
    c.feed_block-given.result c.args.frames.now c.feed_block-given.new.out c.args.steps.now
    c.feed_block-given.new.steps fed in
    let (start, stop, feeds) = fed.each 0 (let some = c.self.invariant.0.some in omega (arith, some)) in
    subst (λ fs. AreFilters g.T.Sample.format c.self.inside.capacity (map filter fs) ×
    (c.self.inside.input.len ≡ c.self.inside.capacity) ×
    (c.self.inside.output.len ≡ filter_room (filter_at (map filter fs) 0)) × (c.self.inside.filters.len ≤ 255))
    (sym written)
    (kept-whole g.T.Sample.format c.self.inside.capacity c.self.inside.input.len c.self.inside.output.len
    c.self.inside.filters.len olds (map filter made) are' feeds.made c.self.invariant)

pub returns-clause-running : goal.returns-clause-running
returns-clause-running g c =
    let filter = g.F.Filter.filter in
    let items = c.self.inside.filters.items in
    let olds = map filter items in
    let made = c.feed_block-given.new.filters in
    let slice = c.as_mut_slice.result.now in
    let size : length made ≡ c.self.inside.filters.len =
    omega (arith, c.feed_block-given.auto.filters, c.as_mut_slice.ensures.len, c.self.inside.filters.ok.0) in
    let written : take c.self.inside.filters.len (made ++ drop (length made) items) ≡ made =
    written-whole c.self.inside.filters.len made items size in
    let running : (filter_at olds 0).ended ≡ false = rw (← c.self.view_is) at c.requires.running in
    let fed : AreFed olds (map filter made) c.frame_count-count.result c.args.frames.now
    c.feed_block-given.result c.feed_block-given.new.out c.args.steps.now c.feed_block-given.new.steps =
    subst (λ fs. AreFed (map filter fs) (map filter made) c.frame_count-count.result c.args.frames.now
    c.feed_block-given.result c.feed_block-given.new.out c.args.steps.now c.feed_block-given.new.steps)
    c.as_mut_slice.ensures.value c.feed_block-given.ensures.fed in
    let (m, counted) = c.self.invariant.0.counted running in
    let some : 0 < length olds = (let some = c.self.invariant.0.some in omega (arith, some)) in
    let (start, stop, feeds) = fed.each 0 some in
    rw written (feeds.counts m (counted 0 no_filter some)).running

pub returns-clause-output : goal.returns-clause-output
returns-clause-output g c =
    let filter = g.F.Filter.filter in
    let items = c.self.inside.filters.items in
    let olds = map filter items in
    let made = c.feed_block-given.new.filters in
    let slice = c.as_mut_slice.result.now in
    let size : length made ≡ c.self.inside.filters.len =
    omega (arith, c.feed_block-given.auto.filters, c.as_mut_slice.ensures.len, c.self.inside.filters.ok.0) in
    let written : take c.self.inside.filters.len (made ++ drop (length made) items) ≡ made =
    written-whole c.self.inside.filters.len made items size in
    let running : (filter_at olds 0).ended ≡ false = rw (← c.self.view_is) at c.requires.running in
    let fed : AreFed olds (map filter made) c.frame_count-count.result c.args.frames.now
    c.feed_block-given.result c.feed_block-given.new.out c.args.steps.now c.feed_block-given.new.steps =
    subst (λ fs. AreFed (map filter fs) (map filter made) c.frame_count-count.result c.args.frames.now
    c.feed_block-given.result c.feed_block-given.new.out c.args.steps.now c.feed_block-given.new.steps)
    c.as_mut_slice.ensures.value c.feed_block-given.ensures.fed in
    let channels : length olds ≡ c.len-2.result = omega
    (arith, length-map items filter, c.len-2.ensures, c.self.inside.filters.ok.0) in
    let fits : c.feed_block-given.result ≤ filter_room (filter_at olds 0) =
    omega (arith, c.feed_block-given.ensures.within, c.as_mut_slice-3.ensures.len, c.self.invariant.2) in
    let room = rw (← c.self.view_is) at c.requires.room in
    let within : c.feed_block-given.result * length olds ≤ length c.feed_block-given.new.out =
    (let bound = room-for g.T.Sample.format c.self.inside.capacity olds c.self.invariant.0 c.feed_block-given.result
    (length c.args.out.now) fits room in omega (arith, bound, c.feed_block-given.auto.out)) in
    let each : (n d : ℕ) → n < c.feed_block-given.result → d < length olds →
    FitsSigned (word g.T.Sample.format) (sample c.feed_block-given.new.out (n * length olds + d)) =
    subst (λ k. (n d : ℕ) → n < c.feed_block-given.result → d < k →
    FitsSigned (word g.T.Sample.format) (sample c.feed_block-given.new.out (n * k + d)))
    (omega (arith, channels, c.as_mut_slice.ensures.len, c.len-2.ensures)) c.feed_block-given.ensures.fits in
    rw (← c.self.view_is)
    (subst (λ k. IsOutput (unit_of_filters g.T.Sample.format c.self.inside.capacity olds)
    (most_frames (filter_at olds 0).block c.self.inside.capacity)
    (take (c.feed_block-given.result * k) c.feed_block-given.new.out)) channels
    (unit-output g.T.Sample.format c.self.inside.capacity olds c.self.invariant.0 c.feed_block-given.result
    c.feed_block-given.new.out within fits each))

pub returns-clause-fed : goal.returns-clause-fed
returns-clause-fed g c =
    let filter = g.F.Filter.filter in
    let items = c.self.inside.filters.items in
    let olds = map filter items in
    let made = c.feed_block-given.new.filters in
    let slice = c.as_mut_slice.result.now in
    let size : length made ≡ c.self.inside.filters.len =
    omega (arith, c.feed_block-given.auto.filters, c.as_mut_slice.ensures.len, c.self.inside.filters.ok.0) in
    let written : take c.self.inside.filters.len (made ++ drop (length made) items) ≡ made =
    written-whole c.self.inside.filters.len made items size in
    let running : (filter_at olds 0).ended ≡ false = rw (← c.self.view_is) at c.requires.running in
    let fed : AreFed olds (map filter made) c.frame_count-count.result c.args.frames.now
    c.feed_block-given.result c.feed_block-given.new.out c.args.steps.now c.feed_block-given.new.steps =
    subst (λ fs. AreFed (map filter fs) (map filter made) c.frame_count-count.result c.args.frames.now
    c.feed_block-given.result c.feed_block-given.new.out c.args.steps.now c.feed_block-given.new.steps)
    c.as_mut_slice.ensures.value c.feed_block-given.ensures.fed in
    let channels : length olds ≡ c.len-2.result = omega
    (arith, length-map items filter, c.len-2.ensures, c.self.inside.filters.ok.0) in
    let fits : c.feed_block-given.result ≤ filter_room (filter_at olds 0) =
    omega (arith, c.feed_block-given.ensures.within, c.as_mut_slice-3.ensures.len, c.self.invariant.2) in
    let room = rw (← c.self.view_is) at c.requires.room in
    let within : c.feed_block-given.result * length olds ≤ length c.feed_block-given.new.out =
    (let bound = room-for g.T.Sample.format c.self.inside.capacity olds c.self.invariant.0 c.feed_block-given.result
    (length c.args.out.now) fits room in omega (arith, bound, c.feed_block-given.auto.out)) in
    let fed' : AreFed olds (map filter made) (length c.args.frames.now / length olds) c.args.frames.now
    c.feed_block-given.result c.feed_block-given.new.out c.args.steps.now c.feed_block-given.new.steps =
    subst (λ n. AreFed olds (map filter made) n c.args.frames.now
    c.feed_block-given.result c.feed_block-given.new.out c.args.steps.now c.feed_block-given.new.steps)
    (c.frame_count-count.ensures ∙ ap (λ k. length c.args.frames.now / k)
    (let same : c.len.result ≡ length olds = omega (arith, channels, c.len.ensures, c.len-2.ensures) in same)) fed in
    rw (← c.self.view_is)
    (subst (λ fs. Feeds (unit_of_filters g.T.Sample.format c.self.inside.capacity olds)
    (unit_of_filters g.T.Sample.format c.self.inside.capacity (map filter fs))
    (frames_in (length olds) c.args.frames.now) (frames_in (channels_after (length olds) (filter_at olds 0).block)
    (take (c.feed_block-given.result * c.len-2.result) c.feed_block-given.new.out)) c.args.steps.now
    c.feed_block-given.new.steps) (sym written)
    (subst (λ k. Feeds (unit_of_filters g.T.Sample.format c.self.inside.capacity olds)
    (unit_of_filters g.T.Sample.format c.self.inside.capacity (map filter made))
    (frames_in (length olds) c.args.frames.now) (frames_in (channels_after (length olds) (filter_at olds 0).block)
    (take (c.feed_block-given.result * k) c.feed_block-given.new.out)) c.args.steps.now
    c.feed_block-given.new.steps) channels
    (unit-fed g.T.Sample.format c.self.inside.capacity olds c.self.invariant.0 c.feed_block-given.result
    c.feed_block-given.new.out within (map filter made) c.args.frames.now c.args.steps.now
    c.feed_block-given.new.steps running fed')))

pub frame_count-count-requires : goal.frame_count-count-requires
frame_count-count-requires g c =
    let some = c.self.invariant.0.some in
    omega (
      arith,
      some,
      length-map c.self.inside.filters.items g.F.Filter.filter,
      c.len.ensures,
      c.self.inside.filters.ok.0,
    )

pub feed_block-given-requires-clause-alike : goal.feed_block-given-requires-clause-alike
feed_block-given-requires-clause-alike g c =
    let format = g.T.Sample.format in
    let filter = g.F.Filter.filter in
    let room = length c.as_mut_slice-2.result.now in
    let long : room ≡ c.self.inside.capacity = c.as_mut_slice-2.ensures.len ∙ c.self.invariant.1 in
    subst (λ fs. AreFilters format room (map filter fs)) (sym c.as_mut_slice.ensures.value)
    (subst (λ k. AreFilters format k (map filter c.self.inside.filters.items)) (sym long) c.self.invariant.0)

pub feed_block-given-requires-clause-running : goal.feed_block-given-requires-clause-running
feed_block-given-requires-clause-running g c =
    subst (λ fs. IsFalse (filter_at (map g.F.Filter.filter fs) 0).ended) (sym c.as_mut_slice.ensures.value)
    (subst (λ (u : UnitState). IsFalse u.ended) (sym c.self.view_is) c.requires.running)

pub feed_block-given-requires-clause-in_format : goal.feed_block-given-requires-clause-in_format
feed_block-given-requires-clause-in_format g c =
    (subst (λ (u : UnitState). IsSignal u.format u.channels c.args.frames.now) (sym c.self.view_is)
    c.requires.signal).in_format

pub feed_block-given-requires-clause-output : goal.feed_block-given-requires-clause-output
feed_block-given-requires-clause-output g c =
    c.as_mut_slice-3.ensures.len ∙ c.self.invariant.2 ∙
    ap (λ fs. filter_room (filter_at (map g.F.Filter.filter fs) 0)) (sym c.as_mut_slice.ensures.value)

pub feed_block-given-requires-clause-room : goal.feed_block-given-requires-clause-room
feed_block-given-requires-clause-room g c =
    let filter = g.F.Filter.filter in
    let items = c.self.inside.filters.items in
    let olds = map filter items in
    let values = length c.as_mut_slice-3.result.now in
    let long : values ≡ filter_room (filter_at olds 0) = c.as_mut_slice-3.ensures.len ∙ c.self.invariant.2 in
    let room = rw (← c.self.view_is) at c.requires.room in
    let bound = room-for g.T.Sample.format c.self.inside.capacity olds c.self.invariant.0 values
    (length c.args.out.now) (omega (arith, long)) room in
    subst (λ k. values * k ≤ length c.args.out.now) (length-map items filter ∙
    ap length (sym c.as_mut_slice.ensures.value)) bound

pub returns-clause-within : goal.returns-clause-within
returns-clause-within g c =
    let filter = g.F.Filter.filter in
    let items = c.self.inside.filters.items in
    let olds = map filter items in
    let channels : length olds ≡ c.len-2.result = omega
    (arith, length-map items filter, c.len-2.ensures, c.self.inside.filters.ok.0) in
    let fits : c.feed_block-given.result ≤ filter_room (filter_at olds 0) =
    omega (arith, c.feed_block-given.ensures.within, c.as_mut_slice-3.ensures.len, c.self.invariant.2) in
    let room = rw (← c.self.view_is) at c.requires.room in
    let bound = room-for g.T.Sample.format c.self.inside.capacity olds c.self.invariant.0 c.feed_block-given.result
    (length c.args.out.now) fits room in
    subst (λ k. c.feed_block-given.result * k ≤ length c.args.out.now) channels bound

pub overflow_mul-result : goal.overflow_mul-result
overflow_mul-result g c =
    let within : c.feed_block-given.result * c.len-2.result ≤ length c.args.out.now = returns-clause-within g c in
    omega (arith, within)

pub feed_block-given-requires-clause-input : goal.feed_block-given-requires-clause-input
feed_block-given-requires-clause-input g c =
    let items = c.self.inside.filters.items in
    let olds = map g.F.Filter.filter items in
    let frames = c.args.frames.now in
    let size : length olds ≡ c.len.result = omega (
      arith,
      length-map items g.F.Filter.filter,
      c.len.ensures,
      c.self.inside.filters.ok.0,
    ) in
    let count : length (frames_in (length olds) frames) ≡ c.frame_count-count.result =
    length-frames_in (length olds) frames ∙ ap (λ n. length frames / n) size ∙ sym c.frame_count-count.ensures in
    let few = rw (← c.self.view_is) at c.requires.capacity in
    omega (arith, few, count, c.as_mut_slice-2.ensures.len, c.self.invariant.1)
