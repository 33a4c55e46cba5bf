use Rattle.std.proofs.Common.{◌≡◌, ◌∙◌, ◌<◌, sym, subst, length, map, take, get_or, set, ℕ, ◌+◌, ◌*◌, ◌≢◌, arith}
use Rattle.std.proofs.Common.{length-take}
use Rattle.std.specs.Prelude.{FitsSigned}
use Rattle.std.proofs.lemmas.List.{length-map, map-set}
use Rattle.dsp_defs.specs.Formats.{word}
use Rattle.dsp_defs.specs.Signal.{sample}
use Rattle.dsp_unit.specs.Filter.{FilterAccepts, FilterFeeds, filter_at, no_filter}
use Rattle.dsp_unit.specs.Channels.{samples_in}
use Rattle.dsp_filter.proofs.Rounds.{FedSoFar, fed-none, fed-more, fed-long, fed-all, called-at, fits-more, same-room}
use Rattle.dsp_filter.proofs.channels.feed_channels.Goals as goal

pub loop-channel-init : goal.loop-channel-init
loop-channel-init g c = record {
  within = omega arith;
  fed = fed-none _ _ (map g.F.Filter.filter c.args.filters.now) c.requires.alike (length c.args.input.now)
      c.args.frames.now c.args.out.now c.args.steps.now;
  fits = λ n d h _. absurd (omega (arith, h));
}

pub process-given-requires-clause-running : goal.process-given-requires-clause-running
process-given-requires-clause-running g c =
    let inside : c.loop-channel.channel < length (map g.F.Filter.filter c.args.filters.now) =
    omega (arith, c.loop-channel-test.true, length-map c.args.filters.now g.F.Filter.filter) in
    rw (called-at g.F.Filter.filter c.args.filters.now c.loop-channel.filters c.loop-channel.channel
    c.index-filters-channel.result (omega arith) c.loop-channel.invariant.fed.left)
    ((c.requires.alike.alike c.loop-channel.channel no_filter inside).ended ∙ c.requires.running)

pub process-given-requires-clause-block : goal.process-given-requires-clause-block
process-given-requires-clause-block g c =
    let inside : c.loop-channel.channel < length (map g.F.Filter.filter c.args.filters.now) =
    omega (arith, c.loop-channel-test.true, length-map c.args.filters.now g.F.Filter.filter) in
    let like = c.requires.alike.alike c.loop-channel.channel no_filter inside in
    rw (
      called-at g.F.Filter.filter c.args.filters.now c.loop-channel.filters c.loop-channel.channel
          c.index-filters-channel.result (omega arith) c.loop-channel.invariant.fed.left,
      like.capacity,
    )
    (omega (arith, c.take_channel.auto.input, c.loop-channel.auto.input, c.requires.capacity))

pub process-given-requires-clause-accepts : goal.process-given-requires-clause-accepts
process-given-requires-clause-accepts g c =
    let olds = map g.F.Filter.filter c.args.filters.now in
    let inside : c.loop-channel.channel < length olds =
    omega (arith, c.loop-channel-test.true, length-map c.args.filters.now g.F.Filter.filter) in
    let size : length c.args.input.now ≡ length c.take_channel.new.input =
    omega (arith, c.take_channel.auto.input, c.loop-channel.auto.input) in
    rw (called-at g.F.Filter.filter c.args.filters.now c.loop-channel.filters c.loop-channel.channel
    c.index-filters-channel.result (omega arith) c.loop-channel.invariant.fed.left)
    (subst (λ n. FilterAccepts (filter_at olds c.loop-channel.channel) n) size
    (c.requires.accepts c.loop-channel.channel no_filter inside))

pub process-given-requires-clause-room : goal.process-given-requires-clause-room
process-given-requires-clause-room g c =
    let inside : c.loop-channel.channel < length (map g.F.Filter.filter c.args.filters.now) =
    omega (arith, c.loop-channel-test.true, length-map c.args.filters.now g.F.Filter.filter) in
    let room = same-room _ _ (map g.F.Filter.filter c.args.filters.now) c.requires.alike c.loop-channel.channel inside
    in
    rw (called-at g.F.Filter.filter c.args.filters.now c.loop-channel.filters c.loop-channel.channel
    c.index-filters-channel.result (omega arith) c.loop-channel.invariant.fed.left)
    (omega (arith, room, c.loop-channel.auto.output, c.requires.output))

pub loop-channel-preserved : goal.loop-channel-preserved
loop-channel-preserved g c =
    let filter = g.F.Filter.filter in
    let olds = map filter c.args.filters.now in
    let news = map filter c.loop-channel.filters in
    let channel = c.loop-channel.channel in
    let count = length c.args.input.now in
    let result = c.process-given.result in
    let ys = map g.T.Sample.number (take result c.process-given.new.output) in
    let size : length olds ≡ length c.args.filters.now = length-map c.args.filters.now filter in
    let inside : channel < length olds = omega (arith, c.loop-channel-test.true, size) in
    let long : length ys ≡ result = length-map (take result c.process-given.new.output) g.T.Sample.number ∙
    length-take result c.process-given.new.output ∙ omega
    (arith, c.process-given.ensures.within, c.process-given.auto.output) in
    let at_channel : filter (get_or c.loop-channel.filters channel c.index-filters-channel.result) ≡ filter_at olds
    channel =
    called-at filter c.args.filters.now c.loop-channel.filters channel c.index-filters-channel.result (omega arith)
    c.loop-channel.invariant.fed.left in
    let taken : map g.T.Sample.number c.take_channel.new.input ≡ samples_in (length olds) count c.args.frames.now
    channel =
    c.take_channel.ensures ∙ (λ i. samples_in (sym size i) (c.loop-channel.auto.input i) c.args.frames.now channel) in
    let fed : FilterFeeds (filter_at olds channel) (filter c.process-given.new.self)
    (samples_in (length olds) count c.args.frames.now channel) ys c.loop-channel.steps c.process-given.new.steps =
    subst (λ xs. FilterFeeds (filter_at olds channel) (filter c.process-given.new.self) xs ys c.loop-channel.steps
    c.process-given.new.steps) taken
    (subst (λ f. FilterFeeds f (filter c.process-given.new.self) (map g.T.Sample.number c.take_channel.new.input) ys
    c.loop-channel.steps c.process-given.new.steps) at_channel c.process-given.ensures.fed) in
    let here : (n : ℕ) → n < length ys → sample c.put_channel.new.out (n * length c.args.filters.now + channel) ≡
    sample ys n = λ n h. c.put_channel.ensures.here n (omega
    (arith, h, length-map (take result c.process-given.new.output) g.T.Sample.number)) in
    let so_far = c.loop-channel.invariant.fed in
    record {
      within = omega (arith, c.process-given.ensures.within, c.loop-channel.auto.output);
      fed = subst (λ m. FedSoFar olds (map filter (set c.loop-channel.filters channel c.process-given.new.self))
          (channel + 1) count c.args.frames.now m c.put_channel.new.out c.args.steps.now c.process-given.new.steps) long
          (subst (λ fs. FedSoFar olds fs (channel + 1) count c.args.frames.now (length ys) c.put_channel.new.out
          c.args.steps.now c.process-given.new.steps) (sym
          (map-set filter c.loop-channel.filters channel c.process-given.new.self))
          (fed-more _ _ olds c.requires.alike news channel count c.args.frames.now c.loop-channel.given
          c.loop-channel.out c.put_channel.new.out ys (filter c.process-given.new.self) c.args.steps.now
          c.loop-channel.steps c.process-given.new.steps
          c.requires.running inside so_far fed
          (subst (λ k. (n : ℕ) → n < length ys → sample c.put_channel.new.out (n * k + channel) ≡ sample ys n)
          (sym size) here)
          (subst (λ k. (n d : ℕ) → d < k → d ≢ channel → sample c.put_channel.new.out (n * k + d) ≡ sample
          c.loop-channel.out (n * k + d)) (sym size) c.put_channel.ensures.elsewhere)));
      fits = fits-more (FitsSigned (word g.T.Sample.format)) (length c.args.filters.now) channel c.loop-channel.given
          result c.loop-channel.out c.put_channel.new.out c.loop-channel-test.true
          (λ d h. fed-long _ _ olds c.requires.alike news channel count c.args.frames.now c.loop-channel.given
          c.loop-channel.out ys (filter c.process-given.new.self) c.args.steps.now c.loop-channel.steps
          c.process-given.new.steps
          c.requires.running inside so_far fed d h ∙ long)
          c.loop-channel.invariant.fits
          (λ n h. c.put_channel.ensures.fits n (omega (
            arith,
            h,
            long,
            length-map (take result c.process-given.new.output) g.T.Sample.number,
          )))
          c.put_channel.ensures.elsewhere;
    }

pub returns-clause-fed : goal.returns-clause-fed
returns-clause-fed g c =
    let olds = map g.F.Filter.filter c.args.filters.now in
    let done : c.loop-channel.channel ≡ length olds = omega (
      arith,
      c.loop-channel-test.false,
      c.loop-channel.auto.channel-end,
      length-map c.args.filters.now g.F.Filter.filter,
    ) in
    fed-all _ _ olds c.requires.alike (map g.F.Filter.filter c.loop-channel.filters) (length c.args.input.now)
    c.args.frames.now c.loop-channel.given c.loop-channel.out c.args.steps.now c.loop-channel.steps
    (subst (λ k. FedSoFar olds (map g.F.Filter.filter c.loop-channel.filters) k (length c.args.input.now)
    c.args.frames.now c.loop-channel.given c.loop-channel.out c.args.steps.now c.loop-channel.steps) done
    c.loop-channel.invariant.fed)

pub returns-clause-fits : goal.returns-clause-fits
returns-clause-fits g c = λ n d h k. c.loop-channel.invariant.fits n d h (omega (arith, k, c.loop-channel-test.false))
