use Rattle.std.proofs.Common.{◌≡◌, ◌∙◌, ◌<◌, sym, subst, length, map, take, get_or, set, ℕ, ◌+◌, ◌*◌, ◌≢◌, arith}
use Rattle.std.proofs.Common.{length-take}
use Rattle.std.specs.Prelude.{FitsSigned}
use Rattle.std.proofs.lemmas.List.{length-map, map-set}
use Rattle.dsp_defs.specs.Formats.{word}
use Rattle.dsp_defs.specs.Signal.{sample}
use Rattle.dsp_unit.specs.Filter.{FilterFinishes, filter_at}
use Rattle.dsp_filter.proofs.Rounds.{FinishedSoFar, finished-none, finished-more, finished-long, finished-all}
use Rattle.dsp_filter.proofs.Rounds.{called-at, fits-more, same-room}
use Rattle.dsp_filter.proofs.channels.finish_channels.Goals as goal

pub loop-channel-init : goal.loop-channel-init
loop-channel-init g c = record {
  within = omega arith;
  finished = finished-none _ _ (map g.F.Filter.filter c.args.filters.now) c.requires.alike c.args.out.now
      c.args.steps.now;
  fits = λ n d h _. absurd (omega (arith, h));
}

pub finish-given-requires : goal.finish-given-requires
finish-given-requires g c =
    let inside : c.loop-channel.channel < length (map g.F.Filter.filter c.args.filters.now) =
    omega (arith, c.loop-channel-test.true, length-map c.args.filters.now g.F.Filter.filter) in
    let room = same-room _ _ (map g.F.Filter.filter c.args.filters.now) c.requires.alike c.loop-channel.channel inside
    in
    rw (called-at g.F.Filter.filter c.args.filters.now c.loop-channel.filters c.loop-channel.channel
    c.index-filters-channel.result (omega arith) c.loop-channel.invariant.finished.left)
    (omega (arith, room, c.loop-channel.auto.output, c.requires.output))

pub loop-channel-preserved : goal.loop-channel-preserved
loop-channel-preserved g c =
    let filter = g.F.Filter.filter in
    let olds = map filter c.args.filters.now in
    let news = map filter c.loop-channel.filters in
    let channel = c.loop-channel.channel in
    let result = c.finish-given.result in
    let ys = map g.T.Sample.number (take result c.finish-given.new.output) in
    let size : length olds ≡ length c.args.filters.now = length-map c.args.filters.now filter in
    let inside : channel < length olds = omega (arith, c.loop-channel-test.true, size) in
    let long : length ys ≡ result = length-map (take result c.finish-given.new.output) g.T.Sample.number ∙
    length-take result c.finish-given.new.output ∙ omega
    (arith, c.finish-given.ensures.within, c.finish-given.auto.output) in
    let at_channel : filter (get_or c.loop-channel.filters channel c.index-filters-channel.result) ≡ filter_at olds
    channel =
    called-at filter c.args.filters.now c.loop-channel.filters channel c.index-filters-channel.result (omega arith)
    c.loop-channel.invariant.finished.left in
    let finished : FilterFinishes (filter_at olds channel) (filter c.finish-given.new.self) ys c.loop-channel.steps
    c.finish-given.new.steps =
    subst (λ f. FilterFinishes f (filter c.finish-given.new.self) ys c.loop-channel.steps c.finish-given.new.steps)
    at_channel c.finish-given.ensures.finished in
    let here : (n : ℕ) → n < length ys → sample c.put_channel.new.out (n * length c.args.filters.now + channel) ≡
    sample ys n = λ n h. c.put_channel.ensures.here n (omega
    (arith, h, length-map (take result c.finish-given.new.output) g.T.Sample.number)) in
    let so_far = c.loop-channel.invariant.finished in
    record {
      within = omega (arith, c.finish-given.ensures.within, c.loop-channel.auto.output);
      finished = subst (λ m. FinishedSoFar olds (map filter
          (set c.loop-channel.filters channel c.finish-given.new.self)) (channel + 1) m c.put_channel.new.out
          c.args.steps.now c.finish-given.new.steps) long
          (subst (λ fs. FinishedSoFar olds fs (channel + 1) (length ys) c.put_channel.new.out c.args.steps.now
          c.finish-given.new.steps) (sym (map-set filter c.loop-channel.filters channel c.finish-given.new.self))
          (finished-more _ _ olds c.requires.alike news channel c.loop-channel.given c.loop-channel.out
          c.put_channel.new.out ys (filter c.finish-given.new.self) c.args.steps.now c.loop-channel.steps
          c.finish-given.new.steps
          inside so_far finished
          (subst (λ k. (n : ℕ) → n < length ys → sample c.put_channel.new.out (n * k + channel) ≡ sample ys n)
          (sym size) here)
          (subst (λ k. (n d : ℕ) → d < k → d ≢ channel → sample c.put_channel.new.out (n * k + d) ≡ sample
          c.loop-channel.out (n * k + d)) (sym size) c.put_channel.ensures.elsewhere)));
      fits = fits-more (FitsSigned (word g.T.Sample.format)) (length c.args.filters.now) channel c.loop-channel.given
          result c.loop-channel.out c.put_channel.new.out c.loop-channel-test.true
          (λ d h. finished-long _ _ olds c.requires.alike news channel c.loop-channel.given c.loop-channel.out ys
          (filter c.finish-given.new.self) c.args.steps.now c.loop-channel.steps c.finish-given.new.steps
          inside so_far finished d h ∙ long)
          c.loop-channel.invariant.fits
          (λ n h. c.put_channel.ensures.fits n (omega (
            arith,
            h,
            long,
            length-map (take result c.finish-given.new.output) g.T.Sample.number,
          )))
          c.put_channel.ensures.elsewhere;
    }

pub returns-clause-finished : goal.returns-clause-finished
returns-clause-finished g c =
    let olds = map g.F.Filter.filter c.args.filters.now in
    let done : c.loop-channel.channel ≡ length olds = omega (
      arith,
      c.loop-channel-test.false,
      c.loop-channel.auto.channel-end,
      length-map c.args.filters.now g.F.Filter.filter,
    ) in
    finished-all _ _ olds c.requires.alike (map g.F.Filter.filter c.loop-channel.filters) c.loop-channel.given
    c.loop-channel.out c.args.steps.now c.loop-channel.steps
    (subst (λ k. FinishedSoFar olds (map g.F.Filter.filter c.loop-channel.filters) k c.loop-channel.given
    c.loop-channel.out c.args.steps.now c.loop-channel.steps) done c.loop-channel.invariant.finished)

pub returns-clause-fits : goal.returns-clause-fits
returns-clause-fits g c = λ n d h k. c.loop-channel.invariant.fits n d h (omega (arith, k, c.loop-channel-test.false))
