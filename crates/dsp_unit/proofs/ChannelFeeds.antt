-- A unit of filters is fed as its filters are fed.
use Rattle.std.proofs.Common.{◌≡◌, ◌∙◌, ap, refl, sym, subst, ℕ, ◌+◌, ◌*◌, ◌/◌, ◌<◌, ◌≤◌, ℤ, List, ◌++◌, length}
use Rattle.std.proofs.Common.{arith, false}
use Rattle.std.specs.Prelude.{All, Option, Some, None, IfSome}
use Rattle.dsp_defs.specs.Signal.{values}
use Rattle.dsp_defs.specs.Streaming.{Continues}
use Rattle.dsp_defs.specs.Block.{Frame, channel, frames_of, live}
use Rattle.dsp_defs.specs.Shape.{live_frames}
use Rattle.dsp_defs.specs.Cost.{live_block_cost, block_turns}
use Rattle.dsp_defs.specs.Counts.{Counts}
use Rattle.dsp_unit.specs.Unit.{StandsFor, CountsFrames, Accepts, Feeds, frames_in}
use Rattle.dsp_defs.specs.Kept.{limit_of}
use Rattle.dsp_unit.specs.Filter.{of_channel, IsByChannel, FilterState, FilterStandsFor, FilterCounts, FilterAccepts}
use Rattle.dsp_unit.specs.Filter.{filter_at, no_filter, IsLike, AreFilters}
use Rattle.dsp_unit.specs.Channels.{unit_of_filters, samples_in, AreFed}
use Rattle.dsp_defs.proofs.FrameLemmas.{length-frames_in}
use Rattle.dsp_defs.proofs.Causal.{channel-append}
use Rattle.dsp_unit.proofs.ChannelFrames.{frames-append, frames-cong, channel-frames_in, length-samples_in}
use Rattle.dsp_unit.proofs.ChannelFrames.{frames-of_channels, get_or-default}
use Rattle.dsp_unit.proofs.ChannelLaws.{counts-by, counts-took, live-by, live-alike, stands-filters, count-filters}
use Rattle.dsp_unit.proofs.ChannelLaws.{filters-stand, filters-count}
use Rattle.dsp_defs.specs.declared.format.Fmt.{Fmt}

-- filters that were made in the same way and all count n
pub are-counted :
    (format : Fmt) (capacity n : ℕ) (olds news : List FilterState) → AreFilters format capacity olds →
    length news ≡ length olds →
    ((c : ℕ) → c < length olds → ((filter_at news c).block ≡ (filter_at olds c).block) ×
    ((filter_at news c).format ≡ (filter_at olds c).format) ×
    ((filter_at news c).capacity ≡ (filter_at olds c).capacity)) →
    All (λ f. FilterCounts f n) news → AreFilters format capacity news
are-counted format capacity n olds news are size made counted = record {
  some = (let some = are.some in omega (arith, some, size));
  alike = λ k d h. rw (get_or-default news k d no_filter h) (like k h);
  format_is = format_of 0 first;
  by_channel = subst (λ b. IsByChannel format b) (sym (block_of 0 first)) are.by_channel;
  counted = λ _. (n, counted);
  took = (n, λ k d h. counts-took _ n (counted k d h));
}
  where
    first : 0 < length news
    first = (let some = are.some in omega (arith, some, size))

    old : (k : ℕ) → k < length news → k < length olds
    old k h = omega (arith, h, size)

    block_of : (k : ℕ) → k < length news → (filter_at news k).block ≡ (filter_at olds 0).block
    block_of k h = (made k (old k h)).0 ∙ (are.alike k no_filter (old k h)).block

    format_of : (k : ℕ) → k < length news → (filter_at news k).format ≡ format
    format_of k h = (made k (old k h)).1 ∙ (are.alike k no_filter (old k h)).format ∙ are.format_is

    tail_of : (k : ℕ) (h : k < length news) → length (filter_at news k).tail ≡ length (filter_at news 0).tail
    tail_of k h =
        let one = (counts-by (filter_at news k) format (filter_at olds 0).block (block_of k h) (format_of k h) n
        (counted k no_filter h)).1 in
        let other = (counts-by (filter_at news 0) format (filter_at olds 0).block (block_of 0 first)
        (format_of 0 first) n (counted 0 no_filter first)).1 in
        omega (arith, one, other)

    like : (k : ℕ) → k < length news → IsLike (filter_at news 0) capacity (filter_at news k)
    like k h = record {
      block = block_of k h ∙ sym (block_of 0 first);
      format = format_of k h ∙ sym (format_of 0 first);
      capacity = (made k (old k h)).2 ∙ (are.alike k no_filter (old k h)).capacity;
      ended = (counted k no_filter h).running ∙ sym (counted 0 no_filter first).running;
      tail = tail_of k h;
    }

-- a number of samples below a limit that a unit counts is one that its filters count
if-counts : (limit : Option ℕ) (Counts Filters : ℕ → Type 0) (more : ℕ) → ((n : ℕ) → Counts n → Filters n) →
    IfSome limit (λ limit. (n : ℕ) × Counts n × (n + more ≤ limit)) →
    IfSome limit (λ limit. (n : ℕ) × Filters n × (n + more ≤ limit))
if-counts None Counts Filters more each accepts = tt
if-counts (Some limit) Counts Filters more each (n, counts, within) = (n, each n counts, within)

-- the filters of a unit that can take so many frames more can take as many samples more
pub accept-filters :
    (format : Fmt) (capacity : ℕ) (filters : List FilterState) → AreFilters format capacity filters →
    (filter_at filters 0).ended ≡ false → (more : ℕ) →
    Accepts (unit_of_filters format capacity filters) more → All (λ f. FilterAccepts f more) filters
accept-filters format capacity filters are running more accepts = λ c d h.
    let (m, counted) = are.counted running in
    let first = if-counts (limit_of (filter_at filters 0).block)
    (CountsFrames (unit_of_filters format capacity filters)) (FilterCounts (filter_at filters c)) more
    (λ n counts. count-filters format capacity filters are m counted n counts c no_filter h) accepts in
    rw (get_or-default filters c d no_filter h)
    (subst (λ b. IfSome (limit_of b) (λ limit. (n : ℕ) × FilterCounts (filter_at filters c) n × (n + more ≤ limit)))
    (sym (are.alike c no_filter h).block) first)

module _ (format : Fmt) (capacity : ℕ) (olds news : List FilterState) (are : AreFilters format capacity olds)
    (running : (filter_at olds 0).ended ≡ false)
    (count many : ℕ) (taken given : List ℤ) (before after : Counts)
    (fed : AreFed olds news count taken many given before after) where
  -- the filters all count the samples that they took
  next-counts : (n : ℕ) → All (λ f. FilterCounts f n) olds → All (λ f. FilterCounts f (n + count)) news
  next-counts n counts = λ c d h.
      let inside : c < length olds = (let size = fed.size in omega (arith, h, size)) in
      let (start, stop, feeds) = fed.each c inside in
      let next : FilterCounts (filter_at news c) (n + length (samples_in (length olds) count taken c)) =
      feeds.counts n (counts c no_filter inside) in
      let next' : FilterCounts (filter_at news c) (n + count) = rw length-samples_in at next in
      rw (get_or-default news c d no_filter h) next'

  pub are-fed : AreFilters format capacity news
  are-fed =
      let (m, counted) = are.counted running in
      are-counted format capacity (m + count) olds news are fed.size
      (λ c h. let (start, stop, feeds) = fed.each c h in (feeds.made.block, feeds.made.format, feeds.made.capacity))
      (next-counts m counted)

  pub channels-feed : length taken / length olds ≡ count → length given / length olds ≡ many →
      Feeds (unit_of_filters format capacity olds) (unit_of_filters format capacity news)
      (frames_in (length olds) taken) (frames_in (length olds) given) before after
  channels-feed size size' = record {
    made = record {
      block = (let (start, stop, feeds) = fed.each 0 some in feeds.made.block);
      format =
          refl;
      channels = fed.size;
      capacity = refl;
      banked = refl;
    };
    values = values_follow;
    stands = λ x stands. filters-stand format capacity news are-fed (x ++ frames_in (length olds) taken) (λ c h.
        let inside : c < length olds = (let same = fed.size in omega (arith, h, same)) in
        let (start, stop, feeds) = fed.each c inside in
        subst (λ y. FilterStandsFor (filter_at news c) y) (sym (channel-next x c inside))
        (feeds.stands (channel c x) (stands-filters format capacity olds are m counted x stands c inside)));
    frames = λ n counts.
        let (start, stop, feeds) = fed.each 0 some in
        let given_count = feeds.count n (count-filters format capacity olds are m counted n counts 0 no_filter some) in
        let given_count' : live_frames (filter_at olds 0).block (n + count) ≡ live_frames (filter_at olds 0).block n +
        many = rw (length-samples_in, length-samples_in) at given_count in
        ap (λ k. live_frames (filter_at olds 0).block (n + k)) frames_taken ∙ given_count' ∙
        ap (λ k. live_frames (filter_at olds 0).block n + k) (sym frames_given);
    counts = λ n counts.
        let all : All (λ f. FilterCounts f (n + count)) news =
        next-counts n (count-filters format capacity olds are m counted n counts) in
        subst (λ k. CountsFrames (unit_of_filters format capacity news) (n + k)) (sym frames_taken)
        (filters-count format capacity news are-fed (n + count) all);
    multiplies = λ n counts.
        let paid = fed.multiplies n (count-filters format capacity olds are m counted n counts) in
        let paid' : length olds * live_block_cost format 1 (filter_at olds 0).block (n + count) + before.multiplies ≡
        length olds * live_block_cost format 1 (filter_at olds 0).block n + after.multiplies =
        rw are.format_is at paid in
        let one = are.by_channel.live_cost (length olds) (n + count) in
        let other = are.by_channel.live_cost (length olds) n in
        let same = ap (λ k. live_block_cost format (length olds) (filter_at olds 0).block (n + k)) frames_taken in
        omega (arith, paid', one, other, same);
    turns = λ n counts.
        let turns = fed.turns n (count-filters format capacity olds are m counted n counts) in
        let turns' : after.turns ≤ before.turns + length olds * block_turns format 1 (filter_at olds 0).block n
        (n + count) = rw are.format_is at turns in
        let one = are.by_channel.turns (length olds) n (n + count) in
        let same = ap (λ k. block_turns format (length olds) (filter_at olds 0).block n (n + k)) frames_taken in
        omega (arith, turns', one, same);
  }
    where
      some : 0 < length olds
      some = (let some = are.some in omega (arith, some))

      m : ℕ
      m = (are.counted running).0

      counted : All (λ f. FilterCounts f m) olds
      counted = (are.counted running).1

      frames_taken : length (frames_in (length olds) taken) ≡ count
      frames_taken = length-frames_in (length olds) taken ∙ size

      frames_given : length (frames_in (length olds) given) ≡ many
      frames_given = length-frames_in (length olds) given ∙ size'

      channel-next : (x : List Frame) (c : ℕ) → c < length olds →
          channel c (x ++ frames_in (length olds) taken) ≡ channel c x ++ samples_in (length olds) count taken c
      channel-next x c inside =
          channel-append c x (frames_in (length olds) taken)
          ∙ ap (λ t. channel c x ++ t) (channel-frames_in (length olds) taken c inside ∙
          ap (λ k. samples_in (length olds) k taken c) size)

      values_follow : (x : List Frame) → StandsFor (unit_of_filters format capacity olds) x →
          Continues (live format (length olds) (filter_at olds 0).block) x (frames_in (length olds) taken)
          (frames_in (length olds) given)
      values_follow x stands =
          live-by format (filter_at olds 0).block are.by_channel (length olds) (x ++ frames_in (length olds) taken)
          ∙ frames-cong (length olds) (λ c. of_channel format (filter_at olds 0).block
          (channel c (x ++ frames_in (length olds) taken)))
          (λ c. of_channel format (filter_at olds 0).block (channel c x) ++ samples_in (length olds) many given c)
          one
          ∙ frames-append (length olds) (λ c. of_channel format (filter_at olds 0).block (channel c x))
          (samples_in (length olds) many given) some (λ c h. live-alike format capacity olds are x c)
          ∙ ap (λ l. l ++ frames_of (values (length olds) (samples_in (length olds) many given)))
          (sym (live-by format (filter_at olds 0).block are.by_channel (length olds) x))
          ∙ ap (λ g. live format (length olds) (filter_at olds 0).block x ++ g)
          (frames-of_channels (length olds) many given some size')
        where
          one : (c : ℕ) → c < length olds → of_channel format (filter_at olds 0).block
              (channel c (x ++ frames_in (length olds) taken)) ≡ of_channel format (filter_at olds 0).block
              (channel c x) ++ samples_in (length olds) many given c
          one c h =
              let (start, stop, feeds) = fed.each c h in
              let like = are.alike c no_filter h in
              let is_block : (filter_at olds c).block ≡ (filter_at olds 0).block = like.block in
              let is_format : (filter_at olds c).format ≡ format = like.format ∙ are.format_is in
              ap (of_channel format (filter_at olds 0).block) (channel-next x c h)
              ∙ sym (λ i. of_channel (is_format i) (is_block i) (channel c x ++ samples_in (length olds) count taken c))
              ∙ feeds.values (channel c x) (stands-filters format capacity olds are m counted x stands c h)
              ∙ (λ i. of_channel (is_format i) (is_block i) (channel c x) ++ samples_in (length olds) many given c)
