-- Filters that are called one after another, channel by channel.
use Rattle.std.proofs.Common.{◌≡◌, ◌≢◌, ◌∙◌, ap, refl, sym, subst, ℕ, ◌+◌, ◌-◌, ◌*◌, ◌<◌, ◌≤◌, min, ℤ, pos, zero, suc}
use Rattle.std.proofs.Common.{List, length, map, get_or, set, arith, false, below_more, get_or-set_other}
use Rattle.std.proofs.Common.{get_or-set_same, length-set, length-append}
use Rattle.std.specs.Prelude.{All}
use Rattle.std.proofs.lemmas.List.{get_or-map}
use Rattle.std.proofs.lemmas.List.FromFn.{fill_by_all}
use Rattle.dsp_defs.specs.Signal.{sample}
use Rattle.dsp_defs.specs.Shape.{live_frames}
use Rattle.dsp_defs.specs.Cost.{live_block_cost, block_turns}
use Rattle.dsp_defs.specs.Counts.{Counts}
use Rattle.dsp_unit.specs.Unit.{most_frames}
use Rattle.dsp_unit.specs.Filter.{FilterState, FilterCounts, FilterTook, FilterFeeds, FilterFinishes, FilterRestores}
use Rattle.dsp_unit.specs.Filter.{IsLike, AreFilters, filter_at, filter_made, filter_room, made_with_left, no_filter}
use Rattle.dsp_unit.specs.Channels.{samples_in, numbers_in, made_now, AreFed, AreFinished}
use Rattle.dsp_defs.proofs.Signal.{values_cong}
use Rattle.dsp_unit.proofs.ChannelFrames.{length-samples_in}
use Rattle.dsp_defs.specs.declared.format.Fmt.{Fmt}

set-here : (filters : List FilterState) (k : ℕ) (y : FilterState) → k < length filters →
    filter_at (set filters k y) k ≡ y
set-here filters k y h = get_or-set_same filters k y no_filter h

set-apart : (filters : List FilterState) (k c : ℕ) (y : FilterState) → c ≢ k →
    filter_at (set filters k y) c ≡ filter_at filters c
set-apart filters k c y apart = get_or-set_other filters k c y no_filter apart

-- the filters from `channel` on are as they were
abbrev AreLeft : List FilterState → List FilterState → ℕ → Type 0
AreLeft olds news channel = (c : ℕ) → channel ≤ c → filter_at news c ≡ filter_at olds c

left-more : (olds news : List FilterState) (channel : ℕ) (y : FilterState) → AreLeft olds news channel →
    AreLeft olds (set news channel y) (channel + 1)
left-more olds news channel y left c h =
    let apart : c ≢ channel = omega arith in
    set-apart news channel c y apart ∙ left c (omega arith)

-- a channel that was written, and one that was not
module _ (channels channel : ℕ) (out written : List ℤ) where
  written-here : (ys : List ℤ) → ((n : ℕ) → n < length ys → sample written (n * channels + channel) ≡ sample ys n) →
      ys ≡ samples_in channels (length ys) written channel
  written-here ys here = fill_by_all (λ n. sample written (n * channels + channel)) ys (length ys) (pos 0) refl
      (λ n h. sym (here n h))

  written-apart : (count c : ℕ) → c < channels → c ≢ channel →
      ((n c : ℕ) → c < channels → c ≢ channel → sample written (n * channels + c) ≡ sample out (n * channels + c)) →
      samples_in channels count out c ≡ samples_in channels count written c
  written-apart count c inside apart elsewhere = values_cong count (λ n. sample out (n * channels + c))
      (λ n. sample written (n * channels + c)) (λ n _. sym (elsewhere n c inside apart))

-- the channels so far are fed, the others are as they were
pub record FedSoFar (olds news : List FilterState) (channel count : ℕ) (taken : List ℤ) (many : ℕ) (given : List ℤ)
    (before now : Counts) : Type 0 where
  pub size : length news ≡ length olds
  pub left : AreLeft olds news channel
  pub each : (c : ℕ) → c < channel → (start stop : Counts) ×
      FilterFeeds (filter_at olds c) (filter_at news c) (samples_in (length olds) count taken c)
      (samples_in (length olds) many given c) start stop
  multiplies : (n : ℕ) → All (λ f. FilterCounts f n) olds →
      channel * live_block_cost (filter_at olds 0).format 1 (filter_at olds 0).block (n + count) + before.multiplies ≡
      channel * live_block_cost (filter_at olds 0).format 1 (filter_at olds 0).block n + now.multiplies
  turns : (n : ℕ) → All (λ f. FilterCounts f n) olds →
      now.turns ≤ before.turns + channel * block_turns (filter_at olds 0).format 1 (filter_at olds 0).block n
      (n + count)

pub record FinishedSoFar (olds news : List FilterState) (channel many : ℕ) (given : List ℤ) (before now : Counts) :
    Type 0 where
  pub size : length news ≡ length olds
  pub left : AreLeft olds news channel
  pub each : (c : ℕ) → c < channel → (start stop : Counts) ×
      FilterFinishes (filter_at olds c) (filter_at news c) (samples_in (length olds) many given c) start stop
  multiplies : (n : ℕ) → All (λ f. FilterTook f n) olds →
      channel * made_now olds many n + before.multiplies ≡ channel * made_now olds 0 n + now.multiplies
  turns : (n : ℕ) → All (λ f. FilterTook f n) olds →
      now.turns + channel * made_now olds 0 n ≤ before.turns + channel * made_now olds many n

pub record RestoredSoFar (olds news : List FilterState) (channel size_of_each : ℕ) (numbers : List ℤ) : Type 0 where
  pub size : length news ≡ length olds
  pub left : AreLeft olds news channel
  pub each : (c : ℕ) → c < channel → FilterRestores (filter_at olds c) (filter_at news c)
      (numbers_in size_of_each numbers c)

-- the filter of a channel that is not yet called
pub called-at : {F : Type 0} (filter : F → FilterState) (initial filters : List F) (channel : ℕ) (x : F) →
    channel < length filters → AreLeft (map filter initial) (map filter filters) channel →
    filter (get_or filters channel x) ≡ filter_at (map filter initial) channel
called-at filter initial filters channel x inside left = sym (get_or-map filter filters channel x no_filter inside) ∙
    left channel (omega arith)

-- samples that fit, channel by channel
pub fits-more : (Holds : ℤ → Type 0) (channels channel many more : ℕ) (out written : List ℤ) → channel < channels →
    ((c : ℕ) → c < channel → many ≡ more) →
    ((n c : ℕ) → n < many → c < channel → Holds (sample out (n * channels + c))) →
    ((n : ℕ) → n < more → Holds (sample written (n * channels + channel))) →
    ((n c : ℕ) → c < channels → c ≢ channel → sample written (n * channels + c) ≡ sample out (n * channels + c)) →
    (n c : ℕ) → n < more → c < channel + 1 → Holds (sample written (n * channels + c))
fits-more Holds channels channel many more out written inside long earlier here elsewhere n c h below =
    below_more (λ c. Holds (sample written (n * channels + c))) channel
    (λ d less.
    let apart : d ≢ channel = omega (arith, less) in
    let within : d < channels = omega (arith, less, inside) in
    let same = long d less in
    subst Holds (sym (elsewhere n d within apart)) (earlier n d (omega (arith, h, same)) less))
    (here n h) c below

module _ (format : Fmt) (capacity : ℕ) (olds : List FilterState) (are : AreFilters format capacity olds) where
  first : 0 < length olds
  first = (let some = are.some in omega (arith, some))

  -- ---- feeding

  pub fed-none : (count : ℕ) (taken given : List ℤ) (counts : Counts) →
      FedSoFar olds olds 0 count taken 0 given counts counts
  fed-none count taken given counts = record {
    size = refl;
    left = λ c _. refl;
    each = λ c h. absurd (omega (arith, h));
    multiplies = λ n _. omega arith;
    turns = λ n _. omega arith;
  }

  pub fed-all : (news : List FilterState) (count : ℕ) (taken : List ℤ) (many : ℕ) (given : List ℤ)
      (before after : Counts) → FedSoFar olds news (length olds) count taken many given before after →
      AreFed olds news count taken many given before after
  fed-all news count taken many given before after so_far = record {
    size = so_far.size;
    each = so_far.each;
    multiplies = so_far.multiplies;
    turns = so_far.turns;
  }

  -- all give equally many of equally many samples
  same-given : (m count c d : ℕ) (taken given taken' given' : List ℤ) (y z : FilterState) (s t s' t' : Counts) →
      All (λ f. FilterCounts f m) olds → c < length olds → d < length olds → length taken ≡ count →
      length taken' ≡ count →
      FilterFeeds (filter_at olds c) y taken given s t → FilterFeeds (filter_at olds d) z taken' given' s' t' →
      length given ≡ length given'
  same-given m count c d taken given taken' given' y z s t s' t' counted h k size size' one other =
      let first_counts = one.count m (counted c no_filter h) in
      let other_counts = other.count m (counted d no_filter k) in
      let p = (are.alike c no_filter h).block in
      let q = (are.alike d no_filter k).block in
      let first_counts' : live_frames (filter_at olds 0).block (m + length taken) ≡ live_frames
      (filter_at olds 0).block m + length given = sym (λ i. live_frames (p i) (m + length taken)) ∙ first_counts ∙
      (λ i. live_frames (p i) m + length given) in
      let other_counts' : live_frames (filter_at olds 0).block (m + length taken') ≡ live_frames
      (filter_at olds 0).block m + length given' = sym (λ i. live_frames (q i) (m + length taken')) ∙ other_counts ∙
      (λ i. live_frames (q i) m + length given') in
      let same : live_frames (filter_at olds 0).block (m + length taken) ≡ live_frames (filter_at olds 0).block
      (m + length taken') = ap (λ n. live_frames (filter_at olds 0).block (m + n)) (size ∙ sym size') in
      omega (arith, first_counts', other_counts', same)

  -- so what the channels so far gave is as long as what the next one gives
  pub fed-long :
      (news : List FilterState) (channel count : ℕ) (taken : List ℤ) (many : ℕ) (given ys : List ℤ) (y : FilterState)
      (before now after : Counts) →
      (filter_at olds 0).ended ≡ false → channel < length olds →
      FedSoFar olds news channel count taken many given before now →
      FilterFeeds (filter_at olds channel) y (samples_in (length olds) count taken channel) ys now after → (c : ℕ) →
      c < channel → many ≡ length ys
  fed-long news channel count taken many given ys y before now after running inside so_far fed c below =
      let within : c < length olds = omega (arith, below, inside) in
      let (start, stop, feeds) = so_far.each c below in
      sym (length-samples_in (length olds) many given c)
      ∙ same-given (are.counted running).0 count c channel (samples_in (length olds) count taken c)
      (samples_in (length olds) many given c) (samples_in (length olds) count taken channel) ys (filter_at news c) y
      start stop now after
      (are.counted running).1 within inside (length-samples_in (length olds) count taken c)
      (length-samples_in (length olds) count taken channel) feeds fed

  pub fed-more :
      (news : List FilterState) (channel count : ℕ) (taken : List ℤ) (many : ℕ) (given written ys : List ℤ)
      (y : FilterState) (before now after : Counts) →
      (filter_at olds 0).ended ≡ false → channel < length olds →
      FedSoFar olds news channel count taken many given before now →
      FilterFeeds (filter_at olds channel) y (samples_in (length olds) count taken channel) ys now after →
      ((n : ℕ) → n < length ys → sample written (n * length olds + channel) ≡ sample ys n) →
      ((n c : ℕ) → c < length olds → c ≢ channel → sample written (n * length olds + c) ≡ sample given
      (n * length olds + c)) →
      FedSoFar olds (set news channel y) (channel + 1) count taken (length ys) written before after
  fed-more news channel count taken many given written ys y before now after running inside so_far fed here elsewhere
      = record {
        size = length-set news channel y ∙ so_far.size;
        left = left-more olds news channel y so_far.left;
        each = below_more (λ c. (start stop : Counts) ×
            FilterFeeds (filter_at olds c) (filter_at (set news channel y) c)
            (samples_in (length olds) count taken c) (samples_in (length olds) (length ys) written c)
            start stop) channel
            (λ c below.
            let apart : c ≢ channel = omega (arith, below) in
            let within : c < length olds = omega (arith, below, inside) in
            let (start, stop, feeds) = so_far.each c below in
            let long : many ≡ length ys = fed-long news channel count taken many given ys y before now after running
            inside so_far fed c below in
            let values_same : samples_in (length olds) many given c ≡ samples_in (length olds) (length ys) written c =
            ap (λ k. samples_in (length olds) k given c) long ∙
            written-apart (length olds) channel given written (length ys) c within apart elsewhere in (
              start,
              stop,
              subst (λ g. FilterFeeds (filter_at olds c) g (samples_in (length olds) count taken c)
                  (samples_in (length olds) (length ys) written c) start stop) (sym (set-apart news channel c y apart))
                  (subst (λ v. FilterFeeds (filter_at olds c) (filter_at news c)
                  (samples_in (length olds) count taken c)
                  v start stop) values_same feeds),
            )) (
              now,
              after,
              subst (λ g. FilterFeeds (filter_at olds channel) g (samples_in (length olds) count taken channel)
                  (samples_in (length olds) (length ys) written channel) now after)
                  (sym (set-here news channel y within_new))
                  (subst (λ v. FilterFeeds (filter_at olds channel) y
                  (samples_in (length olds) count taken channel) v now
                  after) (written-here (length olds) channel given written ys here) fed),
            );
        multiplies = λ n counts.
            let earlier = so_far.multiplies n counts in
            let paid = fed.multiplies n (counts channel no_filter inside) in
            let paid' : live_block_cost (filter_at olds 0).format 1 (filter_at olds 0).block (n + count) +
            now.multiplies
            ≡ live_block_cost (filter_at olds 0).format 1 (filter_at olds 0).block n + after.multiplies =
            sym (λ i. live_block_cost (is_format i) 1 (is_block i)
            (n + length-samples_in (length olds) count taken channel i) + now.multiplies) ∙ paid ∙
            (λ i. live_block_cost (is_format i) 1 (is_block i) n + after.multiplies) in
            omega (arith, earlier, paid');
        turns = λ n counts.
            let earlier = so_far.turns n counts in
            let turned = fed.turns n (counts channel no_filter inside) in
            let same : block_turns (filter_at olds channel).format 1 (filter_at olds channel).block n
            (n + length (samples_in (length olds) count taken channel)) ≡ block_turns (filter_at olds 0).format 1
            (filter_at olds 0).block n (n + count) =
            (λ i. block_turns (is_format i) 1 (is_block i) n
            (n + length-samples_in (length olds) count taken channel i)) in
            omega (arith, earlier, turned, same);
      }
    where
      within_new : channel < length news
      within_new = (let size = so_far.size in omega (arith, inside, size))

      is_block : (filter_at olds channel).block ≡ (filter_at olds 0).block
      is_block = (are.alike channel no_filter inside).block

      is_format : (filter_at olds channel).format ≡ (filter_at olds 0).format
      is_format = (are.alike channel no_filter inside).format

  -- ---- finishing

  pub finished-none : (given : List ℤ) (counts : Counts) → FinishedSoFar olds olds 0 0 given counts counts
  finished-none given counts = record {
    size = refl;
    left = λ c _. refl;
    each = λ c h. absurd (omega (arith, h));
    multiplies = λ n took. omega arith;
    turns = λ n took. omega arith;
  }

  pub finished-all : (news : List FilterState) (many : ℕ) (given : List ℤ) (before after : Counts) →
      FinishedSoFar olds news (length olds) many given before after → AreFinished olds news many given before after
  finished-all news many given before after so_far = record {
    size = so_far.size;
    each = so_far.each;
    multiplies = so_far.multiplies;
    turns = so_far.turns;
  }

  pub same-room : (c : ℕ) → c < length olds → filter_room (filter_at olds c) ≡ filter_room (filter_at olds 0)
  same-room c h =
      let like = are.alike c no_filter h in
      let first_like = are.alike 0 no_filter first in
      let size : (filter_at olds c).capacity ≡ (filter_at olds 0).capacity = like.capacity ∙ sym first_like.capacity in
      (λ i. most_frames (like.block i) (size i))

  -- each filter gives as many values of its tail
  same-finish : (c : ℕ) (y : FilterState) (ys : List ℤ) (s t : Counts) → c < length olds →
      FilterFinishes (filter_at olds c) y ys s t → length ys ≡ min (length (filter_at olds 0).tail)
      (filter_room (filter_at olds 0))
  same-finish c y ys s t h finishes =
      let tail = (are.alike c no_filter h).tail in
      finishes.count ∙ (λ i. min (tail i) (same-room c h i))

  pub finished-long :
      (news : List FilterState) (channel many : ℕ) (given ys : List ℤ) (y : FilterState) (before now after : Counts) →
      channel < length olds →
      FinishedSoFar olds news channel many given before now → FilterFinishes (filter_at olds channel) y ys now after →
      (c : ℕ) → c < channel → many ≡ length ys
  finished-long news channel many given ys y before now after inside so_far finishes c below =
      let within : c < length olds = omega (arith, below, inside) in
      let (start, stop, one) = so_far.each c below in
      sym (length-samples_in (length olds) many given c)
      ∙ same-finish c (filter_at news c) (samples_in (length olds) many given c) start stop within one
      ∙ sym (same-finish channel y ys now after inside finishes)

  pub finished-more :
      (news : List FilterState) (channel many : ℕ) (given written ys : List ℤ) (y : FilterState)
      (before now after : Counts) → channel < length olds →
      FinishedSoFar olds news channel many given before now → FilterFinishes (filter_at olds channel) y ys now after →
      ((n : ℕ) → n < length ys → sample written (n * length olds + channel) ≡ sample ys n) →
      ((n c : ℕ) → c < length olds → c ≢ channel → sample written (n * length olds + c) ≡ sample given
      (n * length olds + c)) →
      FinishedSoFar olds (set news channel y) (channel + 1) (length ys) written before after
  finished-more news channel many given written ys y before now after inside so_far finishes here elsewhere = record {
    size = length-set news channel y ∙ so_far.size;
    left = left-more olds news channel y so_far.left;
    each = below_more (λ c. (start stop : Counts) × FilterFinishes (filter_at olds c)
        (filter_at (set news channel y) c) (samples_in (length olds) (length ys) written c) start stop) channel
        (λ c below.
        let apart : c ≢ channel = omega (arith, below) in
        let within : c < length olds = omega (arith, below, inside) in
        let (start, stop, one) = so_far.each c below in
        let long : many ≡ length ys = finished-long news channel many given ys y before now after inside so_far
        finishes c below in
        let values_same : samples_in (length olds) many given c ≡ samples_in (length olds) (length ys) written c =
        ap (λ k. samples_in (length olds) k given c) long ∙
        written-apart (length olds) channel given written (length ys) c within apart elsewhere in (
          start,
          stop,
          subst (λ g. FilterFinishes (filter_at olds c) g (samples_in (length olds) (length ys) written c) start stop)
              (sym (set-apart news channel c y apart))
              (subst (λ v. FilterFinishes (filter_at olds c) (filter_at news c) v start stop) values_same one),
        )) (
          now,
          after,
          subst (λ g. FilterFinishes (filter_at olds channel) g (samples_in (length olds) (length ys) written channel)
              now after) (sym (set-here news channel y within_new))
              (subst (λ v. FilterFinishes (filter_at olds channel) y v now after)
              (written-here (length olds) channel given written ys here) finishes),
        );
    multiplies = λ n took. (let earlier = so_far.multiplies n took in let paid =
        finishes.multiplies n (took channel no_filter inside) in
        omega (arith, earlier, paid, made-before n, made-after n took, moved n));
    turns = λ n took. (let earlier = so_far.turns n took in let turned =
        finishes.turns n (took channel no_filter inside) in
        omega (arith, earlier, turned, made-before n, made-after n took, moved n));
  }
    where
      within_new : channel < length news
      within_new = (let size = so_far.size in omega (arith, inside, size))

      like : IsLike (filter_at olds 0) capacity (filter_at olds channel)
      like = are.alike channel no_filter inside

      made-before : (n : ℕ) → filter_made (filter_at olds channel) n ≡ made_now olds 0 n
      made-before n = (λ i. made_with_left (like.format i) (like.block i) n (like.tail i)) ∙
          ap (made_with_left (filter_at olds 0).format (filter_at olds 0).block n) (omega arith)

      made-after : (n : ℕ) → All (λ f. FilterTook f n) olds → filter_made y n ≡ made_now olds (length ys) n
      made-after n took =
          let size : length (filter_at olds channel).tail ≡ length ys + length y.tail = ap length finishes.tail ∙
          length-append ys y.tail in
          let same = like.tail in
          let left : length y.tail ≡ length (filter_at olds 0).tail - length ys = omega (arith, size, same) in
          (λ i. made_with_left ((finishes.made.format ∙ like.format) i) ((finishes.made.block ∙ like.block) i) n
          (left i))

      -- those before it gave as many values
      moved : (n : ℕ) → channel * made_now olds many n ≡ channel * made_now olds (length ys) n
      moved n = times channel (λ c below. ap (λ k. made_now olds k n)
          (finished-long news channel many given ys y before now after inside so_far finishes c below))
        where
          times : (k : ℕ) → ((c : ℕ) → c < k → made_now olds many n ≡ made_now olds (length ys) n) →
              k * made_now olds many n ≡ k * made_now olds (length ys) n
          times zero same = omega arith
          times (suc k) same = ap (λ m. suc k * m) (same k (omega arith))

  -- ---- keeping other numbers

  pub restored-more : (news : List FilterState) (channel size : ℕ) (numbers : List ℤ) (y : FilterState) →
      channel < length olds →
      RestoredSoFar olds news channel size numbers → FilterRestores (filter_at olds channel) y
      (numbers_in size numbers channel) → RestoredSoFar olds (set news channel y) (channel + 1) size numbers
  restored-more news channel size numbers y inside so_far restores = record {
    size = length-set news channel y ∙ so_far.size;
    left = left-more olds news channel y so_far.left;
    each = below_more (λ c. FilterRestores (filter_at olds c) (filter_at (set news channel y) c)
        (numbers_in size numbers c)) channel
        (λ c below.
        let apart : c ≢ channel = omega (arith, below) in
        subst (λ g. FilterRestores (filter_at olds c) g (numbers_in size numbers c))
        (sym (set-apart news channel c y apart)) (so_far.each c below))
        (subst (λ g. FilterRestores (filter_at olds channel) g (numbers_in size numbers channel))
        (sym (set-here news channel y (let same = so_far.size in omega (arith, inside, same)))) restores);
  }
