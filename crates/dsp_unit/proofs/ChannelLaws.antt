-- A unit of filters stands for the frames whose channels its filters stand for, and counts what they count.
use Rattle.std.proofs.Common.{◌≡◌, ◌∙◌, ap, refl, sym, subst, ℕ, ◌+◌, ◌<◌, ◌≤◌, ℤ, List, ◌++◌, length, arith, false}
use Rattle.std.proofs.Common.{flat_map}
use Rattle.std.specs.List.{range_with_len}
use Rattle.std.specs.Prelude.{All, Option}
use Rattle.std.proofs.lemmas.List.{length-map}
use Rattle.dsp_defs.specs.Signal.{sample, values}
use Rattle.dsp_defs.specs.Block.{Frame, channel, frames_of, each_channel, applied, whole, live}
use Rattle.dsp_defs.specs.Shape.{whole_frames, live_frames}
use Rattle.dsp_defs.specs.Kept.{kept_of_channel, kinds_by, kept_kinds, Each, IsPlace, HasPlace}
use Rattle.dsp_unit.specs.Unit.{StandsFor, CountsFrames, TookFrames}
use Rattle.dsp_unit.specs.Filter.{of_channel, of_whole_channel, IsByChannel, FilterState, FilterStandsFor}
use Rattle.dsp_unit.specs.Filter.{FilterCounts, FilterTook, filter_at, no_filter, kept_of_all, tails_of, AreFilters}
use Rattle.dsp_unit.specs.Channels.{unit_of_filters}
use Rattle.dsp_defs.proofs.FrameLaws.{IsCounted, whole_channel_counted, live_channel_counted}
use Rattle.dsp_defs.proofs.Causal.{channel-append}
use Rattle.dsp_unit.proofs.ChannelFrames.{factor-same, length-frames_of, frames-append, channel-frames_of}
use Rattle.dsp_unit.proofs.ChannelFrames.{frames-cong, kept-places, tail-places, get_or-default}
use Rattle.dsp_unit.proofs.ChannelKept.{length-pieces, pieces-apart, pieces-same, each-length, pieces-each, each-pieces}
use Rattle.dsp_defs.specs.declared.format.Fmt.{Fmt}
use Rattle.dsp_defs.specs.declared.script.Block.{Block}

-- ---- one filter, by the block and the format of all

module _ (f : FilterState) (format : Fmt) (block : Block) (is_block : f.block ≡ block) (is_format : f.format ≡ format)
  where
    stands-by : (x : List ℤ) → FilterStandsFor f x → (f.kept ≡ kept_of_channel format block x) ×
        (of_whole_channel format block x ≡ of_channel format block x ++ f.tail)
    stands-by x stands = (
      stands.keeps ∙ (λ i. kept_of_channel (is_format i) (is_block i) x),
      sym (λ i. of_whole_channel (is_format i) (is_block i) x) ∙ stands.tail_follows ∙
          (λ i. of_channel (is_format i) (is_block i) x ++ f.tail),
    )

    by-stands : (x : List ℤ) → f.ended ≡ false → f.kept ≡ kept_of_channel format block x →
        of_whole_channel format block x ≡ of_channel format block x ++ f.tail → FilterStandsFor f x
    by-stands x running keeps follows = record {
      running = running;
      keeps = keeps ∙ sym (λ i. kept_of_channel (is_format i) (is_block i) x);
      tail_follows = (λ i. of_whole_channel (is_format i) (is_block i) x) ∙ follows ∙
          sym (λ i. of_channel (is_format i) (is_block i) x ++ f.tail);
    }

    pub counts-by : (n : ℕ) → FilterCounts f n → Each IsPlace (kinds_by format block n) f.kept ×
        (whole_frames block n ≡ live_frames block n + length f.tail)
    counts-by n counts = (
      subst (λ ks. Each IsPlace ks f.kept) (λ i. kinds_by (is_format i) (is_block i) n) counts.place,
      sym (λ i. whole_frames (is_block i) n) ∙ counts.tail_values ∙ (λ i. live_frames (is_block i) n + length f.tail),
    )

    by-counts : (n : ℕ) → f.ended ≡ false → Each IsPlace (kinds_by format block n) f.kept →
        whole_frames block n ≡ live_frames block n + length f.tail → FilterCounts f n
    by-counts n running place tail = record {
      running = running;
      place = subst (λ ks. Each IsPlace ks f.kept) (sym (λ i. kinds_by (is_format i) (is_block i) n)) place;
      tail_values = (λ i. whole_frames (is_block i) n) ∙ tail ∙ sym (λ i. live_frames (is_block i) n + length f.tail);
    }

    took-by : (n : ℕ) → FilterTook f n → Each IsPlace (kinds_by format block n) f.kept ×
        (length f.tail ≤ whole_frames block n)
    took-by n took = (
      subst (λ ks. Each IsPlace ks f.kept) (λ i. kinds_by (is_format i) (is_block i) n) took.place,
      subst (λ b. length f.tail ≤ whole_frames b n) is_block took.tail_within,
    )

    by-took : (n : ℕ) → Each IsPlace (kinds_by format block n) f.kept → length f.tail ≤ whole_frames block n →
        FilterTook f n
    by-took n place within = record {
      place = subst (λ ks. Each IsPlace ks f.kept) (sym (λ i. kinds_by (is_format i) (is_block i) n)) place;
      tail_within = subst (λ b. length f.tail ≤ whole_frames b n) (sym is_block) within;
    }

-- a filter that counts n samples took them
pub counts-took : (f : FilterState) (n : ℕ) → FilterCounts f n → FilterTook f n
counts-took f n counts = record {
  place = counts.place;
  tail_within =
      (let whole = counts.tail_values in omega (arith, whole));
}

-- ---- the block on all channels

module _ (format : Fmt) (block : Block) (by : IsByChannel format block) where
  length-of_whole : (x : List ℤ) → length (of_whole_channel format block x) ≡ whole_frames block (length x)
  length-of_whole = subst (λ (o : Option (List ℤ → List ℤ)). IsCounted o (whole_frames block)) by.whole_is
      (whole_channel_counted format block)

  length-of_live : (x : List ℤ) → length (of_channel format block x) ≡ live_frames block (length x)
  length-of_live = subst (λ (o : Option (List ℤ → List ℤ)). IsCounted o (live_frames block)) by.live_is
      (live_channel_counted format block)

  pub whole-by : (c : ℕ) (x : List Frame) → whole format c block x ≡ each_channel c (of_whole_channel format block) x
  whole-by c x = ap (λ o. applied format c block o x) by.whole_is

  pub live-by : (c : ℕ) (x : List Frame) → live format c block x ≡ each_channel c (of_channel format block) x
  live-by c x = ap (λ o. applied format c block o x) by.live_is

-- ---- filters of one block

pub length-channel : (c : ℕ) (x : List Frame) → length (channel c x) ≡ length x
length-channel c x = length-map x (λ (f : Frame). sample f c)

pub record Alike (format : Fmt) (block : Block) (filters : List FilterState) : Type 0 where
  pub some : 0 < length filters
  blocks : (c : ℕ) → c < length filters → (filter_at filters c).block ≡ block
  formats : (c : ℕ) → c < length filters → (filter_at filters c).format ≡ format
  pub by_channel : IsByChannel format block

are-alike : (format : Fmt) (capacity : ℕ) (filters : List FilterState) → AreFilters format capacity filters →
    Alike format (filter_at filters 0).block filters
are-alike format capacity filters are = record {
  some = (let some = are.some in omega (arith, some));
  blocks = λ c h. (are.alike c no_filter h).block;
  formats = λ c h. (are.alike c no_filter h).format ∙ are.format_is;
  by_channel = are.by_channel;
}

-- the filters of a unit, where each is as the first
module _ (format : Fmt) (capacity : ℕ) (filters : List FilterState) (are : AreFilters format capacity filters) where
  block : Block
  block = (filter_at filters 0).block

  pub alike : Alike format (filter_at filters 0).block filters
  alike = are-alike format capacity filters are

  pub live-alike : (x : List Frame) (c : ℕ) → length (of_channel format (filter_at filters 0).block (channel c x)) ≡
      length (of_channel format (filter_at filters 0).block (channel 0 x))
  live-alike x c =
      length-of_live format (filter_at filters 0).block are.by_channel (channel c x)
      ∙ ap (live_frames (filter_at filters 0).block) (length-channel c x ∙ sym (length-channel 0 x))
      ∙ sym (length-of_live format (filter_at filters 0).block are.by_channel (channel 0 x))

  whole-alike : (x : List Frame) (c : ℕ) → length (of_whole_channel format (filter_at filters 0).block (channel c x))
      ≡ length (of_whole_channel format (filter_at filters 0).block (channel 0 x))
  whole-alike x c =
      length-of_whole format (filter_at filters 0).block are.by_channel (channel c x)
      ∙ ap (whole_frames (filter_at filters 0).block) (length-channel c x ∙ sym (length-channel 0 x))
      ∙ sym (length-of_whole format (filter_at filters 0).block are.by_channel (channel 0 x))

  tail-alike : (c : ℕ) → c < length filters → length (filter_at filters c).tail ≡ length (filter_at filters 0).tail
  tail-alike c h = (are.alike c no_filter h).tail

  -- as many frames are left as the first filter has values left
  pub length-unit_tail : length (frames_of (tails_of filters)) ≡ length (filter_at filters 0).tail
  length-unit_tail = ap (λ ts. length (frames_of ts)) (tail-places filters) ∙
      length-frames_of (length filters) (λ c. (filter_at filters c).tail) alike.some

  -- such a unit stands for x where each filter stands for its channel of x
  pub filters-stand : (x : List Frame) → ((c : ℕ) → c < length filters →
      FilterStandsFor (filter_at filters c) (channel c x)) → StandsFor (unit_of_filters format capacity filters) x
  filters-stand x each = record {
    running = (each 0 alike.some).running;
    keeps = kept-places filters
        ∙ pieces-same (λ c. (filter_at filters c).kept) (λ c. kept_of_channel format (filter_at filters 0).block
        (channel c x)) (length filters) (λ c h. (stands c h).0)
        ∙ sym (are.by_channel.keeps_is (length filters) x);
    tail_follows =
        whole-by format (filter_at filters 0).block are.by_channel (length filters) x
        ∙ frames-cong (length filters) (λ c. of_whole_channel format (filter_at filters 0).block (channel c x))
        (λ c. of_channel format (filter_at filters 0).block (channel c x) ++ (filter_at filters c).tail)
        (λ c h. (stands c h).1)
        ∙ frames-append (length filters) (λ c. of_channel format (filter_at filters 0).block (channel c x))
        (λ c. (filter_at filters c).tail) alike.some (λ c h. live-alike x c)
        ∙ ap (λ l. l ++ frames_of (values (length filters) (λ c. (filter_at filters c).tail)))
        (sym (live-by format (filter_at filters 0).block are.by_channel (length filters) x))
        ∙ ap (λ ts. live format (length filters) (filter_at filters 0).block x ++ frames_of ts)
        (sym (tail-places filters));
  }
    where
      stands : (c : ℕ) → c < length filters → ((filter_at filters c).kept ≡ kept_of_channel format
          (filter_at filters 0).block (channel c x)) × (of_whole_channel format (filter_at filters 0).block
          (channel c x) ≡ of_channel format (filter_at filters 0).block (channel c x) ++ (filter_at filters c).tail)
      stands c h = stands-by (filter_at filters c) format (filter_at filters 0).block (alike.blocks c h)
          (alike.formats c h) (channel c x) (each c h)

  -- numbers that stand at the place of n samples do so filter by filter, where each filter keeps as many
  places-apart : (size : ℕ) → ((c : ℕ) → c < length filters → length (filter_at filters c).kept ≡ size) → (n : ℕ) →
      HasPlace format (length filters) (filter_at filters 0).block n (kept_of_all filters) →
      (c : ℕ) → c < length filters → Each IsPlace (kinds_by format (filter_at filters 0).block n)
      (filter_at filters c).kept
  places-apart size long n has c h = each-pieces IsPlace (kinds_by format (filter_at filters 0).block n)
      (λ d. (filter_at filters d).kept) (length filters) (λ d k. long d k ∙ same) place c h
    where
      place : Each IsPlace (flat_map (λ (_ : ℕ). kinds_by format (filter_at filters 0).block n)
          (range_with_len 0 (length filters))) (flat_map (λ c. (filter_at filters c).kept)
          (range_with_len 0 (length filters)))
      place = subst (λ ks. Each IsPlace ks (flat_map (λ c. (filter_at filters c).kept)
          (range_with_len 0 (length filters)))) (are.by_channel.kinds_are (length filters) n)
          (subst (λ xs. Each IsPlace (kept_kinds format (length filters) (filter_at filters 0).block n) xs)
          (kept-places filters) has)

      same : size ≡ length (kinds_by format (filter_at filters 0).block n)
      same = factor-same (length filters) size (length (kinds_by format (filter_at filters 0).block n)) alike.some
          (sym (length-pieces (λ c. (filter_at filters c).kept) size (length filters) long)
          ∙ each-length IsPlace _ _ place
          ∙ length-pieces (λ (_ : ℕ). kinds_by format (filter_at filters 0).block n)
          (length (kinds_by format (filter_at filters 0).block n)) (length filters) (λ _ _. refl))

  -- and the other way round
  places-whole : (n : ℕ) → ((c : ℕ) → c < length filters →
      Each IsPlace (kinds_by format (filter_at filters 0).block n) (filter_at filters c).kept) →
      HasPlace format (length filters) (filter_at filters 0).block n (kept_of_all filters)
  places-whole n each =
      subst (λ ks. Each IsPlace ks (kept_of_all filters)) (sym (are.by_channel.kinds_are (length filters) n))
      (subst (λ xs. Each IsPlace (flat_map (λ (_ : ℕ). kinds_by format (filter_at filters 0).block n)
      (range_with_len 0 (length filters))) xs) (sym (kept-places filters))
      (pieces-each IsPlace (kinds_by format (filter_at filters 0).block n) (λ c. (filter_at filters c).kept)
      (length filters) each))

  -- they all count one number
  module _ (m : ℕ) (counted : All (λ f. FilterCounts f m) filters) where
    count-at : (c : ℕ) → c < length filters →
        Each IsPlace (kinds_by format (filter_at filters 0).block m) (filter_at filters c).kept
        × (whole_frames (filter_at filters 0).block m ≡ live_frames (filter_at filters 0).block m + length
        (filter_at filters c).tail)
    count-at c h = counts-by (filter_at filters c) format (filter_at filters 0).block (alike.blocks c h)
        (alike.formats c h) m (counted c no_filter h)

    kept-size : (c : ℕ) → c < length filters → length (filter_at filters c).kept ≡ length
        (kinds_by format (filter_at filters 0).block m)
    kept-size c h = each-length IsPlace (kinds_by format (filter_at filters 0).block m) (filter_at filters c).kept
        (count-at c h).0

    -- as many numbers as each number of frames gives that fits
    same-kinds : (n : ℕ) (numbers : ℕ → List ℤ) → flat_map (λ c. (filter_at filters c).kept)
        (range_with_len 0 (length filters)) ≡ flat_map numbers (range_with_len 0 (length filters)) →
        ((c : ℕ) → c < length filters → length (numbers c) ≡ n) →
        length (kinds_by format (filter_at filters 0).block m) ≡ n
    same-kinds n numbers e size =
        factor-same (length filters) (length (kinds_by format (filter_at filters 0).block m)) n alike.some
        (sym (length-pieces (λ c. (filter_at filters c).kept) (length (kinds_by format (filter_at filters 0).block m))
        (length filters) kept-size) ∙ ap length e ∙ length-pieces numbers n (length filters) size)

    pub stands-filters : (x : List Frame) → StandsFor (unit_of_filters format capacity filters) x → (c : ℕ) →
        c < length filters → FilterStandsFor (filter_at filters c) (channel c x)
    stands-filters x stands c h =
        by-stands (filter_at filters c) format (filter_at filters 0).block (alike.blocks c h) (alike.formats c h)
        (channel c x)
        ((are.alike c no_filter h).ended ∙ stands.running)
        (pieces-apart (λ d. (filter_at filters d).kept) (λ d. kept_of_channel format (filter_at filters 0).block
        (channel d x)) (length filters) (length (kinds_by format (filter_at filters 0).block m)) kept-size
        (λ d k. kept-length d ∙ sym (same-kinds (length (kinds_by format (filter_at filters 0).block (length x)))
        (λ d. kept_of_channel format (filter_at filters 0).block (channel d x)) keeps (λ e _. kept-length e)))
        keeps c h)
        (sym (channel-frames_of (length filters) (λ d. of_whole_channel format (filter_at filters 0).block
        (channel d x)) c h (whole-alike x c))
        ∙ ap (channel c) follows
        ∙ channel-append c (frames_of (values (length filters)
        (λ d. of_channel format (filter_at filters 0).block (channel d x))))
        (frames_of (values (length filters) (λ d. (filter_at filters d).tail)))
        ∙ ap (λ l. l ++ channel c (frames_of (values (length filters) (λ d. (filter_at filters d).tail))))
        (channel-frames_of (length filters) (λ d. of_channel format (filter_at filters 0).block (channel d x)) c h
        (live-alike x c))
        ∙ ap (λ t. of_channel format (filter_at filters 0).block (channel c x) ++ t)
        (channel-frames_of (length filters) (λ d. (filter_at filters d).tail) c h (tail-alike c h)))
      where
        keeps : flat_map (λ d. (filter_at filters d).kept) (range_with_len 0 (length filters)) ≡ flat_map
            (λ d. kept_of_channel format (filter_at filters 0).block (channel d x)) (range_with_len 0 (length filters))
        keeps = sym (kept-places filters) ∙ stands.keeps ∙ are.by_channel.keeps_is (length filters) x

        kept-length : (d : ℕ) → length (kept_of_channel format (filter_at filters 0).block (channel d x)) ≡ length
            (kinds_by format (filter_at filters 0).block (length x))
        kept-length d =
            each-length IsPlace (kinds_by format (filter_at filters 0).block (length (channel d x)))
            (kept_of_channel format (filter_at filters 0).block (channel d x))
            (are.by_channel.keeps_place (channel d x))
            ∙ ap (λ n. length (kinds_by format (filter_at filters 0).block n)) (length-channel d x)

        follows : frames_of (values (length filters) (λ d. of_whole_channel format (filter_at filters 0).block
            (channel d x))) ≡ frames_of (values (length filters)
            (λ d. of_channel format (filter_at filters 0).block (channel d x))) ++ frames_of
            (values (length filters) (λ d. (filter_at filters d).tail))
        follows =
            sym (whole-by format (filter_at filters 0).block are.by_channel (length filters) x)
            ∙ stands.tail_follows
            ∙ ap (λ l. l ++ frames_of (tails_of filters)) (live-by format (filter_at filters 0).block are.by_channel
            (length filters) x)
            ∙ ap (λ ts. frames_of (values (length filters) (λ d. of_channel format (filter_at filters 0).block
            (channel d x))) ++ frames_of ts) (tail-places filters)

    pub count-filters : (n : ℕ) → CountsFrames (unit_of_filters format capacity filters) n →
        All (λ f. FilterCounts f n) filters
    count-filters n counts = λ c d h. rw (get_or-default filters c d no_filter h) (one c h)
      where
        one : (c : ℕ) → c < length filters → FilterCounts (filter_at filters c) n
        one c h =
            by-counts (filter_at filters c) format (filter_at filters 0).block (alike.blocks c h) (alike.formats c h) n
            ((are.alike c no_filter h).ended ∙ counts.running)
            (places-apart (length (kinds_by format (filter_at filters 0).block m)) kept-size n counts.place c h)
            (counts.tail_frames ∙ ap (λ t. live_frames (filter_at filters 0).block n + t)
            (length-unit_tail ∙ sym (tail-alike c h)))

  -- and such a unit counts n where each filter counts n
  pub filters-count : (n : ℕ) → All (λ f. FilterCounts f n) filters →
      CountsFrames (unit_of_filters format capacity filters) n
  filters-count n counts = record {
    running = (counts 0 no_filter alike.some).running;
    place = places-whole n (λ c h. (count-at n counts c h).0);
    tail_frames = (count-at n counts 0 alike.some).1 ∙ ap (λ t. live_frames (filter_at filters 0).block n + t)
        (sym length-unit_tail);
  }

  -- ---- where the tail may be begun

  took-at : (m : ℕ) → All (λ f. FilterTook f m) filters → (c : ℕ) → c < length filters →
      Each IsPlace (kinds_by format (filter_at filters 0).block m) (filter_at filters c).kept ×
      (length (filter_at filters c).tail ≤ whole_frames (filter_at filters 0).block m)
  took-at m took c h = took-by (filter_at filters c) format (filter_at filters 0).block (alike.blocks c h)
      (alike.formats c h) m (took c no_filter h)

  -- the filters took the frames that their unit took
  pub took-filters : (n : ℕ) → TookFrames (unit_of_filters format capacity filters) n →
      All (λ f. FilterTook f n) filters
  took-filters n took = λ c d h. rw (get_or-default filters c d no_filter h) (one c h)
    where
      m : ℕ
      m = are.took.0

      size : (c : ℕ) → c < length filters → length (filter_at filters c).kept ≡ length
          (kinds_by format (filter_at filters 0).block m)
      size c h = each-length IsPlace (kinds_by format (filter_at filters 0).block m) (filter_at filters c).kept
          (took-at m are.took.1 c h).0

      one : (c : ℕ) → c < length filters → FilterTook (filter_at filters c) n
      one c h =
          by-took (filter_at filters c) format (filter_at filters 0).block (alike.blocks c h) (alike.formats c h) n
          (places-apart (length (kinds_by format (filter_at filters 0).block m)) size n took.place c h)
          (let within = took.tail_within in omega (arith, within, length-unit_tail, tail-alike c h))

  -- and the unit those that they took
  pub filters-took : (n : ℕ) → All (λ f. FilterTook f n) filters →
      TookFrames (unit_of_filters format capacity filters) n
  filters-took n took = record {
    place = places-whole n (λ c h. (took-at n took c h).0);
    tail_within = (let within = (took-at n took 0 alike.some).1 in omega (arith, within, length-unit_tail));
  }
