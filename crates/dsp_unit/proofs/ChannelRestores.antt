-- A unit of filters goes on from kept numbers as its filters go on from theirs.
use Rattle.std.proofs.Common.{◌≡◌, ◌∙◌, ap, refl, sym, subst, ℕ, ◌*◌, ◌/◌, ◌%◌, ◌<◌, ℤ, List, [], length, arith}
use Rattle.std.proofs.Common.{flat_map}
use Rattle.std.specs.List.{range_with_len}
use Rattle.std.specs.Prelude.{All}
use Rattle.std.proofs.Math.Nat.{mul-mod_right}
use Rattle.dsp_defs.specs.Block.{Frame, channel}
use Rattle.dsp_defs.specs.Kept.{Kind, kept_of_channel, kinds_by, kept_kinds, kept_numbers, Each, IsPlace, IsOfKind}
use Rattle.dsp_defs.specs.Kept.{Fits, FitsAfter, FitsChannel}
use Rattle.dsp_unit.specs.Unit.{Restores, IsNew}
use Rattle.dsp_unit.specs.Filter.{IsByChannel, FilterState, FilterStandsFor, FilterCounts, filter_at, no_filter}
use Rattle.dsp_unit.specs.Filter.{AreFilters, IsNewFilter}
use Rattle.dsp_unit.specs.Channels.{unit_of_filters, numbers_in, AreRestored}
use Rattle.dsp_unit.proofs.ChannelFrames.{factor-same, kept-places, get_or-default}
use Rattle.dsp_unit.proofs.ChannelKept.{length-pieces, pieces-apart, pieces-same, each-length, kinds-place}
use Rattle.dsp_unit.proofs.ChannelKept.{pieces-each, each-pieces, length-numbers_in, numbers-in_pieces, cut-size}
use Rattle.dsp_unit.proofs.ChannelLaws.{length-channel, filters-stand, filters-count}
use Rattle.dsp_unit.proofs.ChannelFeeds.{are-counted}
use Rattle.dsp_defs.specs.declared.format.Fmt.{Fmt}
use Rattle.dsp_defs.specs.declared.script.Block.{Block}

module _ (format : Fmt) (block : Block) (by : IsByChannel format block) (channels : ℕ) (some : 0 < channels)
    (numbers : List ℤ) where
  -- numbers for the kinds of each channel are as many for each
  cut-kinds : (P : Kind → ℤ → Type 0) (n : ℕ) → Each P (kept_kinds format channels block n) numbers →
      length numbers ≡ channels * length (kinds_by format block n)
  cut-kinds P n each =
      each-length P (kept_kinds format channels block n) numbers each
      ∙ ap length (by.kinds_are channels n)
      ∙ length-pieces (λ (_ : ℕ). kinds_by format block n) (length (kinds_by format block n)) channels (λ _ _. refl)

  each-cut : (P : Kind → ℤ → Type 0) (n : ℕ) → Each P (kept_kinds format channels block n) numbers → (c : ℕ) →
      c < channels → Each P (kinds_by format block n) (numbers_in (length numbers / channels) numbers c)
  each-cut P n each =
      let whole = cut-kinds P n each in
      let size : length numbers / channels ≡ length (kinds_by format block n) =
      cut-size (length (kinds_by format block n)) channels numbers some whole in
      each-pieces P (kinds_by format block n) (numbers_in (length numbers / channels) numbers) channels
      (λ c h. length-numbers_in (length numbers / channels) channels numbers
      (whole ∙ ap (λ k. channels * k) (sym size)) c h ∙ size)
      (subst (λ xs. Each P (flat_map (λ (_ : ℕ). kinds_by format block n) (range_with_len 0 channels)) xs)
      (numbers-in_pieces (length numbers / channels) channels numbers (whole ∙ ap (λ k. channels * k) (sym size)))
      (subst (λ ks. Each P ks numbers) (by.kinds_are channels n) each))

  -- numbers that fit a unit fit each of its channels, at one number of frames
  pub fits-channels : (n : ℕ) → FitsAfter format channels block n numbers → (c : ℕ) → c < channels →
      FitsChannel format block n (numbers_in (length numbers / channels) numbers c)
  fits-channels n fits c h = (fits.0, each-cut IsOfKind n fits.1 c h)

  pub fits-whole : Fits format channels block numbers → length numbers % channels ≡ 0
  fits-whole (n, fits) = let whole = cut-kinds IsOfKind n fits.1 in ap (λ k. k % channels) whole ∙
      mul-mod_right channels (length (kinds_by format block n))

  pub channels-fit : (n : ℕ) → length numbers ≡ channels * (length numbers / channels) →
      ((c : ℕ) → c < channels → FitsChannel format block n (numbers_in (length numbers / channels) numbers c)) →
      FitsAfter format channels block n numbers
  channels-fit n whole each = (
    (each 0 some).0,
    subst (λ ks. Each IsOfKind ks numbers) (sym (by.kinds_are channels n))
        (subst (λ xs. Each IsOfKind (flat_map (λ (_ : ℕ). kinds_by format block n) (range_with_len 0 channels)) xs)
        (sym (numbers-in_pieces (length numbers / channels) channels numbers whole))
        (pieces-each IsOfKind (kinds_by format block n) (numbers_in (length numbers / channels) numbers) channels
        (λ c h. (each c h).1))),
  )

module _ (format : Fmt) (capacity : ℕ) (olds news : List FilterState) (are : AreFilters format capacity olds)
    (numbers : List ℤ)
    (fits : Fits format (length olds) (filter_at olds 0).block numbers) (restored : AreRestored olds news numbers) where
  some : 0 < length olds
  some = (let some = are.some in omega (arith, some))

  size : ℕ
  size = length numbers / length olds

  is_block : (c : ℕ) → c < length olds → (filter_at olds c).block ≡ (filter_at olds 0).block
  is_block c h = (are.alike c no_filter h).block

  is_format : (c : ℕ) → c < length olds → (filter_at olds c).format ≡ format
  is_format c h = (are.alike c no_filter h).format ∙ are.format_is

  whole : length numbers ≡ length olds * (length numbers / length olds)
  whole =
      let counted = cut-kinds format (filter_at olds 0).block are.by_channel (length olds) some numbers IsOfKind
      fits.0 fits.1.1 in
      counted ∙ ap (λ k. length olds * k) (sym (cut-size (length (kinds_by format (filter_at olds 0).block fits.0))
      (length olds) numbers some counted))

  within : (c : ℕ) → c < length news → c < length olds
  within c h = (let size = restored.size in omega (arith, h, size))

  count-each : (n : ℕ) → ((c : ℕ) → c < length olds → Each IsPlace (kinds_by format (filter_at olds 0).block n)
      (numbers_in (length numbers / length olds) numbers c)) → All (λ f. FilterCounts f n) news
  count-each n each = λ c d h.
      let inside = within c h in
      let block = is_block c inside in
      let form = is_format c inside in
      let here : Each IsPlace (kinds_by (filter_at olds c).format (filter_at olds c).block n)
      (numbers_in (length numbers / length olds) numbers c) =
      subst (λ ks. Each IsPlace ks (numbers_in (length numbers / length olds) numbers c))
      (sym (λ i. kinds_by (form i) (block i) n)) (each c inside) in
      rw (get_or-default news c d no_filter h) ((restored.each c inside).counts n here)

  pub are-restored : AreFilters format capacity news
  are-restored =
      are-counted format capacity fits.0 olds news are restored.size
      (λ c h. ((restored.each c h).made.block, (restored.each c h).made.format, (restored.each c h).made.capacity))
      (count-each fits.0 (λ c h. kinds-place _ _ (each-cut format (filter_at olds 0).block are.by_channel
      (length olds) some numbers IsOfKind fits.0 fits.1.1 c h)))

  pub channels-restore : Restores (unit_of_filters format capacity olds) (unit_of_filters format capacity news) numbers
  channels-restore = record {
    made = record {
      block = (restored.each 0 some).made.block;
      format = refl;
      channels = restored.size;
      capacity =
          refl;
      banked = refl;
    };
    running = (restored.each 0 some).running;
    kept =
        kept-places news
        ∙ ap (λ n. flat_map (λ c. (filter_at news c).kept) (range_with_len 0 n)) restored.size
        ∙ pieces-same (λ c. (filter_at news c).kept) (numbers_in (length numbers / length olds) numbers) (length olds)
        (λ c h. (restored.each c h).kept)
        ∙ sym (numbers-in_pieces (length numbers / length olds) (length olds) numbers whole);
    stands = λ x keeps. filters-stand format capacity news are-restored x (λ c h. stands-each x keeps c (within c h));
    counts = λ n place. filters-count format capacity news are-restored n
        (count-each n (each-cut format (filter_at olds 0).block are.by_channel (length olds) some numbers IsPlace n
        place));
  }
    where
      stands-each : (x : List Frame) → numbers ≡ kept_numbers format (length olds) (filter_at olds 0).block x →
          (c : ℕ) → c < length olds → FilterStandsFor (filter_at news c) (channel c x)
      stands-each x keeps c h =
          let block = is_block c h in
          let form = is_format c h in
          (restored.each c h).stands (channel c x) (apart c h ∙
          sym (λ i. kept_of_channel (form i) (block i) (channel c x)))
        where
          cut : flat_map (numbers_in (length numbers / length olds) numbers) (range_with_len 0 (length olds)) ≡
              flat_map (λ d. kept_of_channel format (filter_at olds 0).block (channel d x))
              (range_with_len 0 (length olds))
          cut = sym (numbers-in_pieces (length numbers / length olds) (length olds) numbers whole) ∙ keeps ∙
              are.by_channel.keeps_is (length olds) x

          kept-length : (d : ℕ) → length (kept_of_channel format (filter_at olds 0).block (channel d x)) ≡ length
              (kinds_by format (filter_at olds 0).block (length x))
          kept-length d =
              each-length IsPlace (kinds_by format (filter_at olds 0).block (length (channel d x)))
              (kept_of_channel format (filter_at olds 0).block (channel d x))
              (are.by_channel.keeps_place (channel d x))
              ∙ ap (λ n. length (kinds_by format (filter_at olds 0).block n)) (length-channel d x)

          same : length numbers / length olds ≡ length (kinds_by format (filter_at olds 0).block (length x))
          same =
              factor-same (length olds) (length numbers / length olds)
              (length (kinds_by format (filter_at olds 0).block (length x))) some
              (sym whole ∙ ap length (keeps ∙ are.by_channel.keeps_is (length olds) x)
              ∙ length-pieces (λ d. kept_of_channel format (filter_at olds 0).block (channel d x))
              (length (kinds_by format (filter_at olds 0).block (length x))) (length olds) (λ d _. kept-length d))

          apart : (d : ℕ) → d < length olds → numbers_in (length numbers / length olds) numbers d ≡ kept_of_channel
              format (filter_at olds 0).block (channel d x)
          apart = pieces-apart (numbers_in (length numbers / length olds) numbers)
              (λ d. kept_of_channel format (filter_at olds 0).block (channel d x)) (length olds)
              (length numbers / length olds)
              (length-numbers_in (length numbers / length olds) (length olds) numbers whole)
              (λ d _. kept-length d ∙ sym same) cut

-- filters that have taken nothing, as a unit
pub new-unit : (format : Fmt) (capacity : ℕ) (filters : List FilterState) → AreFilters format capacity filters →
    All (IsNewFilter (filter_at filters 0).block format capacity) filters →
    IsNew (filter_at filters 0).block format (length filters) capacity (unit_of_filters format capacity filters)
new-unit format capacity filters are fresh = record {
  block = refl;
  format = refl;
  channels = refl;
  capacity = refl;
  plain = refl;
  stands = filters-stand format capacity filters are [] (λ c h. (fresh c no_filter h).stands);
  counts = filters-count format capacity filters are 0 (λ c d h. (fresh c d h).counts);
}
