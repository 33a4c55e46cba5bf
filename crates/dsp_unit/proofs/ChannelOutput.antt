-- What filters write into a slice, frame by frame, is the output of their unit.
use Rattle.std.proofs.Common.{◌≡◌, ◌∙◌, ap, refl, sym, subst, ℕ, ◌+◌, ◌*◌, ◌/◌, ◌%◌, ◌<◌, ◌≤◌, ℤ, pos, List, length}
use Rattle.std.proofs.Common.{take, arith, false, length-take}
use Rattle.std.specs.Prelude.{FitsSigned}
use Rattle.std.proofs.lemmas.List.{get_or-take}
use Rattle.std.proofs.lemmas.Nat.{mul-add-lt}
use Rattle.std.proofs.Math.Nat.{div-add-mod, mul-div_cancel, lt_of_mul-lt-mul_right}
use Rattle.dsp_defs.specs.Formats.{word}
use Rattle.dsp_defs.specs.Signal.{sample}
use Rattle.dsp_defs.specs.Block.{channels_after}
use Rattle.dsp_defs.specs.Counts.{Counts}
use Rattle.dsp_unit.specs.Unit.{Feeds, Finishes, IsSignal, IsOutput, frames_in, most_frames, room_of}
use Rattle.dsp_unit.specs.Filter.{FilterState, FilterFeeds, FilterFinishes, AreFilters, filter_at, filter_room}
use Rattle.dsp_unit.specs.Filter.{no_filter}
use Rattle.dsp_unit.specs.Channels.{unit_of_filters, samples_in, AreFed, AreFinished}
use Rattle.dsp_defs.proofs.Signal.{values_cong}
use Rattle.dsp_defs.proofs.FrameLemmas.{length-frames_in}
use Rattle.dsp_unit.proofs.ChannelFrames.{get_or-default}
use Rattle.dsp_unit.proofs.ChannelFeeds.{channels-feed}
use Rattle.dsp_unit.proofs.ChannelTails.{channels-finish}
use Rattle.dsp_defs.specs.declared.format.Fmt.{Fmt}

pub whole-frames : (format : Fmt) (channels : ℕ) (samples : List ℤ) → IsSignal format channels samples →
    length samples ≡ length samples / channels * channels
whole-frames format channels samples signal = signal.whole_frames ∙
    ap (λ n. n * channels) (length-frames_in channels samples)

same-taken : (channels count : ℕ) (samples : List ℤ) (c : ℕ) → c < channels →
    samples_in channels count samples c ≡ samples_in channels count (take (count * channels) samples) c
same-taken channels count samples c inside =
    values_cong count (λ n. sample samples (n * channels + c))
    (λ n. sample (take (count * channels) samples) (n * channels + c))
    (λ n h.
    let bound = mul-add-lt n channels c count h inside in
    let within : n * channels + c < count * channels = omega (arith, bound) in
    sym (get_or-take (count * channels) samples (n * channels + c) (pos 0) within))

module _ (format : Fmt) (capacity : ℕ) (filters : List FilterState) (are : AreFilters format capacity filters)
    (many : ℕ) (out : List ℤ) (room : many * length filters ≤ length out) where
  some : 0 < length filters
  some = (let some = are.some in omega (arith, some))

  same_channels : channels_after (length filters) (filter_at filters 0).block ≡ length filters
  same_channels = are.by_channel.channels_same (length filters)

  given-size : length (take (many * length filters) out) ≡ many * length filters
  given-size = omega (arith, length-take (many * length filters) out, room)

  given-frames : length (take (many * length filters) out) / length filters ≡ many
  given-frames = ap (λ n. n / length filters) given-size ∙ mul-div_cancel many some

  -- samples that are in the format at each channel of each frame
  pub unit-output : many ≤ filter_room (filter_at filters 0) →
      ((n c : ℕ) → n < many → c < length filters → FitsSigned (word format) (sample out (n * length filters + c))) →
      IsOutput (unit_of_filters format capacity filters) (most_frames (filter_at filters 0).block capacity)
      (take (many * length filters) out)
  unit-output fits each = record {
    signal = rw (are.by_channel.format_same, same_channels) (record {
      whole_frames = given-size ∙ ap (λ n. n * length filters) (sym frames);
      in_format = λ k d h.
          let place : length filters * (k / length filters) + k % length filters ≡ k = div-add-mod k (length filters) in
          let at_place : k / length filters * length filters + k % length filters ≡ k = omega (arith, place) in
          let inside : k % length filters < length filters = omega (arith, some) in
          let below : k < many * length filters = omega (arith, h, given-size) in
          let frame : k / length filters < many = less many (length filters) (k / length filters) (k % length filters)
          (omega (arith, at_place, below)) in
          let here : FitsSigned (word format) (sample out k) =
          rw at_place at (each (k / length filters) (k % length filters) frame inside) in
          rw (
            get_or-default (take (many * length filters) out) k d (pos 0) h,
            get_or-take (many * length filters) out k (pos 0) below,
          ) here;
    });
    at_most = rw (same_channels, frames) most;
  }
    where
      frames : length (frames_in (length filters) (take (many * length filters) out)) ≡ many
      frames = length-frames_in (length filters) (take (many * length filters) out) ∙ given-frames

      most : many ≤ most_frames (filter_at filters 0).block capacity
      most = subst (λ n. many ≤ most_frames (filter_at filters 0).block n) (are.alike 0 no_filter some).capacity fits

      less : (m c a b : ℕ) → a * c + b < m * c → a < m
      less m c a b h = lt_of_mul-lt-mul_right c (let near : a * c < m * c = omega (arith, h) in near)

  pub unit-fed : (news : List FilterState) (frames : List ℤ) (before after : Counts) →
      (filter_at filters 0).ended ≡ false → AreFed filters news (length frames / length filters) frames many out before
      after →
      Feeds (unit_of_filters format capacity filters) (unit_of_filters format capacity news)
      (frames_in (length filters) frames) (frames_in (channels_after (length filters) (filter_at filters 0).block)
      (take (many * length filters) out)) before after
  unit-fed news frames before after running fed =
      subst (λ k. Feeds (unit_of_filters format capacity filters) (unit_of_filters format capacity news)
      (frames_in (length filters) frames) (frames_in k (take (many * length filters) out)) before after)
      (sym same_channels)
      (channels-feed format capacity filters news are running (length frames / length filters) many frames
      (take (many * length filters) out) before after taken refl given-frames)
    where
      taken : AreFed filters news (length frames / length filters) frames many (take (many * length filters) out)
          before after
      taken = record {
        size = fed.size;
        each = λ c h.
            let (start, stop, feeds) = fed.each c h in (
              start,
              stop,
              subst (λ ys. FilterFeeds (filter_at filters c) (filter_at news c)
                  (samples_in (length filters) (length frames / length filters) frames c) ys start stop)
                  (same-taken (length filters) many out c h) feeds,
            );
        multiplies = fed.multiplies;
        turns = fed.turns;
      }

  pub unit-finished : (news : List FilterState) (before after : Counts) →
      AreFinished filters news many out before after →
      Finishes (unit_of_filters format capacity filters) (unit_of_filters format capacity news)
      (frames_in (channels_after (length filters) (filter_at filters 0).block) (take (many * length filters) out))
      before after
  unit-finished news before after finished =
      subst (λ k. Finishes (unit_of_filters format capacity filters) (unit_of_filters format capacity news)
      (frames_in k (take (many * length filters) out)) before after) (sym same_channels)
      (channels-finish format capacity filters news are many (take (many * length filters) out) before after taken
      given-frames)
    where
      taken : AreFinished filters news many (take (many * length filters) out) before after
      taken = record {
        size = finished.size;
        each = λ c h.
            let (start, stop, finishes) = finished.each c h in (
              start,
              stop,
              subst (λ ys. FilterFinishes (filter_at filters c) (filter_at news c) ys start stop)
                  (same-taken (length filters) many out c h) finishes,
            );
        multiplies = finished.multiplies;
        turns = finished.turns;
      }

-- the output has room for so many frames
pub room-for : (format : Fmt) (capacity : ℕ) (filters : List FilterState) → AreFilters format capacity filters →
    (many size : ℕ) → many ≤ filter_room (filter_at filters 0) →
    room_of (unit_of_filters format capacity filters) ≤ size → many * length filters ≤ size
room-for format capacity filters are many size fits room =
    let some : 0 < length filters = (let some = are.some in omega (arith, some)) in
    let same : channels_after (length filters) (filter_at filters 0).block ≡ length filters =
    are.by_channel.channels_same (length filters) in
    let most : filter_room (filter_at filters 0) ≡ most_frames (filter_at filters 0).block capacity =
    ap (most_frames (filter_at filters 0).block) (are.alike 0 no_filter some).capacity in
    let room' : most_frames (filter_at filters 0).block capacity * length filters ≤ size = rw same at room in
    let grown : many * length filters ≤ filter_room (filter_at filters 0) * length filters = grind (arith, fits) in
    let equal = ap (λ k. k * length filters) most in
    omega (arith, room', grown, equal)
