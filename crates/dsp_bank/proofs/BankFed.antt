-- The filters of a bank are fed as its channels go on.
use Rattle.std.proofs.Common.{◌≡◌, ◌∙◌, sym, subst, ℕ, ◌+◌, ◌*◌, ◌/◌, ◌<◌, ◌≤◌, ℤ, false, List, length, arith}
use Rattle.std.proofs.Math.Nat.{mul-le-mul_left, mul-le-mul_right}
use Rattle.std.proofs.lemmas.List.FromFn.{length-map-range_with_len, get_or-map-range_with_len}
use Rattle.dsp_defs.specs.Cost.{live_block_cost, block_turns}
use Rattle.dsp_defs.specs.Counts.{Counts}
use Rattle.dsp_defs.specs.Formats.{lanes}
use Rattle.dsp_defs.specs.declared.format.Fmt.{Fmt}
use Rattle.dsp_defs.specs.declared.format.Fmt.TheVariants.{Q7, Q15, Q31}
use Rattle.dsp_unit.specs.Channels.{AreFed, numbers_in, samples_in}
use Rattle.dsp_unit.specs.Filter.{FilterFeeds, filter_at, no_filter, steady_filter}
use Rattle.dsp_unit.proofs.ChannelFrames.{length-samples_in}
use Rattle.dsp_unit.proofs.ChannelKept.{length-numbers_in}
use Rattle.dsp_unit.proofs.SteadyFilters.{steady-fed}
use Rattle.dsp_lanes.specs.Turns.{RisesWithin, lane_turns}
use Rattle.dsp_biquad.specs.Laws.{biquad-steady}
use Rattle.dsp_biquad.specs.Sections.{block_acts}
use Rattle.dsp_bank.specs.Bank.{BankState, bank_block, bank_filters, sections_of}
use Rattle.dsp_bank.specs.Rows.{ChannelsTake}

some-lanes : (format : Fmt) → 1 ≤ lanes format
some-lanes Q7 = omega arith
some-lanes Q15 = omega arith
some-lanes Q31 = omega arith

-- lanes take no more turns than samples
lanes-within : (L n : ℕ) → 1 ≤ L → lane_turns L n ≤ n
lanes-within L n some =
    let each : 1 * (n / L) ≤ L * (n / L) = mul-le-mul_right (n / L) some in
    omega (arith, each)

-- the filter of a channel
pub filter-of : (format : Fmt) (b : BankState) (c : ℕ) → c < b.channels →
    filter_at (bank_filters format false b) c ≡ steady_filter format (bank_block b) b.capacity
    (numbers_in (4 * sections_of format b) b.kept c) false
filter-of format b c h =
    get_or-map-range_with_len (λ i. steady_filter format (bank_block b) b.capacity
    (numbers_in (4 * sections_of format b) b.kept i) false) 0 b.channels c c no_filter h (omega arith)

pub length-filters : (format : Fmt) (b : BankState) → length (bank_filters format false b) ≡ b.channels
length-filters format b = length-map-range_with_len (λ i. steady_filter format (bank_block b) b.capacity
    (numbers_in (4 * sections_of format b) b.kept i) false) 0 b.channels

module _ (format : Fmt) (old : BankState) (kept' : List ℤ) (count : ℕ) (taken given : List ℤ) (before after : Counts)
    (some : 1 ≤ old.channels) (size : length old.kept ≡ old.channels * (4 * sections_of format old))
    (size' : length kept' ≡ old.channels * (4 * sections_of format old))
    (goes : ChannelsTake (block_acts format (bank_block old)) (4 * sections_of format old) old.channels count old.kept
    kept' taken given)
    (rises : RisesWithin before after (sections_of format old * (count * (5 * old.channels)))
    (sections_of format old * (count * (5 * lane_turns (lanes format) old.channels)))) where
  channel-fed : (c : ℕ) → c < old.channels → (start stop : Counts)
      × FilterFeeds (steady_filter format (bank_block old) old.capacity (numbers_in (4 * sections_of format old)
      old.kept c) false)
      (steady_filter format (bank_block old) old.capacity (numbers_in (4 * sections_of format old) kept' c) false)
      (samples_in old.channels count taken c) (samples_in old.channels count given c) start stop
  channel-fed c h =
      let xs = samples_in old.channels count taken c in
      let ys = samples_in old.channels count given c in
      let long = length-samples_in old.channels count taken c in
      let long' = length-samples_in old.channels count given c in
      let start : Counts = record { multiplies = 0; turns = 0 } in
      let stop : Counts = record { multiplies = length xs * (5 * sections_of format old); turns = 0 } in
      let paid : length xs * (5 * sections_of format old) ≡ 0 + length xs * (5 * sections_of format old) = omega arith
      in (
        start,
        stop,
        steady-fed format (bank_block old) (5 * sections_of format old) old.capacity
            (biquad-steady format old.post_shift old.coefficients)
            (numbers_in (4 * sections_of format old) old.kept c) (numbers_in (4 * sections_of format old) kept' c) xs
            ys start stop (long' ∙ sym long)
            (length-numbers_in (4 * sections_of format old) old.channels kept' size' c h
            ∙ sym (length-numbers_in (4 * sections_of format old) old.channels old.kept size c h))
            (goes c h) paid (λ n. omega arith),
      )

  first : filter_at (bank_filters format false old) 0 ≡ steady_filter format (bank_block old) old.capacity
      (numbers_in (4 * sections_of format old) old.kept 0) false
  first = filter-of format old 0 (omega (arith, some))

  cost-is : (n : ℕ) → live_block_cost (filter_at (bank_filters format false old) 0).format 1
      (filter_at (bank_filters format false old) 0).block n ≡ n * (5 * sections_of format old)
  cost-is n = (λ i. live_block_cost (first i).format 1 (first i).block n)
      ∙ (biquad-steady format old.post_shift old.coefficients).live_cost n

  turns-are : (n m : ℕ) → block_turns (filter_at (bank_filters format false old) 0).format 1
      (filter_at (bank_filters format false old) 0).block n (n + m) ≡ m * (5 * sections_of format old)
  turns-are n m =
      let one = (biquad-steady format old.post_shift old.coefficients).live_cost n in
      let other = (biquad-steady format old.post_shift old.coefficients).live_cost (n + m) in
      (λ i. block_turns (first i).format 1 (first i).block n (n + m)) ∙ omega (arith, one, other)

  pub bank-fed : AreFed (bank_filters format false old) (bank_filters format false (record old { kept = kept' }))
      count taken count given before after
  bank-fed = record {
    size = length-filters format (record old { kept = kept' }) ∙ sym (length-filters format old);
    each = λ c h.
        let long = length-filters format old in
        let inside : c < old.channels = omega (arith, h, long) in
        let fed = channel-fed c inside in (
          fed.0,
          fed.1,
          subst (λ k. FilterFeeds (filter_at (bank_filters format false old) c)
              (filter_at (bank_filters format false (record old { kept = kept' })) c) (samples_in k count taken c)
              (samples_in k count given c) fed.0 fed.1) (sym long)
              (subst (λ f. FilterFeeds f (filter_at (bank_filters format false (record old { kept = kept' })) c)
              (samples_in old.channels count taken c) (samples_in old.channels count given c) fed.0 fed.1)
              (sym (filter-of format old c inside))
              (subst (λ f. FilterFeeds (steady_filter format (bank_block old) old.capacity
              (numbers_in (4 * sections_of format old) old.kept c) false) f (samples_in old.channels count taken
              c) (samples_in old.channels count given c) fed.0 fed.1)
              (sym (filter-of format (record old { kept = kept' }) c inside)) fed.2)),
        );
    multiplies = λ n _.
        let one = cost-is n in
        let other = cost-is (n + count) in
        let long = length-filters format old in
        (λ i. long i * other i + before.multiplies) ∙ omega (arith, rises.multiplies_rise)
        ∙ sym (λ i. long i * one i + after.multiplies);
    turns = λ n _.
        let turns = turns-are n count in
        let long = length-filters format old in
        let less : (sections_of format old * (count * 5)) * lane_turns (lanes format) old.channels ≤
        (sections_of format old * (count * 5)) * old.channels =
        mul-le-mul_left (sections_of format old * (count * 5)) (lanes-within (lanes format) old.channels
        (some-lanes format)) in
        let is : length (bank_filters format false old) * block_turns (filter_at (bank_filters format false old)
        0).format 1 (filter_at (bank_filters format false old) 0).block n (n + count)
        ≡ old.channels * (count * (5 * sections_of format old)) =
        (λ i. long i * turns i) in
        omega (arith, rises.turns_within, less, is);
  }
