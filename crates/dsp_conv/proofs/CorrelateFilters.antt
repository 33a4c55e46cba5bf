-- A correlation as the filter of a channel.
use Rattle.std.proofs.Common.{Bool, map, ◌≡◌, ◌∙◌, ap, refl, sym, subst, ℕ, ◌+◌, ◌-◌, ◌*◌, ◌≤◌, min, ℤ, List, []}
use Rattle.std.proofs.Common.{◌++◌, length, drop, true, false, arith, length-append}
use Rattle.std.proofs.lemmas.List.{length-map, nil_from_length}
use Rattle.dsp_defs.specs.declared.format.Fmt.{Fmt}
use Rattle.dsp_defs.specs.Formats.{word}
use Rattle.dsp_defs.specs.Counts.{Counts}
use Rattle.dsp_defs.specs.Sums.{correlate}
use Rattle.dsp_defs.specs.Shape.{correlation_length}
use Rattle.dsp_defs.specs.Cost.{correlation_products}
use Rattle.dsp_defs.specs.declared.limits.TheConstants.{MAX_GATHERED}
use Rattle.dsp_defs.specs.declared.script.Block.{Block}
use Rattle.dsp_defs.specs.declared.script.Block.TheVariants as Blocks
use Rattle.dsp_defs.specs.Kept.{Each, IsPlace, IsOfKind, FitsChannel, in_words}
use Rattle.dsp_unit.specs.Filter.{FilterStandsFor, FilterCounts, FilterTook, FilterFeeds, FilterFinishes}
use Rattle.dsp_unit.specs.Filter.{FilterRestores, IsNewFilter, filter_made}
use Rattle.dsp_unit.proofs.ChannelKept.{length-words}
use Rattle.dsp_filter.specs.Making.{AreTaps}
use Rattle.dsp_conv.specs.ByChannel.{IsCorrelateIn, taps_of}
use Rattle.dsp_conv.specs.CorrelateState.{CorrelateState, IsGathered, correlate_channel, new_correlate, tail_of}
use Rattle.dsp_conv.specs.CorrelateState.{made_of}
use Rattle.dsp_conv.proofs.Correlations.{length-dropped}
use Rattle.dsp_defs.proofs.KeptLaws.{in_words-place}

-- no correlation holds more samples than it can, gave more values than there are, or any before the end
abbrev IsCorrelation : CorrelateState → Type 0
IsCorrelation c = IsGathered (length c.taps) (length c.samples) c.given c.block c.ended

pub is-correlation :
    {X : Type 0} → (number : X → ℤ) (taps : List X) (samples : List ℤ) {count given block : ℕ} {ended : Bool}
    {c : CorrelateState} → IsGathered count (length samples) given block ended → count ≡ length taps →
    record { taps = map number taps; samples = samples; given = given; block = block; ended = ended } ≡ c →
    IsCorrelation c
is-correlation number taps samples {given = given} {block = block} {ended = ended} is counted view_is =
    subst IsCorrelation view_is (subst (λ n. IsGathered n (length samples) given block ended)
    (counted ∙ sym (length-map taps number)) is)

-- the values that are left
tail-long : (format : Fmt) (c : CorrelateState) → c.given ≤ correlation_length (length c.samples) (length c.taps) →
    length (tail_of format c) ≡ correlation_length (length c.samples) (length c.taps) - c.given
tail-long format c within = length-dropped (correlation_length (length c.samples) (length c.taps)) c.given _ within

module _ (format : Fmt) where
  -- ---- what it stands for and counts

  stands-for : (c : CorrelateState) (x : List ℤ) → c.ended ≡ false → c.given ≡ 0 → c.samples ≡ x →
      FilterStandsFor (correlate_channel format c) x
  stands-for c x running none is = record {
    running = running;
    keeps = is;
    tail_follows = sym (λ i. drop (none i) (correlate format c.taps (is i)));
  }

  -- it holds as many samples as it counts
  pub samples-counted : (c : CorrelateState) (n : ℕ) → FilterCounts (correlate_channel format c) n →
      length c.samples ≡ n
  samples-counted c n counts = length-words IsPlace (word format) n c.samples counts.place

  took-samples : (c : CorrelateState) (n : ℕ) → FilterTook (correlate_channel format c) n → length c.samples ≡ n
  took-samples c n took = length-words IsPlace (word format) n c.samples took.place

  counts-for : (c : CorrelateState) (n : ℕ) → c.ended ≡ false → c.given ≡ 0 → length c.samples ≡ n →
      FilterCounts (correlate_channel format c) n
  counts-for c n running none is = record {
    running = running;
    place = in_words-place (word format) n c.samples is;
    tail_values =
        let long = tail-long format c (omega (arith, none)) in
        let whole : correlation_length (length c.samples) (length c.taps) ≡ correlation_length n (length c.taps) =
        ap (λ k. correlation_length k (length c.taps)) is in
        let left : correlation_length n (length c.taps) ≡ 0 + length (tail_of format c) =
        omega (arith, long, whole, none) in
        left;
  }

  -- the products that it has made
  made-is : (c : CorrelateState) (n : ℕ) → c.given ≤ correlation_length (length c.samples) (length c.taps) →
      length c.samples ≡ n → filter_made (correlate_channel format c) n ≡ made_of c
  made-is c n within is =
      subst (λ k. filter_made (correlate_channel format c) k ≡ made_of c) is
      (let left : correlation_length (length c.samples) (length c.taps) - length (tail_of format c) ≡ c.given =
      omega (arith, tail-long format c within, within) in
      ap (λ k. 1 * correlation_products (length c.samples) (length c.taps) k) left ∙ omega arith)

  -- a new one
  pub new-channel : (taps : List ℤ) (block : ℕ) → IsNewFilter (Blocks.Correlate taps) format block
      (correlate_channel format (record (new_correlate taps) { block = block }))
  new-channel taps block =
      let c : CorrelateState = record (new_correlate taps) { block = block } in
      record {
        block = refl;
        format = refl;
        capacity = refl;
        stands = stands-for c [] refl refl refl;
        counts =
            counts-for c 0 refl refl refl;
      }

  module _ (old new : CorrelateState) (is : IsCorrelation old) where
    -- samples come
    pub channel-fed : (taken : List ℤ) (counts : Counts) → old.ended ≡ false →
        new ≡ record old { samples = old.samples ++ taken } →
        FilterFeeds (correlate_channel format old) (correlate_channel format new) taken [] counts counts
    channel-fed taken counts running same =
        let none = is.running running in
        let fed : CorrelateState = record old { samples = old.samples ++ taken } in
        subst (λ (c : CorrelateState). FilterFeeds (correlate_channel format old) (correlate_channel format c) taken
        [] counts counts) (sym same)
        record {
          made = record { block = refl; format = refl; capacity = refl };
          at_most = omega arith;
          values = λ x _. refl;
          stands = λ x stood. stands-for fed (x ++ taken) running none (ap (λ l. l ++ taken) stood.keeps);
          count = λ n _. refl;
          counts = λ n counts. counts-for fed (n + length taken) running none
              (length-append old.samples taken ∙ ap (λ k. k + length taken) (samples-counted old n counts));
          multiplies = λ n _. refl;
          turns = λ n _. omega arith;
        }

    -- it keeps other numbers
    pub channel-restored : (numbers : List ℤ) → old.ended ≡ false → new ≡ record old { samples = numbers } →
        FilterRestores (correlate_channel format old) (correlate_channel format new) numbers
    channel-restored numbers running same =
        let none = is.running running in
        let kept : CorrelateState = record old { samples = numbers } in
        subst (λ (c : CorrelateState). FilterRestores (correlate_channel format old) (correlate_channel format c)
        numbers) (sym same)
        record {
          made = record { block = refl; format = refl; capacity = refl };
          running = running;
          kept = refl;
          stands = λ x keeps. stands-for kept x running none keeps;
          counts = λ n place. counts-for kept n running none (length-words IsPlace (word format) n numbers place);
        }

    -- so many values of the tail are given
    module _ (result : ℕ) (same : new ≡ record old { given = old.given + result; ended = true })
        (count : result ≡ min (length (tail_of format old)) old.block) where
      taps_same : new.taps ≡ old.taps
      taps_same = ap (λ (c : CorrelateState). c.taps) same

      samples_same : new.samples ≡ old.samples
      samples_same = ap (λ (c : CorrelateState). c.samples) same

      within : new.given ≤ correlation_length (length new.samples) (length new.taps)
      within = subst (λ (c : CorrelateState). c.given ≤ correlation_length (length c.samples) (length c.taps))
          (sym same) (omega (arith, count, tail-long format old is.within, is.within))

      made-old : (n : ℕ) → FilterTook (correlate_channel format old) n →
          filter_made (correlate_channel format old) n ≡ made_of old
      made-old n took = made-is old n is.within (took-samples old n took)

      made-new : (n : ℕ) → FilterTook (correlate_channel format old) n →
          filter_made (correlate_channel format new) n ≡ made_of new
      made-new n took = made-is new n within (ap length samples_same ∙ took-samples old n took)

      pub channel-finished :
          (given : List ℤ) (before after : Counts) → length given ≡ result →
          tail_of format old ≡ given ++ tail_of format new →
          made_of old + after.multiplies ≡ made_of new + before.multiplies →
          made_of old + after.turns ≤ made_of new + before.turns →
          FilterFinishes (correlate_channel format old) (correlate_channel format new) given before after
      channel-finished given before after long tail multiplies turns = record {
        made = record {
          block = ap Blocks.Correlate taps_same;
          format = refl;
          capacity =
              ap (λ (c : CorrelateState). c.block) same;
        };
        ended = ap (λ (c : CorrelateState). c.ended) same;
        tail = tail;
        count = long ∙ count;
        spent = λ none. nil_from_length (tail_of format old) (let zero : length given ≡ 0 = ap length none in
            omega (arith, zero, long, count, is.room));
        took = λ n took. record {
          place = in_words-place (word format) n new.samples (ap length samples_same ∙ took-samples old n took);
          tail_within =
              let split = ap length tail ∙ length-append given (tail_of format new) in
              let bound : length (tail_of format old) ≤ correlation_length n (length old.taps) = took.tail_within in
              subst (λ t. length (tail_of format new) ≤ correlation_length n (length t)) (sym taps_same)
              (omega (arith, bound, split));
        };
        multiplies = λ n took. omega (arith, made-old n took, made-new n took, multiplies);
        turns = λ n took. omega (arith, made-old n took, made-new n took, turns);
      }

-- the block of a correlation
pub block-is : (format : Fmt) (b : Block) → IsCorrelateIn format b → (Blocks.Correlate (taps_of b) ≡ b) ×
    AreTaps format (taps_of b)
block-is format (Blocks.Correlate taps) is = (refl, is)
block-is format b is = absurd is

-- ---- kept numbers

-- numbers that fit at n are n of them, and the correlation's test passes them
pub fits-count : (format : Fmt) (taps numbers : List ℤ) (n : ℕ) →
    FitsChannel format (Blocks.Correlate taps) n numbers → n ≡ length numbers
fits-count format taps numbers n fits = sym (length-words IsOfKind (word format) n numbers fits.1)

pub channel-fits : (format : Fmt) (taps numbers : List ℤ) (n : ℕ) →
    FitsChannel format (Blocks.Correlate taps) n numbers → (length numbers ≤ MAX_GATHERED) ×
    Each IsOfKind (in_words (word format) (length numbers)) numbers
channel-fits format taps numbers n fits =
    subst (λ k. (k ≤ MAX_GATHERED) × Each IsOfKind (in_words (word format) k) numbers)
    (fits-count format taps numbers n fits) fits
