-- A filter that gives one value for each sample, has no tail, and keeps numbers of the format's width.
use Rattle.std.proofs.Common.{◌≡◌, ◌∙◌, ap, sym, subst, ℕ, ◌+◌, ◌*◌, ◌≤◌, ℤ, List, [], ◌++◌, length, Bool, false}
use Rattle.std.specs.Prelude.{All, FitsSigned}
use Rattle.std.proofs.lemmas.List.{length-replicate}
use Rattle.dsp_defs.specs.Formats.{word}
use Rattle.dsp_defs.specs.Streaming.{Continues}
use Rattle.dsp_defs.specs.Cost.{block_turns}
use Rattle.dsp_defs.specs.Counts.{Counts}
use Rattle.dsp_defs.specs.Kept.{kept_of_channel, in_words, InWord, Each, IsPlace, IsOfKind}
use Rattle.dsp_defs.specs.Kept.{FitsChannel}
use Rattle.dsp_unit.specs.Filter.{FilterState, FilterFeeds, FilterRestores, IsNewFilter}
use Rattle.dsp_unit.specs.Filter.{IsSampleBlock, IsSteady, of_channel, steady_filter}
use Rattle.dsp_unit.proofs.ChannelKept.{length-words, words-fit, fit-words}
use Rattle.dsp_unit.proofs.SteadyFilters.{steady-new, steady-fed, steady-restored, steady-fits}
use Rattle.dsp_unit.proofs.SteadyFilters.{fits-steady}
use Rattle.dsp_defs.specs.declared.format.Fmt.{Fmt}
use Rattle.dsp_defs.specs.declared.script.Block.{Block}
use Rattle.dsp_defs.proofs.KeptLaws.{in_words-place}

abbrev sample_filter : Fmt → Block → ℕ → List ℤ → Bool → FilterState
sample_filter = steady_filter

module _ (format : Fmt) (block : Block) (count price capacity : ℕ) (is : IsSampleBlock format block count price) where
  steady : IsSteady format block price
  steady = record {
    by_channel = is.by_channel;
    taken = is.taken;
    whole_is_live = is.whole_is_live;
    most_same = is.most_same;
    live_same = is.live_same;
    whole_same = is.whole_same;
    kinds_same = λ n. is.kinds_are n ∙ sym (is.kinds_are 0);
    placed = λ numbers size.
        let long : length numbers ≡ count = size ∙ ap length (is.kinds_are 0) ∙
        length-replicate count (InWord (word format)) in
        subst (λ ks. Each IsPlace ks numbers) (sym (is.kinds_are 0)) (in_words-place (word format) count numbers long);
    live_cost = is.live_cost;
  }

  pub sample-new : (kept : List ℤ) → kept ≡ kept_of_channel format block [] → length kept ≡ count →
      IsNewFilter block format capacity (sample_filter format block capacity kept false)
  sample-new kept keeps size = steady-new format block price capacity steady kept keeps

  pub sample-fed :
      (old new taken given : List ℤ) (before after : Counts) → length given ≡ length taken → length new ≡ length old →
      ((x : List ℤ) → old ≡ kept_of_channel format block x → Continues (of_channel format block) x taken given) →
      ((x : List ℤ) → old ≡ kept_of_channel format block x → new ≡ kept_of_channel format block (x ++ taken)) →
      after.multiplies ≡ before.multiplies + length taken * price →
      ((n : ℕ) → after.turns ≤ before.turns + block_turns format 1 block n (n + length taken)) →
      FilterFeeds (sample_filter format block capacity old false) (sample_filter format block capacity new false)
      taken given before after
  sample-fed old new taken given before after size kept values stands paid turns =
      steady-fed format block price capacity steady old new taken given before after size kept
      (record { values = values; stands = stands }) paid turns

  pub sample-restored : (kept numbers : List ℤ) (ended : Bool) →
      FilterRestores (sample_filter format block capacity kept ended)
      (sample_filter format block capacity numbers false) numbers
  sample-restored kept numbers ended = steady-restored format block price capacity steady kept numbers ended

  -- numbers fit where they are as many, each in the format
  pub sample-fits : (n : ℕ) (numbers : List ℤ) → length numbers ≡ count → All (FitsSigned (word format)) numbers →
      FitsChannel format block n numbers
  sample-fits n numbers size all = steady-fits format block price capacity steady n numbers
      (subst (λ ks. Each IsOfKind ks numbers) (sym (is.kinds_are 0)) (words-fit (word format) count numbers size all))

  pub fits-sample : (n : ℕ) (numbers : List ℤ) → FitsChannel format block n numbers → (length numbers ≡ count) ×
      All (FitsSigned (word format)) numbers
  fits-sample n numbers fits =
      let each : Each IsOfKind (in_words (word format) count) numbers =
      subst (λ ks. Each IsOfKind ks numbers) (is.kinds_are 0)
      (fits-steady format block price capacity steady n numbers fits) in
      (length-words IsOfKind (word format) count numbers each, fit-words (word format) count numbers each)
