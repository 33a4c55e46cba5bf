-- The filter of one channel, as a unit sees it.
use Rattle.std.proofs.Common.{◌≡◌, ◌∙◌, ap, sym, subst, ℕ, ◌+◌, ◌-◌, ◌*◌, ◌≤◌, ℤ, pos, false, List, [], ◌++◌, length}
use Rattle.std.proofs.Common.{replicate, arith}
use Rattle.std.specs.Prelude.{All, FitsSigned}
use Rattle.std.proofs.lemmas.List.{append-nil, length-replicate}
use Rattle.dsp_defs.specs.declared.format.Fmt.{Fmt}
use Rattle.dsp_defs.specs.declared.script.Block.{Block}
use Rattle.dsp_defs.specs.Formats.{word, lanes}
use Rattle.dsp_defs.specs.Streaming.{Continues}
use Rattle.dsp_defs.specs.Counts.{Counts}
use Rattle.dsp_defs.specs.Cost as cost
use Rattle.dsp_defs.specs.Kept.{kept_of_channel, FitsChannel}
use Rattle.dsp_unit.specs.Filter.{FilterFeeds, FilterRestores, IsNewFilter, of_channel, steady_filter}
use Rattle.dsp_unit.proofs.SampleFilters.{sample-new, sample-fed, sample-restored, sample-fits, fits-sample}
use Rattle.dsp_lanes.specs.Turns.{lane_turns}
use Rattle.dsp_fir.specs.WindowState.{WindowState, StandsFor, IsWindowBlock, channel_state, past_count, tap_count}
use Rattle.dsp_window.specs.Rolling.{Rolling, last_samples}
use Rattle.dsp_window.proofs.Pushed.{new-past}

-- a new filter, over a window of zeros
pub new-channel :
    (format : Fmt) (block : Block) (capacity past : ℕ) (w : Rolling) → IsWindowBlock format block →
    past ≡ past_count block → w ≡ record { past = past; room = capacity; samples = replicate past (pos 0) } →
    IsNewFilter block format capacity (steady_filter format block w.room (last_samples w.past w.samples) false)
new-channel format block capacity past w is depth made =
    let count = past_count block in
    let zeros = replicate count (pos 0) in
    let kept = sym (new-past w past count capacity made depth) in
    let room = sym (ap (λ (w : Rolling). w.room) made) in
    subst (IsNewFilter block format capacity) (λ i. steady_filter format block (room i) (kept i) false)
    (sample-new format block count (tap_count block) capacity is.samples zeros (sym (is.keeps [] ∙ append-nil zeros))
    (length-replicate count (pos 0)))

module _ (format : Fmt) (old new : WindowState) (is : IsWindowBlock format old.block) where
  pub channel-fed :
      (L : ℕ) (taken given : List ℤ) (before after : Counts) → L ≡ lanes format → old.ended ≡ false →
      new ≡ record old { past = new.past } → length new.past ≡ length old.past → length given ≡ length taken →
      ((x : List ℤ) → StandsFor format old x → Continues (of_channel format old.block) x taken given) →
      ((x : List ℤ) → StandsFor format old x → StandsFor format new (x ++ taken)) →
      after.multiplies ≡ before.multiplies + length taken * tap_count old.block →
      after.turns ≤ before.turns + tap_count old.block * lane_turns L (length taken) →
      FilterFeeds (channel_state format old) (channel_state format new) taken given before after
  channel-fed L taken given before after lanes_are running same kept size values stands paid within =
      subst (λ (s : WindowState). FilterFeeds (channel_state format old) (channel_state format s) taken given before
      after) (sym same)
      (subst (λ e. FilterFeeds (steady_filter format old.block old.capacity old.past e)
      (steady_filter format old.block old.capacity new.past e) taken given before after) (sym running)
      (sample-fed format old.block (past_count old.block) (tap_count old.block) old.capacity is.samples old.past
      new.past taken given before after size kept values
      (λ x stood. stands x stood ∙ ap (λ (s : WindowState). kept_of_channel format s.block (x ++ taken)) same) paid
      (λ n. let bound = is.turns n (n + length taken) in
      let long : n + length taken - n ≡ length taken = omega arith in
      let equal : tap_count old.block * lane_turns L (length taken) ≡ tap_count old.block * cost.lane_turns format
      (n + length taken - n) = (λ i. tap_count old.block * lane_turns (lanes_are i) (sym long i)) in
      omega (arith, within, bound, equal))))

  pub channel-restored : (numbers : List ℤ) → old.ended ≡ false → new ≡ record old { past = numbers } →
      FilterRestores (channel_state format old) (channel_state format new) numbers
  channel-restored numbers running made =
      subst (λ s. FilterRestores (channel_state format old) s numbers)
      (sym (ap (channel_state format) made ∙ (λ i. steady_filter format old.block old.capacity numbers
      (running i))))
      (sample-restored format old.block (past_count old.block) (tap_count old.block) old.capacity is.samples old.past
      numbers old.ended)

module _ (format : Fmt) (block : Block) (is : IsWindowBlock format block) (n : ℕ) (numbers : List ℤ) where
  pub channel-fits : length numbers ≡ past_count block → All (FitsSigned (word format)) numbers →
      FitsChannel format block n numbers
  channel-fits = sample-fits format block (past_count block) (tap_count block) 0 is.samples n numbers

  pub fits-channel : FitsChannel format block n numbers → (length numbers ≡ past_count block) ×
      All (FitsSigned (word format)) numbers
  fits-channel = fits-sample format block (past_count block) (tap_count block) 0 is.samples n numbers
