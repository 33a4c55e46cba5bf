-- The interpolator of one channel, as a unit sees it.
use Rattle.std.proofs.Common.{◌≡◌, ◌∙◌, ap, ap₂, refl, sym, ℕ, ◌+◌, ◌-◌, ◌*◌, ◌≤◌, ℤ, pos, List, [], ◌++◌, length}
use Rattle.std.proofs.Common.{replicate, false, arith}
use Rattle.std.specs.Prelude.{All, FitsSigned}
use Rattle.std.proofs.lemmas.List.{append-nil, length-replicate}
use Rattle.std.proofs.lemmas.Nat.{mul-le}
use Rattle.dsp_defs.specs.declared.format.Fmt.{Fmt}
use Rattle.dsp_defs.specs.declared.script.Block.TheVariants as Block
use Rattle.dsp_defs.specs.Formats.{word, lanes}
use Rattle.dsp_defs.specs.Counts.{Counts}
use Rattle.dsp_defs.specs.Streaming.{Continues}
use Rattle.dsp_defs.specs.Sums.{interpolate}
use Rattle.dsp_defs.specs.Cost as cost
use Rattle.dsp_defs.specs.Kept.{FitsChannel}
use Rattle.dsp_unit.specs.Filter.{FilterStandsFor, FilterCounts, FilterFeeds, IsNewFilter}
use Rattle.dsp_unit.proofs.ChannelKept.{words-fit, length-words, fit-words}
use Rattle.dsp_lanes.specs.Turns.{lane_turns}
use Rattle.dsp_window.specs.Rolling.{Rolling, last_samples}
use Rattle.dsp_window.proofs.Rolls.{length-last_samples}
use Rattle.dsp_rate.specs.InterpolateState.{InterpolateState, IsPhased, StandsFor, interpolate_channel}
use Rattle.dsp_rate.specs.InterpolateState.{new_interpolate, past_length, unsorted}
use Rattle.dsp_rate.proofs.InterpolateLemmas.{unsorted-long}
use Rattle.dsp_rate.proofs.ChannelLemmas.{no-tail}
use Rattle.dsp_defs.proofs.KeptLaws.{in_words-place}

-- ---- every interpolator

-- it keeps as many samples as it was made for
abbrev pub KeepsEnough : InterpolateState → Type 0
KeepsEnough f = length f.past ≡ past_length f.factor (length f.taps)

pub phased-keeps : (factor : ℕ) (phases : List ℤ) (window : Rolling) → IsPhased factor phases window →
    length (last_samples window.past window.samples) ≡ past_length factor (length (unsorted factor phases))
phased-keeps factor phases window is = length-last_samples window.past window.samples is.shown ∙ is.past ∙
    ap (past_length factor) (sym (unsorted-long factor phases))

-- ---- what it stands for and counts

stands-channel : (format : Fmt) (f : InterpolateState) (x : List ℤ) → f.ended ≡ false → StandsFor f x →
    FilterStandsFor (interpolate_channel format f) x
stands-channel format f x running stands = record {
  running = running;
  keeps = stands;
  tail_follows = sym (append-nil (interpolate format f.factor f.taps x));
}

counts-channel : (format : Fmt) (f : InterpolateState) (n : ℕ) → f.ended ≡ false →
    length f.past ≡ past_length f.factor (length f.taps) → FilterCounts (interpolate_channel format f) n
counts-channel format f n running long = record {
  running = running;
  place = in_words-place (word format) _ f.past long;
  tail_values = no-tail _ _ refl;
}

-- ---- a call

-- the room of a unit is enough for each block
pub room-enough : (n block factor room : ℕ) → n ≤ block → block * factor ≤ room → n * factor ≤ room
room-enough n block factor room within enough = let more : n * factor ≤ block * factor =
    mul-le n factor block factor within (omega arith) in omega (arith, more, enough)

more-given : (n m factor given : ℕ) → given ≡ m * factor → (n + m) * factor ≡ n * factor + given
more-given n m factor given is = omega (arith, is)

one-channel : (n m taps before after : ℕ) → after ≡ before + m * taps →
    1 * (n + m) * taps + before ≡ 1 * n * taps + after
one-channel n m taps before after made = omega (arith, made)

turns-bound : (format : Fmt) (L n m taps before after : ℕ) → L ≡ lanes format →
    after ≤ before + taps * lane_turns L m → after ≤ before + 1 * taps * cost.lane_turns format (n + m - n)
turns-bound format L n m taps before after same within =
    let long : m ≡ n + m - n = omega arith in
    let equal : lane_turns L m ≡ cost.lane_turns format (n + m - n) = (λ i. lane_turns (same i) (long i)) in
    let product : taps * lane_turns L m ≡ taps * cost.lane_turns format (n + m - n) = ap (λ t. taps * t) equal in
    omega (arith, within, product)

module _ (format : Fmt) (old new : InterpolateState) where
  -- what a call does that takes the samples `taken`
  pub interpolate-fed :
      (L m : ℕ) (taken given : List ℤ) (before after : Counts) → L ≡ lanes format → old.ended ≡ false →
      length old.past ≡ past_length old.factor (length old.taps) →
      new ≡ record old { past = new.past } → length new.past ≡ length old.past → length taken ≡ m →
      length given ≡ m * old.factor →
      ((x : List ℤ) → StandsFor old x → Continues (interpolate format old.factor old.taps) x taken given) →
      ((x : List ℤ) → StandsFor old x → StandsFor new (x ++ taken)) →
      after.multiplies ≡ before.multiplies + m * length old.taps →
      after.turns ≤ before.turns + length old.taps * lane_turns L m →
      FilterFeeds (interpolate_channel format old) (interpolate_channel format new) taken given before after
  interpolate-fed L m taken given before after is_lanes running long same kept is_taken is_given values stands paid
      within =
      let factor : new.factor ≡ old.factor = ap (λ (f : InterpolateState). f.factor) same in
      let taps : new.taps ≡ old.taps = ap (λ (f : InterpolateState). f.taps) same in
      let ended : new.ended ≡ false = ap (λ (f : InterpolateState). f.ended) same ∙ running in
      let new_long : length new.past ≡ past_length new.factor (length new.taps) = kept ∙ long ∙
      ap₂ (λ f t. past_length f (length t)) (sym factor) (sym taps) in
      record {
        made = record {
          block = ap₂ (λ f t. Block.Interpolate f t) factor taps;
          format = refl;
          capacity =
              ap (λ (f : InterpolateState). f.block) same;
        };
        at_most = rw is_taken (omega (arith, is_given));
        values = λ x stood. values x stood.keeps;
        stands = λ x stood. stands-channel format new (x ++ taken) ended (stands x stood.keeps);
        count = λ n _. rw is_taken (more-given n m old.factor (length given) is_given);
        counts = λ n _. counts-channel format new (n + length taken) ended new_long;
        multiplies = λ n _. rw is_taken (one-channel n m (length old.taps) before.multiplies after.multiplies paid);
        turns = λ n _. rw is_taken (turns-bound format L n m (length old.taps) before.turns after.turns is_lanes
            within);
      }

-- ---- kept numbers

pub interpolate-fits : (format : Fmt) (factor : ℕ) (taps : List ℤ) (n : ℕ) (numbers : List ℤ) →
    length numbers ≡ past_length factor (length taps) → All (FitsSigned (word format)) numbers →
    FitsChannel format (Block.Interpolate factor taps) n numbers
interpolate-fits format factor taps n numbers size all =
    (tt, words-fit (word format) (past_length factor (length taps)) numbers size all)

pub fits-interpolate : (format : Fmt) (factor : ℕ) (taps : List ℤ) (n : ℕ) (numbers : List ℤ) →
    FitsChannel format (Block.Interpolate factor taps) n numbers → (length numbers ≡ past_length factor (length taps)) ×
    All (FitsSigned (word format)) numbers
fits-interpolate format factor taps n numbers fits = (
  length-words _ (word format) (past_length factor (length taps))
      numbers fits.1,
  fit-words (word format) (past_length factor (length taps)) numbers fits.1,
)

-- ---- a new one

pub new-interpolate : (format : Fmt) (factor : ℕ) (taps : List ℤ) (block : ℕ) →
    IsNewFilter (Block.Interpolate factor taps) format block
    (interpolate_channel format (new_interpolate factor taps block))
new-interpolate format factor taps block =
    let f = new_interpolate factor taps block in
    record {
      block = refl;
      format = refl;
      capacity = refl;
      stands = stands-channel format f [] refl (sym (append-nil
          (replicate (past_length factor (length taps)) (pos 0))));
      counts = counts-channel format f 0 refl (length-replicate (past_length factor (length taps)) (pos 0));
    }
