-- The decimator of one channel, as a unit sees it.
use Rattle.std.proofs.Common.{◌≡◌, ◌∙◌, ap, ap₂, refl, sym, subst, ℕ, ◌+◌, ◌-◌, ◌*◌, ◌/◌, ◌%◌, ◌<◌, ◌≤◌, ℤ, pos, List}
use Rattle.std.proofs.Common.{[], ◌∷◌, ◌++◌, length, map, replicate, Bool, false, w64, to_z, of_z, arith, ⊎_elim}
use Rattle.std.specs.Prelude.{◌≤ℤ◌, ◌<ℤ◌, negsuc, nat_abs}
use Rattle.std.specs.Int.{div_ceil}
use Rattle.std.proofs.lemmas.Int.{ints, to_z-of_z}
use Rattle.dsp_defs.specs.Signal.{sample}
use Rattle.std.proofs.lemmas.List.{append-nil, length-map, length-replicate}
use Rattle.std.proofs.Math.Nat.{zero-mod, mod-eq_of_lt, mod-lt}
use Rattle.dsp_defs.specs.declared.format.Fmt.{Fmt}
use Rattle.dsp_defs.specs.declared.script.Block.TheVariants as Block
use Rattle.dsp_defs.specs.Formats.{word, lanes}
use Rattle.dsp_defs.specs.Counts.{Counts}
use Rattle.dsp_defs.specs.Streaming.{Continues}
use Rattle.dsp_defs.specs.Sums.{decimate}
use Rattle.dsp_defs.specs.Cost as cost
use Rattle.dsp_defs.specs.Kept.{Fixed, Each, IsPlace, IsOfKind, in_words, FitsChannel}
use Rattle.dsp_unit.specs.Filter.{FilterStandsFor, FilterCounts, FilterFeeds, IsNewFilter}
use Rattle.dsp_defs.proofs.KeptLaws.{Each-append, in_words-place}
use Rattle.dsp_lanes.specs.Turns.{lane_turns}
use Rattle.dsp_window.specs.Rolling.{Rolling, last_samples}
use Rattle.dsp_window.proofs.Rolls.{length-last_samples}
use Rattle.dsp_filter.proofs.LastPlace.{each-last, kinds-of, of-kinds}
use Rattle.dsp_filter.proofs.Groups.{ceil-more}
use Rattle.dsp_rate.specs.DecimateState.{DecimateState, StandsFor, CountsFor, Fits, decimate_channel, kept}
use Rattle.dsp_rate.specs.DecimateState.{new_decimate, past_length}
use Rattle.dsp_rate.proofs.DecimateLemmas.{kept-stands}

-- ---- every decimator

-- its factor is in its range, and it keeps as many samples as it was made for
pub record IsDecimator (d : DecimateState) : Type 0 where
  pub some : 0 < d.factor
  pub few : d.factor ≤ 255
  pub long : length d.past ≡ past_length d.factor (length d.taps)

pub is-decimator :
    {X : Type 0} → (number : X → ℤ) (taps : List X) (count factor phase : ℕ) (window : Rolling) (ended : Bool) →
    count ≡ length taps → window.past + 2 ≡ count + factor → phase < factor → factor ≤ 255 →
    window.past ≤ length window.samples →
    IsDecimator (record {
      factor = factor;
      taps = map number taps;
      past =
          last_samples window.past window.samples;
      phase = phase;
      block = window.room;
      ended = ended;
    })
is-decimator number taps count factor phase window ended counted past within few shown = record {
  some = omega (arith, within);
  few = few;
  long = length-last_samples window.past window.samples shown ∙ omega (arith, past, counted, length-map taps number);
}

-- ---- room

-- so the room of a unit is enough for each block
pub room-enough : (n block factor room : ℕ) → n ≤ block → div_ceil block factor * 1 ≤ room → div_ceil n factor ≤ room
room-enough n block factor room within enough = let more : div_ceil n factor ≤ div_ceil block factor =
    ceil-more n block factor within in omega (arith, more, enough)

-- ---- what it stands for and counts

pub stood : (format : Fmt) (d : DecimateState) (x : List ℤ) → FilterStandsFor (decimate_channel format d) x →
    StandsFor d x
stood format d x stands = kept-stands format d (kept d) x refl stands.keeps

pub stands-channel : (format : Fmt) (d : DecimateState) (x : List ℤ) → d.ended ≡ false → StandsFor d x →
    FilterStandsFor (decimate_channel format d) x
stands-channel format d x running stands = record {
  running = running;
  keeps = ap₂ (λ past phase. past ++ pos phase ∷ []) stands.past_is stands.phase_is;
  tail_follows = sym (append-nil (decimate format d.factor d.taps x));
}

pub counted : (format : Fmt) (d : DecimateState) (n : ℕ) → FilterCounts (decimate_channel format d) n → CountsFor d n
counted format d n counts =
    let last : pos d.phase ≡ pos (n % d.factor) = each-last IsPlace
    (in_words (word format) (length d.taps + d.factor - 2)) (Fixed (n % d.factor)) d.past (pos d.phase) counts.place
    in
    cc

pub no-tail : (n m : ℕ) → n ≡ m → n ≡ m + 0
no-tail n m same = omega (arith, same)

pub counts-channel : (format : Fmt) (d : DecimateState) (n : ℕ) → d.ended ≡ false →
    length d.past ≡ past_length d.factor (length d.taps) → CountsFor d n → FilterCounts (decimate_channel format d) n
counts-channel format d n running long counts = record {
  running = running;
  place = Each-append IsPlace (in_words (word format) (length d.taps + d.factor - 2)) (Fixed (n % d.factor) ∷ [])
      d.past (pos d.phase ∷ []) (in_words-place (word format) _ d.past long) (ap pos counts, tt);
  tail_values = no-tail _ _ refl;
}

-- ---- a call

one-channel : (groups groups' count taps before after : ℕ) → groups + count ≡ groups' →
    after ≡ before + count * taps → 1 * (groups' * 1) * taps + before ≡ 1 * (groups * 1) * taps + after
one-channel groups groups' count taps before after more made =
    let products : (groups + count) * taps ≡ groups' * taps = ap (λ n. n * taps) more in
    omega (arith, products, made)

turns-bound : (groups groups' count turns turns' before after : ℕ) → groups + count ≡ groups' → turns ≡ turns' →
    after ≤ before + count * turns → after ≤ before + 1 * (groups' - groups) * turns'
turns-bound groups groups' count turns turns' before after more same within =
    let risen : groups' - groups ≡ count = omega (arith, more) in
    let both : 1 * (groups' - groups) * turns' ≡ count * turns = ap₂ (λ a b. 1 * a * b) risen (sym same) ∙
    omega arith in
    omega (arith, within, both)

one-value : (count length_given groups groups' : ℕ) → length_given ≡ count → groups + count ≡ groups' →
    groups' * 1 ≡ groups * 1 + length_given
one-value count length_given groups groups' is more = omega (arith, is, more)

at-most : (length_given count most : ℕ) → length_given ≡ count → count ≤ most → length_given ≤ most * 1
at-most length_given count most is within = omega (arith, is, within)

-- what a call does that takes the samples `taken` and gives `count` values
pub channel-fed :
    (format : Fmt) (L : ℕ) (old new : DecimateState) (taken given : List ℤ) (m count : ℕ) (before after : Counts) →
    L ≡ lanes format →
    old.ended ≡ false → length old.past ≡ past_length old.factor (length old.taps) →
    new ≡ record old { past = new.past; phase = new.phase } → length new.past ≡ length old.past → length taken ≡ m →
    length given ≡ count → count ≤ div_ceil m old.factor →
    ((x : List ℤ) → StandsFor old x → Continues (decimate format old.factor old.taps) x taken given) →
    ((x : List ℤ) → StandsFor old x → StandsFor new (x ++ taken)) →
    ((n : ℕ) → CountsFor old n → n / old.factor + count ≡ (n + m) / old.factor) →
    ((n : ℕ) → CountsFor old n → CountsFor new (n + m)) →
    after.multiplies ≡ before.multiplies + count * length old.taps →
    after.turns ≤ before.turns + count * lane_turns L (length old.taps) →
    FilterFeeds (decimate_channel format old) (decimate_channel format new) taken given before after
channel-fed format L old new taken given m count before after is_lanes running long same kept_long is_taken is_given
    within values stands count_is counts multiplies turns =
    let factor : new.factor ≡ old.factor = ap (λ (d : DecimateState). d.factor) same in
    let taps : new.taps ≡ old.taps = ap (λ (d : DecimateState). d.taps) same in
    let ended : new.ended ≡ false = ap (λ (d : DecimateState). d.ended) same ∙ running in
    let new_long : length new.past ≡ past_length new.factor (length new.taps) = kept_long ∙ long ∙
    ap₂ (λ f t. past_length f (length t)) (sym factor) (sym taps) in
    record {
      made = record {
        block = ap₂ (λ f t. Block.Decimate f t) factor taps;
        format = refl;
        capacity = ap (λ (d : DecimateState). d.block) same;
      };
      at_most = rw is_taken (at-most (length given) count (div_ceil m old.factor) is_given within);
      values = λ x stood_for. values x (stood format old x stood_for);
      stands = λ x stood_for. stands-channel format new (x ++ taken) ended (stands x (stood format old x stood_for));
      count = λ n here. rw is_taken (one-value count (length given) (n / old.factor) ((n + m) / old.factor) is_given
          (count_is n (counted format old n here)));
      counts = λ n here. rw is_taken (counts-channel format new (n + m) ended new_long
          (counts n (counted format old n here)));
      multiplies = λ n here. rw is_taken (one-channel (n / old.factor) ((n + m) / old.factor) count (length old.taps)
          before.multiplies after.multiplies (count_is n (counted format old n here)) multiplies);
      turns = λ n here. rw is_taken (turns-bound (n / old.factor) ((n + m) / old.factor) count
          (lane_turns L (length old.taps)) (cost.lane_turns format (length old.taps)) before.turns after.turns
          (count_is n (counted format old n here)) (ap (λ w. length old.taps / w + length old.taps % w) is_lanes)
          turns);
    }

-- ---- kept numbers

-- a number of a slice that is from 0 to m-1
number-read : (z : ℤ) (m : ℕ) → m ≤ 256 → pos 0 ≤ℤ z → z <ℤ pos m → pos (nat_abs (to_z w64 (of_z w64 z))) ≡ z
number-read (pos k) m few low high =
    let small : k < m = omega (arith, ints, high) in
    ap (λ w. pos (nat_abs w)) (to_z-of_z w64 (pos k) (omega (arith, small)))
number-read (negsuc k) m few low high = absurd (omega (arith, ints, low))

-- so the phase, the last of numbers that fit
pub phase-read : (format : Fmt) (d : DecimateState) (numbers : List ℤ) → d.factor ≤ 255 → Fits format d numbers →
    pos (nat_abs (to_z w64 (of_z w64 (sample numbers (length numbers - 1))))) ≡ sample numbers (length d.past)
phase-read format d numbers few fits =
    let last : length d.past ≡ length numbers - 1 = omega (arith, fits.count) in
    ap (λ k. pos (nat_abs (to_z w64 (of_z w64 (sample numbers k))))) (sym last) ∙
    number-read (sample numbers (length d.past)) d.factor (omega (arith, few)) fits.low fits.high

-- the decimator's test and the unit's
pub fits-channel : (format : Fmt) (d : DecimateState) (numbers : List ℤ) (n : ℕ) →
    length d.past ≡ past_length d.factor (length d.taps) → Fits format d numbers →
    pos n ≡ sample numbers (length d.past) → FitsChannel format (Block.Decimate d.factor d.taps) n numbers
fits-channel format d numbers n long fits is =
    let below : pos n <ℤ pos d.factor = subst (λ z. z <ℤ pos d.factor) (sym is) fits.high in
    let small : n < d.factor = omega (arith, ints, below) in
    let place : n % d.factor ≡ n = mod-eq_of_lt small in (
      tt,
      subst (λ p. Each IsOfKind (in_words (word format) p ++ Fixed (n % d.factor) ∷ []) numbers) long
          (kinds-of format (length d.past) (n % d.factor) numbers fits.count fits.samples
          (sym is ∙ ap pos (sym place))),
    )

pub channel-fits : (format : Fmt) (d : DecimateState) (numbers : List ℤ) (n : ℕ) → 0 < d.factor →
    length d.past ≡ past_length d.factor (length d.taps) →
    FitsChannel format (Block.Decimate d.factor d.taps) n numbers → Fits format d numbers
channel-fits format d numbers n some long fits =
    let kinds = of-kinds format (length d.past) (n % d.factor) numbers
    (subst (λ p. Each IsOfKind (in_words (word format) p ++ Fixed (n % d.factor) ∷ []) numbers) (sym long) fits.1)
    in
    let small : n % d.factor < d.factor = mod-lt n some in
    record {
      count = kinds.whole;
      samples = kinds.fit;
      low = subst (λ z. pos 0 ≤ℤ z) (sym kinds.last) (omega (arith, ints));
      high = subst (λ z. z <ℤ pos d.factor) (sym kinds.last) (omega (arith, ints, small));
    }

-- the place is the phase
pub place-is : (format : Fmt) (d : DecimateState) (numbers : List ℤ) (n v : ℕ) →
    length d.past ≡ past_length d.factor (length d.taps) →
    FitsChannel format (Block.Decimate d.factor d.taps) n numbers → pos v ≡ sample numbers (length d.past) →
    v ≡ n % d.factor
place-is format d numbers n v long fits is =
    let kinds = of-kinds format (length d.past) (n % d.factor) numbers
    (subst (λ p. Each IsOfKind (in_words (word format) p ++ Fixed (n % d.factor) ∷ []) numbers) (sym long) fits.1)
    in
    let same : pos v ≡ pos (n % d.factor) = is ∙ kinds.last in
    cc

-- ---- a new one

pub new-channel : (format : Fmt) (factor : ℕ) (taps : List ℤ) (block : ℕ) →
    IsNewFilter (Block.Decimate factor taps) format block (decimate_channel format (new_decimate factor taps block))
new-channel format factor taps block =
    let d = new_decimate factor taps block in
    record {
      block = refl;
      format = refl;
      capacity = refl;
      stands = stands-channel format d [] refl (record {
        past_is =
            sym (append-nil (replicate (past_length factor (length taps)) (pos 0)));
        phase_is = sym (zero-mod factor);
      });
      counts = counts-channel format d 0 refl (length-replicate (past_length factor (length taps)) (pos 0))
          (sym (zero-mod factor));
    }
