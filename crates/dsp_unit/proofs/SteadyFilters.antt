-- A filter that gives one value for each sample, has no tail, and keeps as many numbers at all times.
use Rattle.std.proofs.Common.{◌≡◌, ◌∙◌, refl, sym, subst, ℕ, ◌+◌, ◌*◌, ◌≤◌, ℤ, List, [], ◌++◌, length, arith, Bool}
use Rattle.std.proofs.Common.{true, false}
use Rattle.std.proofs.lemmas.List.{append-nil}
use Rattle.dsp_defs.specs.Streaming.{GoesOn}
use Rattle.dsp_defs.specs.Cost.{block_turns}
use Rattle.dsp_defs.specs.Counts.{Counts, Rises}
use Rattle.dsp_defs.specs.Kept.{kept_of_channel, kinds_by, Each, IsPlace, IsOfKind, FitsChannel}
use Rattle.dsp_unit.specs.Filter.{FilterStandsFor, FilterCounts, FilterFeeds, FilterRestores}
use Rattle.dsp_unit.specs.Filter.{IsNewFilter, IsSteady, IsStepwise, of_channel, steady_filter}
use Rattle.dsp_unit.proofs.ChannelKept.{each-length}
use Rattle.dsp_defs.specs.declared.format.Fmt.{Fmt}
use Rattle.dsp_defs.specs.declared.script.Block.{Block}

module _ (format : Fmt) (block : Block) (price capacity : ℕ) (is : IsSteady format block price) where
  steady-stands : (kept x : List ℤ) → kept ≡ kept_of_channel format block x →
      FilterStandsFor (steady_filter format block capacity kept false) x
  steady-stands kept x keeps = record {
    running = refl;
    keeps = keeps;
    tail_follows = is.whole_is_live x ∙ sym (append-nil (of_channel format block x));
  }

  steady-counts : (kept : List ℤ) (n : ℕ) → Each IsPlace (kinds_by format block n) kept →
      FilterCounts (steady_filter format block capacity kept false) n
  steady-counts kept n place = record {
    running = refl;
    place = place;
    tail_values = (let whole = is.whole_same n in let live = is.live_same n in omega (arith, whole, live));
  }

  -- as many numbers are at the place of any number of samples
  place-size : (kept : List ℤ) (n : ℕ) → Each IsPlace (kinds_by format block n) kept →
      length kept ≡ length (kinds_by format block 0)
  place-size kept n place = each-length IsPlace (kinds_by format block 0) kept
      (subst (λ ks. Each IsPlace ks kept) (is.kinds_same n) place)

  place-always : (kept : List ℤ) (n : ℕ) → length kept ≡ length (kinds_by format block 0) →
      Each IsPlace (kinds_by format block n) kept
  place-always kept n size = subst (λ ks. Each IsPlace ks kept) (sym (is.kinds_same n)) (is.placed kept size)

  pub steady-size : (x : List ℤ) → length (kept_of_channel format block x) ≡ length (kinds_by format block 0)
  steady-size x = place-size (kept_of_channel format block x) (length x) (is.by_channel.keeps_place x)

  pub steady-new : (kept : List ℤ) → kept ≡ kept_of_channel format block [] →
      IsNewFilter block format capacity (steady_filter format block capacity kept false)
  steady-new kept keeps = record {
    block = refl;
    format = refl;
    capacity = refl;
    stands = steady-stands kept [] keeps;
    counts = steady-counts kept 0 (subst (λ k. Each IsPlace (kinds_by format block 0) k) (sym keeps)
        (is.by_channel.keeps_place []));
  }

  pub steady-fed :
      (old new taken given : List ℤ) (before after : Counts) → length given ≡ length taken → length new ≡ length old →
      GoesOn (of_channel format block) (kept_of_channel format block) old new taken given →
      after.multiplies ≡ before.multiplies + length taken * price →
      ((n : ℕ) → after.turns ≤ before.turns + block_turns format 1 block n (n + length taken)) →
      FilterFeeds (steady_filter format block capacity old false) (steady_filter format block capacity new false)
      taken given before after
  steady-fed old new taken given before after size kept goes paid turns = record {
    made = record { block = refl; format = refl; capacity = refl };
    at_most = (let most = is.most_same (length taken) in omega (arith, size, most));
    values = λ x stood. goes.values x stood.keeps;
    stands = λ x stood. steady-stands new (x ++ taken) (goes.stands x stood.keeps);
    count = λ n _. (let one = is.live_same (n + length taken) in let other = is.live_same n in
        omega (arith, one, other, size));
    counts = λ n counts. steady-counts new (n + length taken)
        (place-always new (n + length taken) (kept ∙ place-size old n counts.place));
    multiplies = λ n _. (let one = is.live_cost (n + length taken) in let other = is.live_cost n in
        omega (arith, one, other, paid));
    turns = λ n _. turns n;
  }

  pub steady-restored : (kept numbers : List ℤ) (ended : Bool) →
      FilterRestores (steady_filter format block capacity kept ended)
      (steady_filter format block capacity numbers false) numbers
  steady-restored kept numbers ended = record {
    made = record { block = refl; format = refl; capacity = refl };
    running = refl;
    kept = refl;
    stands = λ x keeps. steady-stands numbers x keeps;
    counts = λ n place. steady-counts numbers n place;
  }

  -- numbers fit at any place, or at none
  pub steady-fits : (n : ℕ) (numbers : List ℤ) → Each IsOfKind (kinds_by format block 0) numbers →
      FitsChannel format block n numbers
  steady-fits n numbers each = (is.taken n, subst (λ ks. Each IsOfKind ks numbers) (sym (is.kinds_same n)) each)

  pub fits-steady : (n : ℕ) (numbers : List ℤ) → FitsChannel format block n numbers →
      Each IsOfKind (kinds_by format block 0) numbers
  fits-steady n numbers fits = subst (λ ks. Each IsOfKind ks numbers) (is.kinds_same n) fits.1

-- ---- filters that work on samples one by one

pub stepwise-fed :
    (format : Fmt) (block block' : Block) (price capacity : ℕ) (is : IsStepwise format block price) (ended : Bool)
    (old new taken given : List ℤ) (before after : Counts) → block' ≡ block → ended ≡ false →
    length given ≡ length taken → length new ≡ length old →
    GoesOn (of_channel format block) (kept_of_channel format block) old new taken given →
    Rises before after (length taken * price) (length taken * price) →
    FilterFeeds (steady_filter format block capacity old ended) (steady_filter format block' capacity new ended) taken
    given before after
stepwise-fed format block block' price capacity is ended old new taken given before after same running size kept goes
    rises =
    subst (λ b. FilterFeeds (steady_filter format block capacity old ended)
    (steady_filter format b capacity new ended) taken given before after) (sym same)
    (subst (λ e. FilterFeeds (steady_filter format block capacity old e) (steady_filter format block capacity new e)
    taken given before after) (sym running)
    (steady-fed format block price capacity is.steady old new taken given before after size kept goes
    rises.multiplies_rise
    (λ n. let turns = is.turns n (n + length taken) in omega (arith, turns, rises.turns_rise))))
