-- A filter that keeps the open group: what it takes becomes whole groups, and has no tail.
use Rattle.std.proofs.Common.{◌≡◌, ◌∙◌, ap, ap₂, refl, sym, subst, ℕ, ◌+◌, ◌*◌, ◌/◌, ◌%◌, ◌<◌, ◌≤◌, ℤ, List, [], ◌++◌}
use Rattle.std.proofs.Common.{length, Some, false, Bool, arith, length-append}
use Rattle.std.specs.Prelude.{All, FitsSigned}
use Rattle.std.specs.Int.{div_ceil}
use Rattle.std.proofs.lemmas.List.{append-nil}
use Rattle.std.proofs.lemmas.Nat.{mul-le}
use Rattle.std.proofs.Math.Nat.{mod-eq_of_lt, mod-lt, zero-mod, add-mul}
use Rattle.dsp_defs.specs.Formats.{word}
use Rattle.dsp_defs.specs.Shape.{live_frames}
use Rattle.dsp_defs.specs.Cost.{live_block_cost, block_turns}
use Rattle.dsp_defs.specs.Streaming.{Continues}
use Rattle.dsp_defs.specs.Counts.{Counts}
use Rattle.dsp_defs.specs.Kept.{kept_of_channel, kinds_by, in_words, Each, IsPlace, IsOfKind, FitsChannel, place_of}
use Rattle.dsp_unit.specs.Unit.{most_frames}
use Rattle.dsp_unit.specs.Filter.{FilterStandsFor, FilterCounts, FilterFeeds}
use Rattle.dsp_unit.specs.Filter.{IsNewFilter, of_channel, steady_filter}
use Rattle.dsp_unit.proofs.ChannelKept.{length-words, fit-words}
use Rattle.dsp_defs.specs.declared.format.Fmt.{Fmt}
use Rattle.dsp_defs.specs.declared.script.Block.{Block}
use Rattle.dsp_lanes.specs.Turns.{RisesWithin}
use Rattle.dsp_matrix.specs.Groups.{Group, IsBegun, IsGrouped, OpenState, given_groups, left_open}
use Rattle.dsp_filter.proofs.Groups.{groups-more, open-more, groups-within, ceil-more}
use Rattle.dsp_matrix.proofs.GroupLaws.{gives-more, stays-open, length-open, length-given, short-open}
use Rattle.dsp_defs.proofs.KeptLaws.{in_words-place}

module _ (format : Fmt) (block : Block) (g : Group) (is : IsGrouped format block g) where
  -- the room of a unit is enough for each block
  room-more : (n m : ℕ) → n ≤ m → most_frames block n ≤ most_frames block m
  room-more n m more =
      let here = is.most n in
      let there = is.most m in
      let rows = mul-le (div_ceil n g.taken) g.given (div_ceil m g.taken) g.given (ceil-more n m g.taken more)
      (omega arith) in
      omega (arith, here, there, rows)

  -- and for the groups that a block makes whole
  pub room-groups : (p n : ℕ) → p < g.taken → (p + n) / g.taken * g.given ≤ most_frames block n
  room-groups p n below =
      let most = is.most n in
      let rows = mul-le ((p + n) / g.taken) g.given (div_ceil n g.taken) g.given (groups-within n p g.taken below)
      (omega arith) in
      omega (arith, most, rows)

  -- and one group more than a block has whole
  pub room-exact : (n : ℕ) → most_frames block n ≤ (n / g.taken + 1) * g.given
  room-exact n =
      let most = is.most n in
      let ceil : div_ceil n g.taken ≤ n / g.taken + 1 = grind (arith, is.some) in
      let rows = mul-le (div_ceil n g.taken) g.given (n / g.taken + 1) g.given ceil (omega arith) in
      omega (arith, most, rows)

  -- what is left behind whole groups is not whole
  pub begun-again : (old new : OpenState) (x : List ℤ) → old.size ≡ g.taken →
      new ≡ record old { numbers = left_open g x } → IsBegun g new
  begun-again old new x size left =
      let same = ap (λ (o : OpenState). o.size) left in
      let long = ap (λ (o : OpenState). length o.numbers) left ∙ length-open g.taken g.given g.result is.some x in
      let below = mod-lt (length x) is.some in
      (same ∙ size, omega (arith, same, size, long, below))

  pub room-within : (p n capacity room : ℕ) → p < g.taken → n ≤ capacity → most_frames block capacity ≤ room →
      (p + n) / g.taken * g.given ≤ room
  room-within p n capacity room below few enough =
      let groups = room-groups p n below in
      let more = room-more n capacity few in
      omega (arith, groups, more, enough)

  module _ (capacity : ℕ) where
    group-stands : (kept x : List ℤ) → kept ≡ kept_of_channel format block x →
        FilterStandsFor (steady_filter format block capacity kept false) x
    group-stands kept x keeps = record {
      running = refl;
      keeps = keeps;
      tail_follows = is.whole_is_live x ∙ sym (append-nil (of_channel format block x));
    }

    group-place : (kept : List ℤ) (n : ℕ) → length kept ≡ n % g.taken → Each IsPlace (kinds_by format block n) kept
    group-place kept n size = subst (λ ks. Each IsPlace ks kept) (sym (is.kinds n))
        (in_words-place (word format) (n % g.taken) kept size)

    place-group : (kept : List ℤ) (n : ℕ) → Each IsPlace (kinds_by format block n) kept → length kept ≡ n % g.taken
    place-group kept n place = length-words IsPlace (word format) (n % g.taken) kept
        (subst (λ ks. Each IsPlace ks kept) (is.kinds n) place)

    group-counts : (kept : List ℤ) (n : ℕ) → length kept ≡ n % g.taken →
        FilterCounts (steady_filter format block capacity kept false) n
    group-counts kept n size = record {
      running = refl;
      place = group-place kept n size;
      tail_values = (let whole = is.whole n in let live = is.live n in omega (arith, whole, live));
    }

    pub group-new : IsNewFilter block format capacity (steady_filter format block capacity [] false)
    group-new = record {
      block = refl;
      format = refl;
      capacity = refl;
      stands = group-stands [] [] (sym (is.keeps [] ∙ short-open g.taken g.given g.result is.some [] is.some));
      counts = group-counts [] 0 (sym (zero-mod g.taken));
    }

    module _ (old taken : List ℤ) (before after : Counts) (below : length old < g.taken)
        (rises : RisesWithin before after ((length old + length taken) / g.taken * g.products)
        ((length old + length taken) / g.taken * g.products)) where
      long : length (given_groups g (old ++ taken)) ≡ (length old + length taken) / g.taken * g.given
      long = length-given g.taken g.given g.result is.some (old ++ taken) ∙
          ap (λ n. n / g.taken * g.given) (length-append old taken)

      values-follow : (x : List ℤ) → old ≡ left_open g x →
          Continues (of_channel format block) x taken (given_groups g (old ++ taken))
      values-follow x keeps =
          is.gives (x ++ taken)
          ∙ gives-more g.taken g.given g.result is.some x taken
          ∙ ap (λ l. given_groups g x ++ given_groups g (l ++ taken)) (sym keeps)
          ∙ ap (λ l. l ++ given_groups g (old ++ taken)) (sym (is.gives x))

      kept-follows : (x : List ℤ) → old ≡ left_open g x →
          left_open g (old ++ taken) ≡ kept_of_channel format block (x ++ taken)
      kept-follows x keeps =
          ap (λ l. left_open g (l ++ taken)) keeps ∙ sym (stays-open g.taken g.given g.result is.some x taken) ∙
          sym (is.keeps (x ++ taken))

      counted : (n : ℕ) → length old ≡ n % g.taken → n / g.taken + (length old + length taken) / g.taken ≡
          (n + length taken) / g.taken
      counted n size = groups-more n (length taken) (length old) g.taken is.some size

      times : (n k : ℕ) → length old ≡ n % g.taken → n / g.taken * k + (length old + length taken) / g.taken * k ≡
          (n + length taken) / g.taken * k
      times n k size = sym (add-mul (n / g.taken) ((length old + length taken) / g.taken) k) ∙
          ap (λ q. q * k) (counted n size)

      count-follows : (n : ℕ) → length old ≡ n % g.taken →
          live_frames block (n + length taken) ≡ live_frames block n + length (given_groups g (old ++ taken))
      count-follows n size = is.live (n + length taken) ∙
          sym (ap₂ (λ a b. a + b) (is.live n) long ∙ times n g.given size)

      left-follows : (n : ℕ) → length old ≡ n % g.taken →
          length (left_open g (old ++ taken)) ≡ (n + length taken) % g.taken
      left-follows n size =
          length-open g.taken g.given g.result is.some (old ++ taken) ∙
          ap (λ k. k % g.taken) (length-append old taken) ∙
          open-more n (length taken) (length old) g.taken is.some size

      cost-follows : (n : ℕ) → length old ≡ n % g.taken →
          live_block_cost format 1 block n + (length old + length taken) / g.taken * g.products ≡ live_block_cost format
          1 block (n + length taken)
      cost-follows n size = ap (λ k. k + (length old + length taken) / g.taken * g.products) (is.live_cost n) ∙
          times n g.products size ∙ sym (is.live_cost (n + length taken))

      multiplies-follow : (n : ℕ) → length old ≡ n % g.taken →
          live_block_cost format 1 block (n + length taken) + before.multiplies ≡ live_block_cost format 1 block n +
          after.multiplies
      multiplies-follow n size = (let cost = cost-follows n size in omega (arith, cost, rises.multiplies_rise))

      turns-follow : (n : ℕ) → length old ≡ n % g.taken →
          after.turns ≤ before.turns + block_turns format 1 block n (n + length taken)
      turns-follow n size = (let cost = cost-follows n size in let turns = is.turns n (n + length taken) in
          omega (arith, cost, turns, rises.turns_within))

      -- a call that makes whole groups of the open one and the samples, and keeps what is left of them
      group-fed : FilterFeeds (steady_filter format block capacity old false)
          (steady_filter format block capacity (left_open g (old ++ taken)) false) taken (given_groups g (old ++ taken))
          before after
      group-fed = record {
        made = record { block = refl; format = refl; capacity = refl };
        at_most = (let room = room-groups (length old) (length taken) below in omega (arith, long, room));
        values = λ x stood. values-follow x (stood.keeps ∙ is.keeps x);
        stands = λ x stood. group-stands (left_open g (old ++ taken)) (x ++ taken)
            (kept-follows x (stood.keeps ∙ is.keeps x));
        count = λ n counts. count-follows n (place-group old n counts.place);
        counts = λ n counts. group-counts (left_open g (old ++ taken)) (n + length taken)
            (left-follows n (place-group old n counts.place));
        multiplies = λ n counts. multiplies-follow n (place-group old n counts.place);
        turns = λ n counts. turns-follow n (place-group old n counts.place);
      }

    -- the same of a call by what it wrote and kept
    pub group-process :
        (ended : Bool) (old new taken given : List ℤ) (m : ℕ) (before after : Counts) → length old < g.taken →
        ended ≡ false → length taken ≡ m →
        given ≡ given_groups g (old ++ taken) → new ≡ left_open g (old ++ taken) →
        RisesWithin before after ((length old + m) / g.taken * g.products) ((length old + m) / g.taken * g.products)
        →
        FilterFeeds (steady_filter format block capacity old ended) (steady_filter format block capacity new ended)
        taken given before after
    group-process ended old new taken given m before after below running long gives keeps rises =
        let count : ℕ → ℕ = λ n. (length old + n) / g.taken * g.products in
        let risen = subst (λ (n : ℕ). RisesWithin before after (count n) (count n)) (sym long) rises in
        subst (λ e. FilterFeeds (steady_filter format block capacity old e)
        (steady_filter format block capacity new e) taken given before after) (sym running)
        (subst (λ l. FilterFeeds (steady_filter format block capacity old false)
        (steady_filter format block capacity l false) taken given before after) (sym keeps)
        (subst (λ l. FilterFeeds (steady_filter format block capacity old false)
        (steady_filter format block capacity (left_open g (old ++ taken)) false) taken l before after) (sym gives)
        (group-fed old taken before after below risen)))

  -- numbers fit where they are fewer than a group has, each in the format
  pub group-fits : (n : ℕ) (numbers : List ℤ) → length numbers < g.taken → length numbers ≡ n →
      Each IsOfKind (in_words (word format) (length numbers)) numbers → FitsChannel format block n numbers
  group-fits n numbers below count each =
      let size : length numbers ≡ n % g.taken = count ∙ sym
      (mod-eq_of_lt (subst (λ (k : ℕ). k < g.taken) count below)) in (
        is.taken n,
        subst (λ ks. Each IsOfKind ks numbers) (sym (is.kinds n))
            (subst (λ (k : ℕ). Each IsOfKind (in_words (word format) k) numbers) size each),
      )

  fits-size : (n : ℕ) (numbers : List ℤ) → FitsChannel format block n numbers → length numbers ≡ n % g.taken
  fits-size n numbers fits = length-words IsOfKind (word format) (n % g.taken) numbers
      (subst (λ ks. Each IsOfKind ks numbers) (is.kinds n) fits.1)

  pub fits-below : (n : ℕ) (numbers : List ℤ) → FitsChannel format block n numbers → length numbers < g.taken
  fits-below n numbers fits = let size = fits-size n numbers fits in let left = mod-lt n is.some in
      omega (arith, size, left)

  pub fits-each : (n : ℕ) (numbers : List ℤ) → FitsChannel format block n numbers →
      Each IsOfKind (in_words (word format) (length numbers)) numbers
  fits-each n numbers fits =
      subst (λ (k : ℕ). Each IsOfKind (in_words (word format) k) numbers) (sym (fits-size n numbers fits))
      (subst (λ ks. Each IsOfKind ks numbers) (is.kinds n) fits.1)

  pub fits-all : (n : ℕ) (numbers : List ℤ) → FitsChannel format block n numbers →
      All (FitsSigned (word format)) numbers
  fits-all n numbers fits = fit-words (word format) (length numbers) numbers (fits-each n numbers fits)

  -- and their place is their count
  pub fits-place : (n : ℕ) (numbers : List ℤ) → FitsChannel format block n numbers →
      Some (length numbers) ≡ Some (place_of block n)
  fits-place n numbers fits = ap Some (fits-size n numbers fits ∙ sym (is.place n))
