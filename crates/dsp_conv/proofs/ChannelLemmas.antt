-- A convolution as the filter of a channel.
use Rattle.std.proofs.Common.{◌≡◌, ◌∙◌, ap, ap₂, refl, sym, subst, ℕ, ◌+◌, ◌-◌, ◌*◌, ◌/◌, ◌%◌, ◌≤◌, min, ℤ, pos, List}
use Rattle.std.proofs.Common.{[], ◌∷◌, ◌++◌, length, true, false, arith, length-append}
use Rattle.std.specs.Prelude.{◌≤ℤ◌}
use Rattle.std.proofs.lemmas.Int.{ints}
use Rattle.std.proofs.lemmas.List.{length-replicate, same_from_push, nil_from_length}
use Rattle.dsp_defs.specs.declared.format.Fmt.{Fmt}
use Rattle.dsp_defs.specs.declared.script.Block.{Block}
use Rattle.dsp_defs.specs.declared.script.Block.TheVariants as block
use Rattle.dsp_defs.specs.Formats.{word, lanes}
use Rattle.dsp_defs.specs.Counts.{Counts}
use Rattle.dsp_defs.specs.Signal.{sample}
use Rattle.dsp_defs.specs.Streaming.{Continues, last_of}
use Rattle.dsp_defs.specs.Shape.{whole_frames, live_frames}
use Rattle.dsp_defs.specs.Cost as cost
use Rattle.dsp_defs.specs.Kept.{Fixed, Each, IsPlace, IsOfKind, IsTaken, in_words, kinds_by, place_of, FitsChannel}
use Rattle.dsp_unit.specs.Filter.{FilterStandsFor, FilterCounts, FilterTook, FilterMadeAs, FilterFeeds}
use Rattle.dsp_unit.specs.Filter.{FilterFinishes, FilterRestores, IsNewFilter, filter_made, filter_room, of_channel}
use Rattle.dsp_defs.proofs.KeptLaws.{Each-append, in_words-place}
use Rattle.dsp_lanes.specs.Turns.{lane_turns}
use Rattle.dsp_filter.specs.Making.{AreTaps}
use Rattle.dsp_filter.proofs.LastPlace.{each-last, kinds-of, of-kinds, same-number}
use Rattle.dsp_conv.specs.declared.extent.Extent.{Extent}
use Rattle.dsp_conv.specs.declared.extent.Extent.TheVariants.{Full, Within}
use Rattle.dsp_conv.specs.Extent.{block_of, place_in, greatest_place}
use Rattle.dsp_conv.specs.ConvState.{ConvState, StandsFor, CountsFor, Fits, conv_channel, kept, kept_of}
use Rattle.dsp_conv.specs.ConvState.{new_conv}
use Rattle.dsp_conv.specs.ByChannel.{IsConvIn, taps_of}
use Rattle.dsp_conv.proofs.ExtentLemmas.{kinds-are, kept-are, most-same, live-cost, cost-so-far, place-itself}
use Rattle.dsp_conv.proofs.ExtentLemmas.{placed-within, no-place}
use Rattle.dsp_conv.proofs.Stretches.{turns-within}
use Rattle.dsp_conv.proofs.CallLemmas.{new-stands}
use Rattle.dsp_conv.proofs.Inside.{IsConvolution}

-- ---- turns

-- the turn bound of the unit is no less
turn-bound : (e : Extent) (format : Fmt) (b : List ℤ) (n n' m : ℕ) →
    live_frames (block_of e b) n' ≡ live_frames (block_of e b) n + m →
    length b * cost.lane_turns format m ≤ cost.block_turns format 1 (block_of e b) n n'
turn-bound Full format b n n' m more =
    let risen : live_frames (block_of Full b) n' - live_frames (block_of Full b) n ≡ m = omega (arith, more) in
    let same : 1 * length b * cost.lane_turns format (live_frames (block_of Full b) n' - live_frames (block_of Full b)
    n) ≡ length b * cost.lane_turns format m =
    ap (λ k. 1 * length b * cost.lane_turns format k) risen ∙
    ap (λ k. k * cost.lane_turns format m) (let one : 1 * length b ≡ length b = omega arith in one) in
    subst (λ k. length b * cost.lane_turns format m ≤ k) (sym same) (omega arith)
turn-bound (Within first count) format b n n' m more =
    let live = λ (k : ℕ). live_frames (block_of (Within first count) b) k in
    let products : 1 * live n' * length b - 1 * live n * length b ≡ m * length b =
    ap (λ k. 1 * k * length b - 1 * live n * length b) more ∙ omega arith in
    let swapped : m * length b ≡ length b * m = omega arith in
    subst (λ k. length b * cost.lane_turns format m ≤ k) (sym (products ∙ swapped))
    (turns-within (lanes format) (length b) m)

spent-turns : (L t count made now before after : ℕ) → now ≡ made + count → after ≤ before + t * lane_turns L count →
    after + made * t ≤ before + now * t
spent-turns L t count made now before after more turned =
    let products : now * t ≡ (made + count) * t = ap (λ k. k * t) more in
    let bound : t * lane_turns L count ≤ t * count = turns-within L t count in
    omega (arith, products, bound, turned)

spent-products : (t count made now before after : ℕ) → now ≡ made + count → after ≡ before + count * t →
    now * t + before ≡ made * t + after
spent-products t count made now before after more paid = ap (λ k. k * t + before) more ∙ omega (arith, paid)

taken-any : (e : Extent) (taps : List ℤ) (n : ℕ) → IsTaken (block_of e taps) n
taken-any Full taps n = tt
taken-any (Within first count) taps n = tt

place-of : (e : Extent) (taps : List ℤ) (n : ℕ) → place_of (block_of e taps) n ≡ place_in e n
place-of Full taps n = refl
place-of (Within first count) taps n = refl

module _ (format : Fmt) where
  -- ---- what it stands for and counts

  stood : (c : ConvState) (x : List ℤ) → FilterStandsFor (conv_channel format c) x → StandsFor format c x
  stood c x stands =
      let parts = same_from_push c.past (last_of (length c.taps - 1) x) (pos c.place)
      (pos (place_in c.extent (length x))) (stands.keeps ∙ kept-are c.extent format c.taps x) in
      record {
        running = stands.running;
        past_is = parts.0;
        place_is = same-number c.place (place_in c.extent (length x)) parts.1;
        tail_is = stands.tail_follows;
      }

  stands-channel : (c : ConvState) (x : List ℤ) → StandsFor format c x → FilterStandsFor (conv_channel format c) x
  stands-channel c x stands = record {
    running = stands.running;
    keeps = ap₂ (λ past place. past ++ pos place ∷ []) stands.past_is stands.place_is ∙
        sym (kept-are c.extent format c.taps x);
    tail_follows = stands.tail_is;
  }

  -- the place of kept numbers
  placed : (e : Extent) (taps past : List ℤ) (place n : ℕ) →
      Each IsPlace (kinds_by format (block_of e taps) n) (past ++ pos place ∷ []) → place ≡ place_in e n
  placed e taps past place n each =
      same-number place (place_in e n)
      (each-last IsPlace (in_words (word format) (length taps - 1)) (Fixed (place_in e n)) past (pos place)
      (subst (λ ks. Each IsPlace ks (past ++ pos place ∷ [])) (kinds-are e format taps n) each))

  place-each : (c : ConvState) (n : ℕ) → IsConvolution c → c.place ≡ place_in c.extent n →
      Each IsPlace (kinds_by format (block_of c.extent c.taps) n) (kept c)
  place-each c n is at =
      subst (λ ks. Each IsPlace ks (kept c)) (sym (kinds-are c.extent format c.taps n))
      (Each-append IsPlace (in_words (word format) (length c.taps - 1)) (Fixed (place_in c.extent n) ∷ []) c.past
      (pos c.place ∷ []) (in_words-place (word format) _ c.past is.long) (ap pos at, tt))

  counted : (c : ConvState) (n : ℕ) → FilterCounts (conv_channel format c) n → CountsFor c n
  counted c n counts = record {
    running = counts.running;
    place_is = placed c.extent c.taps c.past c.place n counts.place;
    whole_is = counts.tail_values;
  }

  counts-channel : (c : ConvState) (n : ℕ) → IsConvolution c → CountsFor c n → FilterCounts (conv_channel format c) n
  counts-channel c n is counts = record {
    running = counts.running;
    place =
        place-each c n is counts.place_is;
    tail_values = counts.whole_is;
  }

  -- ---- a new one

  pub new-channel : (e : Extent) (taps : List ℤ) (block : ℕ) → 1 ≤ block → 1 ≤ length taps →
      IsNewFilter (block_of e taps) format block (conv_channel format (new_conv e taps block))
  new-channel e taps block some some_taps =
      let c = new_conv e taps block in
      let long = length-replicate (length taps - 1) (pos 0) in
      let is : IsConvolution c = record { some = some; taps = some_taps; long = long } in
      record {
        block = refl;
        format = refl;
        capacity = refl;
        stands = stands-channel c [] (new-stands format e taps block some_taps);
        counts = counts-channel c 0 is (record { running = refl; place_is = sym (no-place e); whole_is = nothing e });
      }
    where
      nothing : (e : Extent) → whole_frames (block_of e taps) 0 ≡ live_frames (block_of e taps) 0 + 0
      nothing Full = refl
      nothing (Within first count) = omega arith

  -- ---- kept numbers

  module _ (c : ConvState) (numbers : List ℤ) (n : ℕ) (long : length c.past ≡ length c.taps - 1) where
    -- the convolution's test and the unit's
    pub fits-channel : Fits format c numbers → pos n ≡ sample numbers (length c.past) →
        FitsChannel format (block_of c.extent c.taps) n numbers
    fits-channel fits at =
        let below : pos n ≤ℤ pos (greatest_place c.extent) =
        subst (λ z. z ≤ℤ pos (greatest_place c.extent)) (sym at) fits.high in
        let few : n ≤ greatest_place c.extent = omega (arith, ints, below) in (
          taken-any c.extent c.taps n,
          subst (λ ks. Each IsOfKind ks numbers) (sym (kinds-are c.extent format c.taps n))
              (subst (λ p. Each IsOfKind (in_words (word format) p ++ Fixed (place_in c.extent n) ∷ []) numbers) long
              (kinds-of format (length c.past) (place_in c.extent n) numbers fits.count fits.samples
              (sym at ∙ ap pos (sym (place-itself c.extent n few))))),
        )

    module _ (fits : FitsChannel format (block_of c.extent c.taps) n numbers) where
      kinds-at : Each IsOfKind (in_words (word format) (length c.past) ++ Fixed (place_in c.extent n) ∷ []) numbers
      kinds-at =
          subst (λ p. Each IsOfKind (in_words (word format) p ++ Fixed (place_in c.extent n) ∷ []) numbers)
          (sym long)
          (subst (λ ks. Each IsOfKind ks numbers) (kinds-are c.extent format c.taps n) fits.1)

      pub channel-fits : Fits format c numbers
      channel-fits =
          let kinds = of-kinds format (length c.past) (place_in c.extent n) numbers kinds-at in
          let small = placed-within c.extent n in
          record {
            count = kinds.whole;
            samples = kinds.fit;
            low = subst (λ z. pos 0 ≤ℤ z) (sym kinds.last) (omega (arith, ints));
            high = subst (λ z. z ≤ℤ pos (greatest_place c.extent)) (sym kinds.last) (omega (arith, ints, small));
          }

      -- the place is the last number
      pub place-is : (v : ℕ) → pos v ≡ sample numbers (length c.past) → v ≡ place_of (block_of c.extent c.taps) n
      place-is v at =
          let kinds = of-kinds format (length c.past) (place_in c.extent n) numbers kinds-at in
          same-number v (place_in c.extent n) (at ∙ kinds.last) ∙ sym (place-of c.extent c.taps n)

  -- ---- calls

  module _ (old new : ConvState) (is : IsConvolution old) (extent : new.extent ≡ old.extent)
      (taps : new.taps ≡ old.taps) (block : new.block ≡ old.block) (kept_long : length new.past ≡ length old.past) where
    made : FilterMadeAs (conv_channel format old) (conv_channel format new)
    made = record { block = ap₂ block_of extent taps; format = refl; capacity = block }

    is-new : IsConvolution new
    is-new = record {
      some = subst (λ k. 1 ≤ k) (sym block) is.some;
      taps = subst (λ l. 1 ≤ length l) (sym taps) is.taps;
      long = kept_long ∙ is.long ∙
          ap (λ l. length l - 1) (sym taps);
    }

    -- the samples `taken` come, and `given` are the values that they make
    pub channel-fed :
        (L : ℕ) (taken given : List ℤ) (m result : ℕ) (before after : Counts) → L ≡ lanes format → length taken ≡ m →
        length given ≡ result → result ≤ m →
        ((n : ℕ) → CountsFor old n → live_frames (block_of old.extent old.taps) (n + m) ≡ live_frames
        (block_of old.extent old.taps) n + result) →
        ((x : List ℤ) → StandsFor format old x → Continues (of_channel format (block_of old.extent old.taps)) x taken
        given) → ((x : List ℤ) → StandsFor format old x → StandsFor format new (x ++ taken)) →
        ((n : ℕ) → CountsFor old n → CountsFor new (n + m)) →
        after.multiplies ≡ before.multiplies + result * length old.taps →
        after.turns ≤ before.turns + length old.taps * lane_turns L result →
        FilterFeeds (conv_channel format old) (conv_channel format new) taken given before after
    channel-fed L taken given m result before after is_lanes is_taken is_given within count values stands counts
        multiplies turns =
        let b = block_of old.extent old.taps in
        let lanes_turns = subst (λ (k : ℕ). after.turns ≤ before.turns + length old.taps * (result / k + result % k))
        is_lanes turns in
        record {
          made = made;
          at_most = (let most = most-same old.extent old.taps (length taken) in
              omega (arith, is_taken, is_given, within, most));
          values = λ x stood_for. values x (stood old x stood_for);
          stands = λ x stood_for. stands-channel new (x ++ taken) (stands x (stood old x stood_for));
          count = λ n here. rw (is_taken, is_given) (count n (counted old n here));
          counts = λ n here. rw is_taken (counts-channel new (n + m) is-new (counts n (counted old n here)));
          multiplies = λ n here. rw is_taken
              (let more = count n (counted old n here) in
              ap (λ k. k + before.multiplies) (live-cost old.extent format old.taps (n + m) ∙
              ap (λ k. k * length old.taps) more)
              ∙ (let sums : (live_frames b n + result) * length old.taps + before.multiplies ≡ live_frames b n *
              length old.taps + after.multiplies = omega (arith, multiplies) in sums)
              ∙ ap (λ k. k + after.multiplies) (sym (live-cost old.extent format old.taps n)));
          turns = λ n here. rw is_taken (let bound = turn-bound old.extent format old.taps n (n + m) result
              (count n (counted old n here)) in omega (arith, bound, lanes_turns));
        }

    -- `count` values of the tail are given, as many as there are or a block has
    pub channel-finished :
        (L : ℕ) (given : List ℤ) (count : ℕ) (before after : Counts) → new.place ≡ old.place → new.ended ≡ true →
        length given ≡ count → count ≡ min (length old.tail) old.block → old.tail ≡ given ++ new.tail →
        after.multiplies ≡ before.multiplies + count * length old.taps →
        after.turns ≤ before.turns + length old.taps * lane_turns L count →
        FilterFinishes (conv_channel format old) (conv_channel format new) given before after
    channel-finished L given count before after place ended is_given is_count tail multiplies turns = record {
      made = made;
      ended = ended;
      tail = tail;
      count = (let most = most-same old.extent old.taps old.block in is_given ∙ is_count ∙
          ap (λ k. min (length old.tail) k) (sym most));
      spent = λ none. nil_from_length old.tail (let no : length given ≡ 0 = ap length none in
          omega (arith, no, is_given, is_count, is.some));
      took = λ n took. record {
        place = place-each new n is-new (place ∙ placed old.extent old.taps old.past old.place n took.place ∙
            ap (λ x. place_in x n) (sym extent));
        tail_within = subst (λ k. length new.tail ≤ whole_frames k n) (sym made.block)
            (let within = took.tail_within in omega (arith, within, whole));
      };
      multiplies = λ n took.
          ap (λ k. k + before.multiplies) (now n)
          ∙ spent-products (length old.taps) count _ _ before.multiplies after.multiplies (more n took) multiplies
          ∙ ap (λ k. k + after.multiplies) (sym (before-it n));
      turns = λ n took.
          let bound = spent-turns L (length old.taps) count _ _ before.turns after.turns (more n took) turns in
          omega (arith, bound, now n, before-it n);
    }
      where
        frames : ℕ → ℕ
        frames n = whole_frames (block_of old.extent old.taps) n

        whole : length old.tail ≡ count + length new.tail
        whole = ap length tail ∙ length-append given new.tail ∙ ap (λ k. k + length new.tail) is_given

        more : (n : ℕ) → FilterTook (conv_channel format old) n →
            frames n - length new.tail ≡ frames n - length old.tail + count
        more n took = (let within = took.tail_within in omega (arith, within, whole))

        now : (n : ℕ) → filter_made (conv_channel format new) n ≡ (frames n - length new.tail) * length old.taps
        now n = ap (λ b. cost.cost_so_far format 1 b n n (whole_frames b n - length new.tail)) made.block ∙
            cost-so-far old.extent format old.taps n (frames n - length new.tail)

        before-it : (n : ℕ) → filter_made (conv_channel format old) n ≡ (frames n - length old.tail) * length old.taps
        before-it n = cost-so-far old.extent format old.taps n (frames n - length old.tail)

    -- it keeps these numbers from now on
    pub channel-restored :
        (numbers : List ℤ) → new.ended ≡ false → kept new ≡ numbers →
        ((x : List ℤ) → numbers ≡ kept_of format old.extent old.taps x → StandsFor format new x) →
        ((n : ℕ) → new.place ≡ place_in old.extent n → CountsFor new n) →
        FilterRestores (conv_channel format old) (conv_channel format new) numbers
    channel-restored numbers running keeps stands counts = record {
      made = made;
      running = running;
      kept = keeps;
      stands = λ x keeps. stands-channel new x (stands x keeps);
      counts = λ n place. counts-channel new n is-new
          (counts n (placed old.extent old.taps new.past new.place n
          (subst (λ l. Each IsPlace (kinds_by format (block_of old.extent old.taps) n) l) (sym keeps) place)));
    }

-- the room of a call is that of a block
pub room-is : (format : Fmt) (c : ConvState) (room : ℕ) → filter_room (conv_channel format c) ≤ room → c.block ≤ room
room-is format c room within = (let most = most-same c.extent c.taps c.block in omega (arith, within, most))

-- the taps of a block of convolutions
pub are-taps : (format : Fmt) (block : Block) → IsConvIn format block → AreTaps format (taps_of block)
are-taps format (block.Conv taps) is = is
are-taps format (block.ConvPartial first count taps) is = is
are-taps format block is = absurd is
