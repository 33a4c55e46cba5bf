-- What a convolution is after a call.
use Rattle.std.proofs.Common.{◌≡◌, ◌∙◌, ap, ap₂, sym, refl, subst, ℕ, zero, suc, ◌+◌, ◌-◌, ◌*◌, ◌<◌, ◌≤◌, ◌^◌, ℤ, pos}
use Rattle.std.proofs.Common.{Bool, false, List, [], ◌∷◌, ◌++◌, length, map, take, drop, replicate, reverse, w64}
use Rattle.std.proofs.Common.{to_z, arith, length-append, length-drop, length-take-le, take_all, ⊎_elim}
use Rattle.std.specs.Prelude.{◌≤ℤ◌, All, FitsSigned, IsTrue, ◌↔◌}
use Rattle.std.proofs.lemmas.Int.{ints, to_z_pos}
use Rattle.std.proofs.lemmas.List.{length-replicate, take_more, take-replicate, reverse-reverse}
use Rattle.std.proofs.lemmas.List.{append-nil, take-map, drop-map, length-map, same_from_push}
use Rattle.std.proofs.lemmas.Bool.{cases_lt}
use Rattle.std.proofs.lemmas.List.{nil_from_length}
use Rattle.std.proofs.Math.Nat.{mul_comm}
use Rattle.std.proofs.Math.Seq.{drop-append_seam, drop-append-add}
use Rattle.dsp_defs.proofs.Streaming.{last_of-append}
use Rattle.dsp_defs.specs.declared.format.Fmt.{Fmt}
use Rattle.dsp_defs.specs.Formats.{word}
use Rattle.dsp_defs.specs.Signal.{sample}
use Rattle.dsp_defs.specs.Shape.{live_frames}
use Rattle.dsp_defs.specs.Streaming.{last_of, rows}
use Rattle.dsp_defs.specs.Counts.{Counts}
use Rattle.dsp_unit.specs.Filter.{of_channel}
use Rattle.dsp_lanes.specs.Turns.{lane_turns, RisesWithin}
use Rattle.dsp_filter.proofs.LastPlace.{same-number}
use Rattle.dsp_window.specs.Rolling.{Rolling, last_samples}
use Rattle.dsp_window.proofs.Rolls.{length-last_samples}
use Rattle.dsp_window.proofs.Pushed.{past-after}
use Rattle.dsp_conv.specs.declared.extent.Extent.{Extent}
use Rattle.dsp_conv.specs.declared.extent.Extent.TheVariants.{Full, Within}
use Rattle.dsp_conv.specs.Extent.{block_of, place_in, place_after, greatest_place, start_in, stop_in, given_in}
use Rattle.dsp_conv.specs.Extent.{zeros_behind}
use Rattle.dsp_conv.specs.ConvState.{ConvState, StandsFor, CountsFor, TakesIn, Fits, kept, kept_of, new_conv}
use Rattle.dsp_conv.specs.ConvState.{tail_behind}
use Rattle.dsp_conv.proofs.ConvLemmas.{live-append, tail-is, tail-long, count-more, rows-long, rows-take, rows-skipped}
use Rattle.dsp_conv.proofs.ExtentLemmas.{no-place, place-more, kept-are}
use Rattle.dsp_conv.proofs.Inside.{IsConvolution}

-- ---- numbers

-- a place as it is written
pub place-written : (place : ℕ) → place < 2 ^ 63 → to_z w64 place ≡ pos place
place-written place fits = to_z_pos w64 place fits

-- no zeros behind no sample
pub zeros-some : (place t : ℕ) → 1 ≤ place → zeros_behind place t ≡ t - 1
zeros-some zero t some = absurd (omega (arith, some))
zeros-some (suc place) t some = refl

-- ---- the tail

pub owed : (format : Fmt) (e : Extent) (reversed past : List ℤ) (place behind start stop : ℕ) →
    behind ≡ zeros_behind place (length (reverse reversed)) →
    start ≡ start_in e place behind → stop ≡ stop_in e place behind →
    rows format reversed (drop start past) (stop - start) ≡ tail_behind format e (reverse reversed) past place
owed format e reversed past place behind start stop is_zeros is_start is_stop =
    let begins = is_start ∙ ap (start_in e place) is_zeros in
    let ends = is_stop ∙ ap (stop_in e place) is_zeros in
    ap₂ (λ s k. rows format reversed (drop s past) k) begins (ap₂ (λ p s. p - s) ends begins)
    ∙ ap (λ t. rows format t (drop (start_in e place (zeros_behind place (length (reverse reversed)))) past)
    (given_in e place (zeros_behind place (length (reverse reversed))))) (sym (reverse-reverse reversed))

-- ---- a call that takes samples

-- rows over the piece of a window that they need
pub rows-cut :
    {X : Type 0} (number : X → ℤ) (format : Fmt) (reversed window : List ℤ) (lent : List X) (start size n : ℕ) →
    map number lent ≡ window → n + length reversed ≤ size + 1 →
    rows format reversed (map number (take size (drop start lent))) n ≡
    rows format (reverse (reverse reversed)) (drop start window) n
rows-cut number format reversed window lent start size n shows room =
    ap (λ w. rows format reversed w n) (sym (take-map number size (drop start lent)) ∙
    ap (take size) (sym (drop-map number start lent) ∙ ap (drop start) shows))
    ∙ rows-take format reversed (drop start window) size n room
    ∙ ap (λ t. rows format t (drop start window) n) (sym (reverse-reverse reversed))

-- what rows cost, of so many taps and values
pub rows-cost : (L lent written : ℕ) {taps count : ℕ} {before after : Counts} →
    RisesWithin before after (lent * written) (lent * lane_turns L written) → lent ≡ taps → written ≡ count →
    RisesWithin before after (count * taps) (taps * lane_turns L count)
rows-cost L lent written {taps = taps} {count = count} {before = before} {after = after} rises is_lent is_written =
    rw (← is_lent, ← is_written, mul_comm written lent) rises

-- what it is with this past and place, once it owes what is behind them
abbrev owing : Fmt → Extent → List ℤ → ℕ → Bool → List ℤ → ℕ → ConvState
owing format e taps size ended past place = record {
  extent = e;
  taps = taps;
  past = past;
  place = place;
  tail = tail_behind format e taps past place;
  block = size;
  ended = ended;
}

module _ (format : Fmt) (e : Extent) (taps past : List ℤ) (place size : ℕ) (ended : Bool) (some : 0 < length taps)
    (running : ended ≡ false) where
  -- it stands for a signal of which it keeps the last samples and the place
  owing-stands : (y : List ℤ) → past ≡ last_of (length taps - 1) y → place ≡ place_in e (length y) →
      StandsFor format (owing format e taps size ended past place) y
  owing-stands y keeps is_place = record {
    running = running;
    past_is = keeps;
    place_is = is_place;
    tail_is = tail-is format e taps y place some is_place ∙
        ap (λ p. of_channel format (block_of e taps) y ++ tail_behind format e taps p place) (sym keeps);
  }

  owing-counts : (n : ℕ) → place ≡ place_in e n → CountsFor (owing format e taps size ended past place) n
  owing-counts n is_place = record {
    running = running;
    place_is = is_place;
    whole_is = tail-long format e taps past place n some is_place;
  }

-- the past and the place move on over a block, and what is wanted of it is given
pub took :
    (format : Fmt) {e : Extent} {taps past tail : List ℤ} {place size : ℕ} {ended : Bool} {old new : ConvState}
    (block out past' : List ℤ) (place' start stop m : ℕ) → record {
      extent = e;
      taps = taps;
      past = past;
      place = place;
      tail = tail;
      block = size;
      ended = ended;
    } ≡ old → IsConvolution old → new ≡ owing format e taps size ended past' place' → length block ≡ m →
    past' ≡ drop (length block) (past ++ block) → place' ≡ place_after e place m → start ≡ start_in e place m →
    stop ≡ stop_in e place m → out ≡ rows format (reverse taps) (drop start (past ++ block)) (stop - start) →
    TakesIn format old new block out m (stop - start)
took format {e = e} {taps = taps} {past = past} {tail = tail} {place = place} {size = size} {ended = ended} {new = new}
    block out past' place' start stop m view is owes long past_is place_is start_is stop_is out_is =
    let here = subst IsConvolution (sym view) is in
    let some : 0 < length taps = here.taps in
    let given : stop - start ≡ given_in e place m = ap₂ (λ p s. p - s) stop_is start_is in
    let value : ℕ → List ℤ → ℕ → List ℤ = λ s p k. rows format (reverse taps) (drop s (p ++ block)) k in
    subst (λ (c : ConvState). TakesIn format c new block out m (stop - start)) view
    (subst (λ (c : ConvState). TakesIn format (record {
      extent = e;
      taps = taps;
      past = past;
      place = place;
      tail = tail;
      block = size;
      ended = ended;
    }) c block out m (stop - start)) (sym owes)
    (record {
      count = λ n h. count-more e taps place n m some h.place_is ∙
          ap (λ k. live_frames (block_of e taps) n + k) (sym given);
      values = λ x h. live-append format e taps x block place some h.place_is ∙
          ap (λ l. of_channel format (block_of e taps) x ++ l)
          (ap (λ k. value (start_in e place k) (last_of (length taps - 1) x) (given_in e place k)) long
          ∙ ap (λ p. value (start_in e place m) p (given_in e place m)) (sym h.past_is)
          ∙ ap₂ (λ s k. value s past k) (sym start_is) (sym given)
          ∙ sym out_is);
      stands = λ x h. owing-stands format e taps past' place' size ended some h.running (x ++ block)
          (past_is ∙ ap (λ p. drop (length block) (p ++ block)) h.past_is ∙
          sym (last_of-append (length taps - 1) x block))
          (place_is ∙ place-more e place (length x) m h.place_is ∙
          ap (place_in e) (sym (length-append x block ∙ ap (λ k. length x + k) long)));
      counts = λ n h. owing-counts format e taps past' place' size ended some h.running (n + m)
          (place_is ∙ place-more e place n m h.place_is);
      same = refl;
      kept = omega (
        arith,
        ap length past_is,
        length-drop (length block) (past ++ block),
        length-append past block,
      );
    }))

-- the same where none is wanted
pub took-none :
    (format : Fmt) {e : Extent} {taps past tail : List ℤ} {place size : ℕ} {ended : Bool} {old new : ConvState}
    (block past' : List ℤ) (place' m : ℕ) → record {
      extent = e;
      taps = taps;
      past = past;
      place = place;
      tail = tail;
      block = size;
      ended = ended;
    } ≡ old → IsConvolution old → new ≡ owing format e taps size ended past' place' → length block ≡ m →
    past' ≡ drop (length block) (past ++ block) → place' ≡ place_after e place m →
    given_in old.extent old.place m ≡ 0 → TakesIn format old new block [] m 0
took-none format {e = e} {taps = taps} {past = past} {place = place} {old = old} {new = new} block past' place' m view
    is owes long past_is place_is none =
    let empty : given_in e place m ≡ 0 = ap (λ (c : ConvState). given_in c.extent c.place m) view ∙ none in
    subst (λ k. TakesIn format old new block [] m k) empty
    (took format block [] past' place' (start_in e place m) (stop_in e place m) m view is owes long past_is place_is
    refl refl (ap (rows format (reverse taps) (drop (start_in e place m) (past ++ block))) (sym empty)))

-- it keeps other numbers from now on
pub record Restored (format : Fmt) (old new : ConvState) (numbers : List ℤ) : Type 0 where
  pub kept : kept new ≡ numbers
  pub count : length new.past ≡ length old.past
  pub tail : new.tail ≡ tail_behind format old.extent old.taps new.past new.place
  pub stands : (x : List ℤ) → numbers ≡ kept_of format old.extent old.taps x → StandsFor format new x
  pub counts : (n : ℕ) → new.place ≡ place_in old.extent n → CountsFor new n
  pub same : new ≡ record old { past = new.past; place = new.place; tail = new.tail }

pub restored :
    (format : Fmt) {e : Extent} {taps past tail : List ℤ} {place size : ℕ} {ended : Bool} {old new : ConvState}
    (past' numbers : List ℤ) (place' : ℕ) → record {
      extent = e;
      taps = taps;
      past = past;
      place = place;
      tail = tail;
      block = size;
      ended = ended;
    } ≡ old → IsConvolution old → old.ended ≡ false → new ≡ owing format e taps size ended past' place' →
    length past' ≡ length old.past → past' ++ pos place' ∷ [] ≡ numbers → Restored format old new numbers
restored format {e = e} {taps = taps} {past = past} {tail = tail} {place = place} {size = size} {ended = ended}
    {old = old} {new = new} past' numbers place' view is runs owes long is_kept =
    let some : 0 < length taps = (subst IsConvolution (sym view) is).taps in
    let running : ended ≡ false = ap (λ (c : ConvState). c.ended) view ∙ runs in
    let same : length past' ≡ length past = long ∙ ap (λ (c : ConvState). length c.past) (sym view) in
    subst (λ (c : ConvState). Restored format c new numbers) view
    (subst (λ (c : ConvState). Restored format (record {
      extent = e;
      taps = taps;
      past = past;
      place = place;
      tail = tail;
      block = size;
      ended = ended;
    }) c numbers) (sym owes)
    (record {
      kept = is_kept;
      count = same;
      tail = refl;
      stands = λ x of.
          let parts = same_from_push past' (last_of (length taps - 1) x) (pos place') (pos (place_in e (length x)))
          (is_kept ∙ of ∙ kept-are e format taps x) in
          owing-stands format e taps past' place' size ended some running x parts.0
          (same-number place' (place_in e (length x)) parts.1);
      counts = λ n at. owing-counts format e taps past' place' size ended some running n at;
      same = refl;
    }))

-- a convolution that has taken nothing
pub new-stands : (format : Fmt) (e : Extent) (taps : List ℤ) (block : ℕ) → 0 < length taps →
    StandsFor format (new_conv e taps block) []
new-stands format e taps block some = record {
  running = refl;
  past_is = sym (append-nil (replicate (length taps - 1) (pos 0)));
  place_is = sym (no-place e);
  tail_is = tail-is format e taps [] 0 some (sym (no-place e)) ∙
      ap (λ l. of_channel format (block_of e taps) [] ++ l)
      (nil_from_length (tail_behind format e taps (last_of (length taps - 1) []) 0) (nothing e));
}
  where
    none : (first count : ℕ) → given_in (Within first count) 0 0 ≡ 0
    none first count = omega arith

    nothing : (e : Extent) → length (tail_behind format e taps (last_of (length taps - 1) []) 0) ≡ 0
    nothing Full = rows-long format (reverse taps) (drop 0 (last_of (length taps - 1) [])) 0
    nothing (Within first count) = rows-long format (reverse taps)
        (drop (start_in (Within first count) 0 0) (last_of (length taps - 1) [])) (given_in (Within first count) 0 0) ∙
        none first count

-- ---- the window

-- zeros of a list of them
pub zeros-front : {X : Type 0} → (number : X → ℤ) (count past : ℕ) (zs : List X) →
    map number zs ≡ replicate past (pos 0) → count ≤ past → map number (take count zs) ≡ replicate count (pos 0)
zeros-front number count past zs are within = sym (take-map number count zs) ∙ ap (take count) are ∙
    take-replicate count past (pos 0) within

-- zeros that pass over the values that are not wanted
pub passed-over : (format : Fmt) (taps past behind block : List ℤ) (skip left : ℕ) → block ≡ replicate skip (pos 0) →
    behind ≡ drop (length block) (past ++ block) → rows format taps (drop skip past) left ≡ rows format taps behind left
passed-over format taps past behind block skip left zeros is =
    let long : length block ≡ skip = ap length zeros ∙ length-replicate skip (pos 0) in
    rows-skipped format taps past skip left ∙ ap (λ w. rows format taps w left)
    (ap₂ (λ n z. drop n (past ++ z)) (sym long) (sym zeros) ∙ sym is)

-- ---- kept numbers

-- the test of kept numbers, in its parts
pub fits-is :
    (format : Fmt) (c : ConvState) (numbers : List ℤ) (last : ℕ) (there : Bool) → last ≡ length c.past →
    length numbers ≡ last + 1 → pos 0 ≤ℤ sample numbers last →
    sample numbers last ≤ℤ pos (greatest_place c.extent) →
    (IsTrue there ↔ (length (take last numbers) ≡ last) × All (FitsSigned (word format)) (take last numbers)) →
    (IsTrue there ↔ Fits format c numbers)
fits-is format c numbers last there is whole low high test =
    let long : length (take last numbers) ≡ last = length-take-le last numbers (omega (arith, whole)) in (
      λ yes. record {
        count = omega (arith, whole, is);
        samples = subst (λ k. All (FitsSigned (word format)) (take k numbers)) is (test.0 yes).1;
        low = subst (λ k. pos 0 ≤ℤ sample numbers k) is low;
        high = subst (λ k. sample numbers k ≤ℤ pos (greatest_place c.extent)) is high;
      },
      λ fits. test.1 (long, subst (λ k. All (FitsSigned (word format)) (take k numbers)) (sym is) fits.samples),
    )

-- and the parts of kept numbers, of which the last is a place
pub record IsKept (format : Fmt) (c : ConvState) (numbers : List ℤ) (last : ℕ) : Type 0 where
  pub whole : length numbers ≡ last + 1
  pub long : length (take last numbers) ≡ length c.past
  pub fit : All (FitsSigned (word format)) (take last numbers)
  pub low : pos 0 ≤ℤ sample numbers last
  pub parts : (place : ℕ) → pos place ≡ sample numbers last → take last numbers ++ pos place ∷ [] ≡ numbers
  pub within : (place : ℕ) → pos place ≡ sample numbers last → place ≤ greatest_place c.extent

pub is-kept : (format : Fmt) (c : ConvState) (numbers : List ℤ) (last : ℕ) → Fits format c numbers →
    last ≡ length numbers - 1 → IsKept format c numbers last
is-kept format c numbers last fits is =
    let at : length c.past ≡ last = omega (arith, fits.count, is) in
    let whole : length numbers ≡ last + 1 = omega (arith, fits.count, is) in
    let high = subst (λ k. sample numbers k ≤ℤ pos (greatest_place c.extent)) at fits.high in
    record {
      whole = whole;
      long = length-take-le last numbers (omega (arith, whole)) ∙ sym at;
      fit = subst (λ k. All (FitsSigned (word format)) (take k numbers)) at fits.samples;
      low = subst (λ k. pos 0 ≤ℤ sample numbers k) at fits.low;
      parts = λ place read. ap (λ z. take last numbers ++ z ∷ []) read ∙
          sym (take_more numbers last (pos 0) (omega (arith, whole))) ∙
          take_all (last + 1) numbers (omega (arith, whole));
      within = λ place read. let below : pos place ≤ℤ pos (greatest_place c.extent) =
          subst (λ z. z ≤ℤ pos (greatest_place c.extent)) (sym read) high in omega (arith, ints, below);
    }

-- ---- a block of which no value is given

-- it may leave out what lies before the last samples that a window keeps
last-behind : (past block : List ℤ) (from : ℕ) → from ≡ length block - length past →
    drop (length (drop from block)) (past ++ drop from block) ≡ drop (length block) (past ++ block)
last-behind past block from is =
    ⊎_elim
    (λ (long : length past < length block).
    let rest : length (drop from block) ≡ length past = omega (arith, length-drop from block, is, long) in
    let all : length block ≡ length past + from = omega (arith, is, long) in
    ap (λ n. drop n (past ++ drop from block)) rest ∙ drop-append_seam past (drop from block) ∙
    sym (ap (λ n. drop n (past ++ block)) all ∙ drop-append-add past block from))
    (λ (short : length block ≤ length past).
    let none : from ≡ 0 = omega (arith, is, short) in
    ap (λ n. drop (length (drop n block)) (past ++ drop n block)) none)
    (cases_lt (length past) (length block))

-- a window that took only its last samples has the past that it would have behind all of it
pub passed-past :
    {X : Type 0} → (number : X → ℤ) (old new : Rolling) (input : List X) (from : ℕ) →
    new ≡ record old {
      samples = last_samples old.past old.samples ++ map number (take (length input - from) (drop from input));
    } →
    old.past ≤ length old.samples → from ≡ length input - old.past →
    last_samples new.past new.samples ≡
    drop (length (map number input)) (last_samples old.past old.samples ++ map number input)
passed-past number old new input from rolls filled is =
    let past = last_samples old.past old.samples in
    let block = map number input in
    let long : length block ≡ length input = length-map input number in
    let all : take (length input - from) (drop from input) ≡ drop from input =
    take_all (length input - from) (drop from input) (omega (arith, length-drop from input)) in
    let kept : map number (take (length input - from) (drop from input)) ≡ drop from block =
    ap (map number) all ∙ sym (drop-map number from input) in
    past-after old new (map number (take (length input - from) (drop from input))) rolls filled
    ∙ ap (λ b. drop (length b) (past ++ b)) kept
    ∙ last-behind past block from (omega (arith, is, long, length-last_samples old.past old.samples filled))
