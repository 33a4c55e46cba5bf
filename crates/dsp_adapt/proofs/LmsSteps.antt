-- A step of an LMS filter, over the window of its past and a block.
use Rattle.std.proofs.Common.{◌≡◌, ◌∙◌, ap, ap₂, sym, subst, refl, ℕ, suc, ◌+◌, ◌-◌, ◌*◌, ◌<◌, ◌≤◌, ℤ, pos, ◌*ℤ◌}
use Rattle.std.proofs.Common.{◌-ℤ◌, List, [], ◌∷◌, ◌++◌, length, map, reverse, take, drop, set, arith, length-append}
use Rattle.std.proofs.Common.{length-take-le, append_assoc, take_all}
use Rattle.std.proofs.lemmas.List.{take_more, take-append-drop, get_or-take, get_or-reverse, length-reverse}
use Rattle.std.proofs.lemmas.List.{length-map, map-append, reverse-reverse, get_or-drop}
use Rattle.std.proofs.lemmas.List.{take_more_set, append-nil, length-take, length-drop}
use Rattle.std.proofs.lemmas.Simd.{map-map}
use Rattle.std.specs.List.{range_with_len}
use Rattle.dsp_defs.specs.declared.format.Fmt.{Fmt}
use Rattle.dsp_defs.specs.Formats.{word}
use Rattle.dsp_defs.specs.Numbers.{wrap}
use Rattle.dsp_defs.specs.Adaptive.{Adapted, lms, lms_close, lms_output, adapted, step_size, weight_after}
use Rattle.dsp_defs.specs.Adaptive.{weights_before, outputs_of, errors_of}
use Rattle.dsp_defs.specs.Signal.{sample, delayed, values, sum_below}
use Rattle.dsp_defs.specs.Streaming.{last_of}
use Rattle.dsp_defs.proofs.Signal.{values_cong, values-add, sum_below_reversed, delayed-append, sample-reverse}
use Rattle.dsp_defs.proofs.Signal.{reverse-values}
use Rattle.dsp_defs.proofs.Streaming.{window_at}
use Rattle.dsp_defs.proofs.BlockLaws.{length-values}
use Rattle.dsp_defs.proofs.SumLemmas.{same_numbers}
use Rattle.dsp_defs.proofs.Causal.{map-reverse}
use Rattle.dsp_unit.proofs.ChannelFrames.{values-of, sample-values}
use Rattle.dsp_unit.proofs.GoingOn.{outputs-next, reverse-more}
use Rattle.dsp_defs.specs.Counts.{Counts}
use Rattle.dsp_lanes.specs.Turns.{RisesWithin}
use Rattle.dsp_unit.proofs.ChannelKept.{append-apart}
use Rattle.dsp_defs.specs.Kept.{lms_kept}
use Rattle.dsp_window.specs.Rolling.{Rolling, last_samples}
use Rattle.dsp_window.proofs.Pushed.{shows-after}
use Rattle.dsp_window.proofs.Rolls.{length-last_of}
use Rattle.std.specs.Prelude.{All}
use Rattle.dsp_adapt.specs.LmsState.{Adapts, LmsState, StandsFor, first_pairs, inputs_of, kept, pairs, weights_after}

-- ---- pairs

pairs-more : (i : ℕ) (inputs references : List ℤ) →
    first_pairs (i + 1) inputs references ≡ first_pairs i inputs references ++ (sample inputs i, sample references i) ∷
    []
pairs-more i inputs references =
    let pair : ℕ → ℤ × ℤ = λ k. (sample inputs k, sample references k) in
    let here : i + 0 ≡ i = omega arith in
    values-add i 1 pair ∙ ap (λ k. values i pair ++ pair k ∷ []) here

inputs-first : (i : ℕ) (inputs references : List ℤ) → i ≤ length inputs →
    inputs_of (first_pairs i inputs references) ≡ take i inputs
inputs-first i inputs references within =
    map-map (λ (s : ℤ × ℤ). s.0) (λ k. (sample inputs k, sample references k)) (range_with_len 0 i)
    ∙ values_cong i (sample inputs) (sample (take i inputs)) (λ k h. sym (get_or-take i inputs k (pos 0) h))
    ∙ values-of (take i inputs) i (length-take-le i inputs within)

-- ---- a step

module _ (format : Fmt) (p : ℕ) (mu : ℤ) (taps : List ℤ) (x : List (ℤ × ℤ)) (inputs references : List ℤ) (i : ℕ)
    (inside : i < length inputs) where
  -- the inputs up to the newest, which stands first
  history : List ℤ
  history = map (λ (s : ℤ × ℤ). s.0) ((sample inputs i, sample references i) ∷ reverse
      (x ++ first_pairs i inputs references))

  history-is : history ≡ reverse (inputs_of x ++ take (i + 1) inputs)
  unfolding history
  history-is =
      let a = sample inputs i in
      let before : inputs_of (x ++ first_pairs i inputs references) ≡ inputs_of x ++ take i inputs =
      map-append (λ (s : ℤ × ℤ). s.0) x (first_pairs i inputs references) ∙
      ap (λ l. inputs_of x ++ l) (inputs-first i inputs references (omega arith)) in
      let more : inputs_of x ++ take (i + 1) inputs ≡ (inputs_of x ++ take i inputs) ++ a ∷ [] =
      ap (λ l. inputs_of x ++ l) (take_more inputs i (pos 0) inside) ∙
      sym (append_assoc (inputs_of x) (take i inputs) (a ∷ [])) in
      ap (λ l. a ∷ l) (map-reverse (λ (s : ℤ × ℤ). s.0) (x ++ first_pairs i inputs references) ∙ ap reverse before)
      ∙ sym (reverse-more (inputs_of x ++ take i inputs) a)
      ∙ ap reverse (sym more)

  -- a sample of the window is one of them
  seen : (j : ℕ) → j < length taps → sample (last_of (length taps - 1) (inputs_of x) ++ inputs) (i + j) ≡ sample
      history (length taps - suc j)
  seen j below =
      let k = length taps - suc j in
      let front = inputs_of x ++ take (i + 1) inputs in
      let n = length (inputs_of x) + i in
      let long : length front ≡ suc n = omega (
        arith,
        length-append (inputs_of x) (take (i + 1) inputs),
        length-take-le (i + 1) inputs (omega arith),
      ) in
      let whole : inputs_of x ++ inputs ≡ front ++ drop (i + 1) inputs =
      ap (λ l. inputs_of x ++ l) (sym (take-append-drop (i + 1) inputs)) ∙
      sym (append_assoc (inputs_of x) (take (i + 1) inputs) (drop (i + 1) inputs)) in
      window_at (inputs_of x) inputs (length taps - 1) i j k (omega arith)
      ∙ ap (λ l. delayed l n k) whole
      ∙ delayed-append front (drop (i + 1) inputs) n k (omega arith)
      ∙ sym (sample-reverse front n k long)
      ∙ ap (λ h. sample h k) (sym history-is)

  module _ (weights piece : List ℤ) (count : ℕ) (all : count ≡ length taps) (size : length weights ≡ length taps)
      (reads : (j : ℕ) → j < length taps → sample piece j ≡ sample (last_of (length taps - 1) (inputs_of x) ++ inputs)
      (i + j)) where
    -- the weights in the other order
    natural : List ℤ
    natural = weights_before (reverse taps) (reverse (lms format p mu taps (x ++ first_pairs i inputs references)))

    -- what the definition gives
    now : Adapted
    now = adapted format p mu natural history (sample references i)

    weight-at : weights ≡ reverse natural → (j : ℕ) → j < length taps →
        sample weights j ≡ sample natural (length taps - suc j)
    weight-at is j below =
        let long : length natural ≡ length taps = sym (length-reverse natural) ∙ sym (ap length is) ∙ size in
        let place : length natural - 1 - j ≡ length taps - suc j = omega arith in
        ap (λ l. sample l j) is ∙ get_or-reverse natural j (pos 0) (omega arith) ∙ ap (sample natural) place

    piece-at : (j : ℕ) → j < length taps → sample piece j ≡ sample history (length taps - suc j)
    piece-at j below = reads j below ∙ seen j below

    output-is : weights ≡ reverse natural → (y : ℤ) → y ≡ lms_close format p
        (sum_below count (λ j. sample weights j *ℤ sample piece j)) → y ≡ now.output
    unfolding now
    output-is is y closed =
        let long : length natural ≡ length taps = sym (length-reverse natural) ∙ sym (ap length is) ∙ size in
        let summed : sum_below (length taps) (λ k. sample natural k *ℤ sample history k) ≡ sum_below (length taps)
        (λ j. sample weights j *ℤ sample piece j) =
        sum_below_reversed (length taps) (λ k. sample natural k *ℤ sample history k)
        (λ j. sample weights j *ℤ sample piece j)
        (λ j h. ap₂ (λ a b. a *ℤ b) (weight-at is j h) (piece-at j h)) in
        closed
        ∙ ap (λ n. lms_close format p (sum_below n (λ j. sample weights j *ℤ sample piece j))) all
        ∙ ap (lms_close format p) (sym summed)
        ∙ ap (λ n. lms_close format p (sum_below n (λ k. sample natural k *ℤ sample history k))) (sym long)

    error-is : (y e : ℤ) → y ≡ now.output → e ≡ wrap (word format) (sample references i -ℤ y) → e ≡ now.error
    unfolding now
    error-is y e output wrapped = wrapped ∙ ap (λ v. wrap (word format) (sample references i -ℤ v)) output

    weights-are : weights ≡ reverse natural → (e : ℤ) (new : List ℤ) → e ≡ now.error →
        new ≡ values count (λ j. weight_after format (step_size format mu e) (sample weights j) (sample piece j)) →
        new ≡ reverse now.weights
    unfolding now
    weights-are is e new error updated =
        let long : length natural ≡ length taps = sym (length-reverse natural) ∙ sym (ap length is) ∙ size in
        let alpha = step_size format mu now.error in
        updated
        ∙ ap₂ (λ n v. values n (λ j. weight_after format (step_size format mu v) (sample weights j) (sample piece j)))
        all error
        ∙ sym (reverse-values (length taps) (λ k. weight_after format alpha (sample natural k) (sample history k))
        (λ j. weight_after format alpha (sample weights j) (sample piece j))
        (λ j h. ap₂ (weight_after format alpha) (weight-at is j h) (piece-at j h)))
        ∙ ap (λ n. reverse (values n (λ k. weight_after format alpha (sample natural k) (sample history k)))) (sym long)

    -- one more sample
    lms-more : lms format p mu taps (x ++ first_pairs (i + 1) inputs references) ≡ lms format p mu taps
        (x ++ first_pairs i inputs references) ++ now ∷ []
    unfolding now natural history
    lms-more =
        let pair : ℤ × ℤ = (sample inputs i, sample references i) in
        ap (λ l. lms format p mu taps (x ++ l)) (pairs-more i inputs references)
        ∙ ap (lms format p mu taps) (sym (append_assoc x (first_pairs i inputs references) (pair ∷ [])))
        ∙ outputs-next (lms_output format p mu (reverse taps)) (x ++ first_pairs i inputs references) pair _ refl

    pub lms-step :
        (new us vs : List ℤ) (y e : ℤ) →
        y ≡ lms_close format p (sum_below count (λ j. sample weights j *ℤ sample piece j)) →
        e ≡ wrap (word format) (sample references i -ℤ y) →
        new ≡ values count (λ j. weight_after format (step_size format mu e) (sample weights j) (sample piece j)) →
        Adapts format p mu taps x (first_pairs i inputs references) weights us vs →
        Adapts format p mu taps x (first_pairs (i + 1) inputs references) new (us ++ y ∷ []) (vs ++ e ∷ [])
    unfolding natural
    lms-step new us vs y e closed wrapped updated so_far =
        let before = lms format p mu taps (x ++ first_pairs i inputs references) in
        let output : y ≡ now.output = output-is so_far.weights_are y closed in
        let error : e ≡ now.error = error-is y e output wrapped in
        record {
          weights_are =
              weights-are so_far.weights_are e new error updated
              ∙ ap (λ l. reverse (weights_before (reverse taps) l))
              (sym (ap reverse lms-more ∙ reverse-more before now));
          outputs_are =
              ap (map outputs_of) lms-more ∙ map-append outputs_of before (now ∷ [])
              ∙ ap₂ (λ l v. l ++ v ∷ []) so_far.outputs_are (sym output)
              ∙ append_assoc (map outputs_of (lms format p mu taps x)) us (y ∷ []);
          errors_are =
              ap (map errors_of) lms-more ∙ map-append errors_of before (now ∷ [])
              ∙ ap₂ (λ l v. l ++ v ∷ []) so_far.errors_are (sym error)
              ∙ append_assoc (map errors_of (lms format p mu taps x)) vs (e ∷ []);
        }

-- ---- slices

-- one more element that was written
pub written-more : {X : Type 0} → (number : X → ℤ) (out : List X) (i : ℕ) (v : X) → i < length out →
    map number (take (i + 1) (set out i v)) ≡ map number (take i out) ++ number v ∷ []
written-more number out i v room = ap (map number) (take_more_set out i v room) ∙
    map-append number (take i out) (v ∷ [])

-- one more sample is counted
pub sample-counted : (a b c : Counts) (i n m : ℕ) → n ≡ m → RisesWithin a b (i * m) (i * m) → RisesWithin b c n n →
    RisesWithin a c ((i + 1) * m) ((i + 1) * m)
sample-counted a b c i n m same first second =
    let products : (i + 1) * m ≡ i * m + m = omega arith in
    record {
      multiplies_rise = omega (arith, products);
      turns_within = omega (arith, products);
    }

-- a list that was read from its end
pub reversed-is : (xs : List ℤ) → values (length xs) (λ k. sample xs (length xs - 1 - k)) ≡ reverse xs
reversed-is xs =
    let at : ℕ → ℤ = λ k. sample xs (length xs - 1 - k) in
    let long : length (values (length xs) at) ≡ length xs = length-values (length xs) at in
    same_numbers (values (length xs) at) (reverse xs) (long ∙ sym (length-reverse xs))
    (λ k h. let below : k < length xs = omega (arith, h, long) in
    sample-values (length xs) at k below ∙ sym (get_or-reverse xs k (pos 0) below))

-- ---- kept numbers

pub all-take : {A : Type 0} (P : A → Type 0) (xs : List A) (n : ℕ) → All P xs → All P (take n xs)
all-take P xs n all = λ k d h.
    let size = length-take n xs in
    subst P (sym (get_or-take n xs k d (omega (arith, h, size)))) (all k d (omega (arith, h, size)))

pub all-drop : {A : Type 0} (P : A → Type 0) (xs : List A) (n : ℕ) → All P xs → All P (drop n xs)
all-drop P xs n all = λ k d h. subst P (sym (get_or-drop n xs k d)) (all (n + k) d (omega (arith, h, length-drop n xs)))

-- what was read from numbers is kept
pub restored-kept : (old new : Rolling) (numbers weights : List ℤ) →
    new ≡ record old { samples = take old.past numbers } → old.past ≤ length numbers →
    weights ≡ reverse (drop old.past numbers) →
    last_samples new.past new.samples ++ reverse weights ≡ numbers
restored-kept old new numbers weights window within is =
    let none : length (take old.past numbers) - old.past ≡ 0 = omega (arith, length-take-le old.past numbers within) in
    ap₂ (λ (w : Rolling) v. last_samples w.past w.samples ++ reverse v) window is
    ∙ ap₂ (λ n l. drop n (take old.past numbers) ++ l) none (reverse-reverse (drop old.past numbers))
    ∙ take-append-drop old.past numbers

-- a filter that keeps what is kept of a signal stands for it
pub kept-stands : (format : Fmt) (s : LmsState) (numbers : List ℤ) (x : List (ℤ × ℤ)) →
    length s.past ≡ length s.taps - 1 → kept s ≡ numbers → numbers ≡ lms_kept format s.post_shift s.mu s.taps x →
    StandsFor format s x
kept-stands format s numbers x size keeps is =
    let parts = append-apart s.past (last_of (length s.taps - 1) (inputs_of x)) (reverse s.weights)
    (weights_before (reverse s.taps) (reverse (lms format s.post_shift s.mu s.taps x)))
    (size ∙ sym (length-last_of (length s.taps - 1) (inputs_of x))) (keeps ∙ is) in
    record {
      past_is = parts.0;
      weights_are = sym (reverse-reverse s.weights) ∙ ap reverse parts.1;
    }

-- ---- a block

begins : (format : Fmt) (p : ℕ) (mu : ℤ) (taps : List ℤ) (x : List (ℤ × ℤ)) (weights : List ℤ) →
    weights ≡ weights_after format p mu taps x → Adapts format p mu taps x [] weights [] []
begins format p mu taps x weights is = record {
  weights_are = is ∙ ap (weights_after format p mu taps) (sym (append-nil x));
  outputs_are = ap (λ l. map outputs_of (lms format p mu taps l)) (append-nil x) ∙
      sym (append-nil (map outputs_of (lms format p mu taps x)));
  errors_are = ap (λ l. map errors_of (lms format p mu taps l)) (append-nil x) ∙
      sym (append-nil (map errors_of (lms format p mu taps x)));
}

pub inputs-more : (x : List (ℤ × ℤ)) (inputs references : List ℤ) →
    inputs_of (x ++ pairs inputs references) ≡ inputs_of x ++ inputs
inputs-more x inputs references =
    map-append (λ (s : ℤ × ℤ). s.0) x (pairs inputs references)
    ∙ ap (λ l. inputs_of x ++ l) (inputs-first (length inputs) inputs references (omega arith) ∙
    take_all (length inputs) inputs (omega arith))

-- what a call over the window of a block gives and keeps, where the filter stood for x
pub block-adapts :
    {X : Type 0} (number : X → ℤ) (format : Fmt) (p : ℕ) (mu : ℤ) (taps weights lent seen : List X)
    (old new : Rolling) (inputs references : List ℤ) (after outs errs : List ℤ) (x : List (ℤ × ℤ)) →
    lent ≡ weights → length weights ≡ length taps → length inputs ≡ length references →
    new ≡ record old { samples = last_samples old.past old.samples ++ inputs } → map number seen ≡ new.samples →
    last_samples old.past old.samples ≡ last_of (length (map number taps) - 1) (inputs_of x) →
    map number weights ≡ weights_after format p mu (map number taps) x →
    ((taps' inputs' : List ℤ) (x' : List (ℤ × ℤ)) → length taps' ≡ length lent → length inputs' ≡ length references →
    map number seen ≡ last_of (length taps' - 1) (inputs_of x') ++ inputs' →
    Adapts format p mu taps' x' [] (map number lent) [] [] →
    Adapts format p mu taps' x' (pairs inputs' references) after outs errs) →
    Adapts format p mu (map number taps) x (pairs inputs references) after outs errs
block-adapts number format p mu taps weights lent seen old new inputs references after outs errs x is_lent size long
    rolls shown past stood given =
    given (map number taps) inputs x (length-map taps number ∙ sym size ∙ sym (ap length is_lent)) long
    (shown ∙ shows-after old new (length (map number taps) - 1) (inputs_of x) inputs rolls past)
    (begins format p mu (map number taps) x (map number lent) (ap (map number) is_lent ∙ stood))
