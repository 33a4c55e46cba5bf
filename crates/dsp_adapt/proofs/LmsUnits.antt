-- Units of LMS filters.
use Rattle.std.proofs.Common.{◌≡◌, ◌∙◌, ap, ap₂, sym, refl, subst, ℕ, ◌+◌, ◌-◌, ◌*◌, ◌/◌, ◌<◌, ◌≤◌, ◌≢◌, ℤ, pos, Bool}
use Rattle.std.proofs.Common.{false, List, [], ◌∷◌, ◌++◌, length, map, reverse, set, arith, length-append, length-set}
use Rattle.std.proofs.Common.{get_or-set_same, below_more, length-take-le}
use Rattle.std.specs.Prelude.{All, FitsSigned}
use Rattle.std.proofs.lemmas.List.{append-nil, length-map, map-append, same_lists, get_or-map, get_or-set_other}
use Rattle.std.proofs.lemmas.List.{reverse-reverse, length-reverse, length-replicate}
use Rattle.std.proofs.lemmas.List.FromFn.{get_or-map-range_with_len}
use Rattle.dsp_defs.specs.Adaptive.{Adapted, lms, outputs_of, errors_of}
use Rattle.dsp_defs.specs.Block.{Frame, frames_in, input_pairs, pair_frame}
use Rattle.dsp_defs.specs.Counts.{Counts}
use Rattle.dsp_defs.specs.Formats.{word}
use Rattle.dsp_defs.specs.Signal.{sample, values}
use Rattle.dsp_defs.specs.Streaming.{Continues}
use Rattle.dsp_defs.specs.declared.format.Fmt.{Fmt}
use Rattle.dsp_defs.specs.declared.script.Block.TheVariants.{Lms}
use Rattle.dsp_defs.proofs.BlockLaws.{length-values, lms_causal}
use Rattle.dsp_defs.proofs.FrameLemmas.{length-frames_in}
use Rattle.dsp_defs.proofs.Signal.{values_cong}
use Rattle.dsp_defs.proofs.Causal.{map-values}
use Rattle.dsp_defs.proofs.KeptLaws.{in_words-place}
use Rattle.dsp_defs.specs.Kept.{Each, Fits, IsOfKind, in_words, lms_kept}
use Rattle.dsp_unit.specs.Unit.{MadeAs, CountsFrames, Feeds, IsNew, IsOutput, Restores}
use Rattle.dsp_unit.specs.Unit as Units
use Rattle.dsp_unit.proofs.ChannelKept.{append-apart}
use Rattle.dsp_unit.proofs.ChannelFrames.{sample-values}
use Rattle.dsp_defs.specs.declared.script.Block.{Block}
use Rattle.dsp_adapt.specs.LmsState.{LmsState, new_lms, StandsFor, kept, lms_outputs, lms_errors, pairs}
use Rattle.dsp_adapt.specs.LmsUnit.{lms_frames, unit_of_lms}
use Rattle.dsp_adapt.proofs.LmsSteps.{kept-stands}

-- ---- frames of two channels

module _ (out : List ℤ) (n : ℕ) (a b : ℤ) (room : n * 2 + 1 < length out) where
  before-pair : (k : ℕ) → k < n * 2 → sample (set (set out (n * 2) a) (n * 2 + 1) b) k ≡ sample out k
  before-pair k h =
      let first : k ≢ n * 2 = omega arith in
      let second : k ≢ n * 2 + 1 = omega arith in
      get_or-set_other (set out (n * 2) a) (n * 2 + 1) k b (pos 0) second ∙
      get_or-set_other out (n * 2) k a (pos 0) first

  pair-first : sample (set (set out (n * 2) a) (n * 2 + 1) b) (n * 2) ≡ a
  pair-first =
      let other : n * 2 ≢ n * 2 + 1 = omega arith in
      get_or-set_other (set out (n * 2) a) (n * 2 + 1) (n * 2) b (pos 0) other ∙
      get_or-set_same out (n * 2) a (pos 0) (omega arith)

  pair-second : sample (set (set out (n * 2) a) (n * 2 + 1) b) (n * 2 + 1) ≡ b
  pair-second = get_or-set_same (set out (n * 2) a) (n * 2 + 1) b (pos 0) (omega (arith, length-set out (n * 2) a))

  -- one more frame that was written
  pub left-more : (f : ℕ → ℤ) → ((k : ℕ) → k < n → sample out (k * 2) ≡ f k) → a ≡ f n → (k : ℕ) → k < n + 1 →
      sample (set (set out (n * 2) a) (n * 2 + 1) b) (k * 2) ≡ f k
  left-more f done is = below_more _ n (λ k h. before-pair (k * 2) (omega arith) ∙ done k h) (pair-first ∙ is)

  pub right-more : (f : ℕ → ℤ) → ((k : ℕ) → k < n → sample out (k * 2 + 1) ≡ f k) → b ≡ f n → (k : ℕ) → k < n + 1 →
      sample (set (set out (n * 2) a) (n * 2 + 1) b) (k * 2 + 1) ≡ f k
  right-more f done is = below_more _ n (λ k h. before-pair (k * 2 + 1) (omega arith) ∙ done k h) (pair-second ∙ is)

  pub both-fit : (P : ℤ → Type 0) → ((k : ℕ) → k < n * 2 → P (sample out k)) → P a → P b → (k : ℕ) → k < (n + 1) * 2 →
      P (sample (set (set out (n * 2) a) (n * 2 + 1) b) k)
  both-fit P done first second k h =
      let next : n * 2 + 1 + 1 ≡ (n + 1) * 2 = omega arith in
      below_more _ (n * 2 + 1)
      (below_more _ (n * 2) (λ j under. subst P (sym (before-pair j under)) (done j under))
      (subst P (sym pair-first) first))
      (subst P (sym pair-second) second)
      k (omega (arith, next))

pub frames-two : (n : ℕ) (samples : List ℤ) (f : ℕ → Frame) → length samples ≡ n * 2 →
    ((k : ℕ) → k < n → f k ≡ sample samples (k * 2) ∷ sample samples (k * 2 + 1) ∷ []) →
    frames_in 2 samples ≡ values n f
unfolding frames_in
frames-two n samples f whole each =
    let count : length samples / 2 ≡ n = omega (arith, whole) in
    ap (λ m. values m (λ k. values 2 (λ c. sample samples (k * 2 + c)))) count
    ∙ values_cong n (λ k. values 2 (λ c. sample samples (k * 2 + c))) f
    (λ k h. let here : k * 2 + 0 ≡ k * 2 = omega arith in
    ap (λ m. sample samples m ∷ sample samples (k * 2 + 1) ∷ []) here ∙ sym (each k h))

-- the pairs of frames
pub pairs-of : (n : ℕ) (frames inputs references : List ℤ) → length frames ≡ n * 2 →
    inputs ≡ values n (λ k. sample frames (k * 2)) → references ≡ values n (λ k. sample frames (k * 2 + 1)) →
    input_pairs (frames_in 2 frames) ≡ pairs inputs references
pairs-of n frames inputs references whole left right =
    let long : length inputs ≡ n = ap length left ∙ length-values n (λ k. sample frames (k * 2)) in
    ap input_pairs (frames-two n frames (λ k. sample frames (k * 2) ∷ sample frames (k * 2 + 1) ∷ []) whole
    (λ k h. refl))
    ∙ map-values (λ (f : Frame). (sample f 0, sample f 1)) 0 n
    (λ k. sample frames (k * 2) ∷ sample frames (k * 2 + 1) ∷ [])
    ∙ values_cong n (λ k. (sample frames (k * 2), sample frames (k * 2 + 1)))
    (λ k. (sample inputs k, sample references k))
    (λ k h. ap₂ (λ (a b : ℤ). (a, b))
    (sym (ap (λ l. sample l k) left ∙ sample-values n (λ k. sample frames (k * 2)) k h))
    (sym (ap (λ l. sample l k) right ∙ sample-values n (λ k. sample frames (k * 2 + 1)) k h)))
    ∙ ap (λ m. values m (λ k. (sample inputs k, sample references k))) (sym long)

-- frames of what was given
pub frames-given :
    (format : Fmt) (s : LmsState) (x more : List (ℤ × ℤ)) (outs errs : List ℤ) (n : ℕ) → length outs ≡ n →
    Continues (lms_outputs format s) x more outs → Continues (lms_errors format s) x more errs →
    Continues (lms_frames format s) x more (values n (λ k. pair_frame (sample outs k, sample errs k)))
frames-given format s x more outs errs n size outputs errors =
    let before = lms format s.post_shift s.mu s.taps x in
    let (later, e) = lms_causal format s.post_shift s.mu s.taps x more in
    let frame : Adapted → Frame = λ a. a.output ∷ a.error ∷ [] in
    let f : ℕ → Frame = λ k. pair_frame (sample outs k, sample errs k) in
    let left : map outputs_of later ≡ outs =
    (append-apart (map outputs_of before) (map outputs_of before) (map outputs_of later) outs refl
    (sym (map-append outputs_of before later) ∙ ap (map outputs_of) (sym e) ∙ outputs)).1 in
    let right : map errors_of later ≡ errs =
    (append-apart (map errors_of before) (map errors_of before) (map errors_of later) errs refl
    (sym (map-append errors_of before later) ∙ ap (map errors_of) (sym e) ∙ errors)).1 in
    let long : length later ≡ n = sym (length-map later outputs_of) ∙ ap length left ∙ size in
    ap (map frame) e ∙ map-append frame before later ∙ ap (λ l. map frame before ++ l)
    (zipped later n long ∙ values_cong n _ f (λ k h. ap₂ (λ a b. a ∷ b ∷ []) (ap (λ l. sample l k) left)
    (ap (λ l. sample l k) right)))
  where
    zipped : (later : List Adapted) (n : ℕ) → length later ≡ n →
        map (λ (a : Adapted). a.output ∷ a.error ∷ []) later ≡ values n
        (λ k. sample (map outputs_of later) k ∷ sample (map errors_of later) k ∷ [])
    zipped later n long =
        let frame : Adapted → Frame = λ a. a.output ∷ a.error ∷ [] in
        let none : Adapted = record { output = pos 0; error = pos 0; weights = [] } in
        let f : ℕ → Frame = λ k. sample (map outputs_of later) k ∷ sample (map errors_of later) k ∷ [] in
        same_lists (map frame later) (values n f) (length-map later frame ∙ long ∙ sym (length-values n f))
        (λ k d h. let below : k < length later = omega (arith, h, length-map later frame) in
        get_or-map frame later k none d below
        ∙ ap₂ (λ a b. a ∷ b ∷ []) (sym (get_or-map outputs_of later k none (pos 0) below))
        (sym (get_or-map errors_of later k none (pos 0) below))
        ∙ sym (get_or-map-range_with_len f 0 n k k d (omega (arith, below, long)) (omega arith)))

-- ---- the unit

module _ (format : Fmt) (s : LmsState) (past : length s.past ≡ length s.taps - 1)
    (weights : length s.weights ≡ length s.taps) where
  lms-stands : (x : List Frame) → StandsFor format s (input_pairs x) →
      Units.StandsFor (unit_of_lms format s false) x
  lms-stands x stands = record {
    running = refl;
    keeps = ap₂ (λ a b. a ++ b) stands.past_is (ap reverse stands.weights_are ∙ reverse-reverse _);
    tail_follows = sym (append-nil _);
  }

  stands-lms : (x : List Frame) → Units.StandsFor (unit_of_lms format s false) x →
      StandsFor format s (input_pairs x)
  stands-lms x stands = kept-stands format s (kept s) (input_pairs x) past refl stands.keeps

  lms-counts : (n : ℕ) → CountsFrames (unit_of_lms format s false) n
  lms-counts n = record {
    running = refl;
    place = in_words-place (word format) (length s.taps - 1 + length s.taps) (kept s)
        (length-append s.past (reverse s.weights) ∙ ap₂ (λ (m n : ℕ). m + n) past (length-reverse s.weights ∙ weights));
    tail_frames = omega arith;
  }

made-as : (format : Fmt) (old new : LmsState) (e e' : Bool) →
    new ≡ record old { weights = new.weights; past = new.past } →
    MadeAs (unit_of_lms format old e) (unit_of_lms format new e')
made-as format old new e e' same = record {
  block = ap (λ (s : LmsState). Lms s.post_shift s.mu s.taps) same;
  format = refl;
  channels = refl;
  capacity = ap (λ (s : LmsState). s.block) same;
  banked = refl;
}

module _
    (format : Fmt) (old new : LmsState) (past : length old.past ≡ length old.taps - 1)
    (weights : length old.weights ≡ length old.taps)
    (same : new ≡ record old { weights = new.weights; past = new.past })
    (past_stays : length new.past ≡ length old.past) (weights_stay : length new.weights ≡ length old.weights) where
  past-after : length new.past ≡ length new.taps - 1
  past-after = past_stays ∙ past ∙ ap (λ (s : LmsState). length s.taps - 1) (sym same)

  weights-after : length new.weights ≡ length new.taps
  weights-after = weights_stay ∙ weights ∙ ap (λ (s : LmsState). length s.taps) (sym same)

  -- fed with n frames, it gives n frames
  pub lms-feeds :
      (frames out : List ℤ) (n : ℕ) (before after : Counts) → length frames / 2 ≡ n → length out / 2 ≡ n →
      ((x : List (ℤ × ℤ)) → StandsFor format old x → Continues (lms_frames format old) x
      (input_pairs (frames_in 2 frames)) (frames_in 2 out)) →
      ((x : List (ℤ × ℤ)) → StandsFor format old x → StandsFor format new (x ++ input_pairs (frames_in 2 frames))) →
      after.multiplies ≡ before.multiplies + n * (2 * length old.taps + 1) →
      after.turns ≤ before.turns + n * (2 * length old.taps + 1) →
      Feeds (unit_of_lms format old false) (unit_of_lms format new false) (frames_in 2 frames) (frames_in 2 out)
      before after
  lms-feeds frames out n before after taken given gives standing paid turned =
      let many : length (frames_in 2 frames) ≡ n = length-frames_in 2 frames ∙ taken in
      let as_many : length (frames_in 2 out) ≡ n = length-frames_in 2 out ∙ given in
      let price = 2 * length old.taps + 1 in
      let pairs-append : (x : List Frame) → input_pairs (x ++ frames_in 2 frames) ≡ input_pairs x ++ input_pairs
      (frames_in 2 frames) = λ x. map-append (λ (f : Frame). (sample f 0, sample f 1)) x (frames_in 2 frames) in
      let sums : (m : ℕ) → (m + n) * price ≡ m * price + n * price = λ m. mul-sum m n price in
      record {
        made = made-as format old new false false same;
        values = λ x stands. ap (lms_frames format old) (pairs-append x) ∙
            gives (input_pairs x) (stands-lms format old past weights x stands);
        stands = λ x stands. lms-stands format new past-after weights-after (x ++ frames_in 2 frames)
            (subst (StandsFor format new) (sym (pairs-append x))
            (standing (input_pairs x) (stands-lms format old past weights x stands)));
        frames = λ m _. ap (λ k. m + k) (many ∙ sym as_many);
        counts = λ m _. lms-counts format new past-after weights-after (m + length (frames_in 2 frames));
        multiplies = λ m _. rw many (omega (arith, paid, sums m));
        turns = λ m _. rw many (omega (arith, turned, sums m));
      }
    where
      mul-sum : (m n k : ℕ) → (m + n) * k ≡ m * k + n * k
      mul-sum m n k = omega arith

  -- it keeps the numbers
  pub lms-restores :
      (numbers : List ℤ) → kept new ≡ numbers → ((x : List (ℤ × ℤ)) →
      numbers ≡ lms_kept format old.post_shift old.mu old.taps x → StandsFor format new x) →
      Restores (unit_of_lms format old false) (unit_of_lms format new false) numbers
  lms-restores numbers keeps standing = record {
    made = made-as format old new false false same;
    running = refl;
    kept = keeps;
    stands = λ x e. lms-stands format new past-after weights-after x (standing (input_pairs x) e);
    counts = λ n _. lms-counts format new past-after weights-after n;
  }

-- the frames that it wrote
pub lms-output : (format : Fmt) (s : LmsState) (e : Bool) (frames out : List ℤ) →
    length frames ≡ length (frames_in 2 frames) * 2 → length (frames_in 2 frames) ≤ s.block →
    length out ≡ length frames → All (FitsSigned (word format)) out →
    IsOutput (unit_of_lms format s e) s.block out
lms-output format s e frames out whole few size fits =
    let many : length (frames_in 2 out) ≡ length (frames_in 2 frames) = length-frames_in 2 out ∙
    ap (λ n. n / 2) size ∙ sym (length-frames_in 2 frames) in
    record {
      signal = record { whole_frames = size ∙ whole ∙ ap (λ n. n * 2) (sym many); in_format = fits };
      at_most = omega (arith, many, few);
    }

-- a filter that has taken nothing, in a unit of the block
pub lms-new :
    (format : Fmt) (s : LmsState) (block : Block) (p : ℕ) (mu number : ℤ) (taps numbers : List ℤ) (frames : ℕ) →
    block ≡ Lms p mu taps → number ≡ mu → numbers ≡ taps → s ≡ new_lms p number numbers frames →
    StandsFor format s [] → IsNew block format 2 frames (unit_of_lms format s false)
lms-new format s block p mu number taps numbers frames is mu_is taps_are made stands =
    let past : length s.past ≡ length s.taps - 1 =
    ap (λ (l : LmsState). length l.past) made ∙ length-replicate (length numbers - 1) (pos 0) ∙
    sym (ap (λ (l : LmsState). length l.taps - 1) made) in
    let weights : length s.weights ≡ length s.taps = ap (λ (l : LmsState). length l.weights) made ∙
    sym (ap (λ (l : LmsState). length l.taps) made) in
    record {
      block = ap (λ (l : LmsState). Lms l.post_shift l.mu l.taps) made ∙ ap₂ (λ m l. Lms p m l) mu_is taps_are ∙ sym is;
      format = refl;
      channels = refl;
      capacity = ap (λ (l : LmsState). l.block) made;
      plain = refl;
      stands = lms-stands format s past weights [] stands;
      counts = lms-counts format s past weights 0;
    }

-- ---- what calls require

-- kept numbers of a unit are those of its filter
pub fits-words : (format : Fmt) (s : LmsState) (numbers : List ℤ) →
    Fits format 2 (Lms s.post_shift s.mu s.taps) numbers →
    Each IsOfKind (in_words (word format) (length s.taps - 1 + length s.taps)) numbers
fits-words format s numbers fits = fits.1.1

pub ruleset words = (fits-words)

-- the front of a row
pub ruleset rows = (length-take-le)
