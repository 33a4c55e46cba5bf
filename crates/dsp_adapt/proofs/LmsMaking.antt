-- New LMS filters, and what they keep.
use Rattle.std.proofs.Common.{◌≡◌, ◌∙◌, ap, sym, refl, subst, ℕ, ◌+◌, ◌-◌, ◌*◌, ◌≤◌, ℤ, pos, List, [], ◌++◌, length}
use Rattle.std.proofs.Common.{map, take, drop, replicate, reverse, None, take_all}
use Rattle.std.proofs.Common.{take_at, arith, length-append, length-drop, length-take-le}
use Rattle.std.proofs.lemmas.List.{append-nil, length-map, length-replicate, length-reverse, reverse-reverse}
use Rattle.std.proofs.lemmas.Slice.{take-put_mid}
use Rattle.std.proofs.lemmas.Grind.{common_steps}
use borrow.Rule.Slice.PartMut.{put_mid}
use Rattle.dsp_defs.specs.declared.format.Fmt.{Fmt}
use Rattle.dsp_defs.specs.declared.limits.TheConstants.{MAX_SAMPLES, MAX_TAPS}
use Rattle.dsp_window.specs.Rolling.{Rolling, last_samples}
use Rattle.dsp_defs.specs.declared.script.Block.{Block}
use Rattle.dsp_defs.specs.declared.script.Block.TheVariants.{Lms}
use Rattle.dsp_adapt.specs.LmsState.{LmsState, StandsFor, lms_fault, new_lms}
use Rattle.dsp_adapt.specs.LmsUnit.{HasRows, IsLmsIn}

-- ---- blocks and faults

-- the block of an LMS filter is no other
pub block-is : (format : Fmt) (block : Block) → IsLmsIn format block →
    ((p : ℕ) (mu : ℤ) (taps : List ℤ) → block ≡ Lms p mu taps → ⊥) → ⊥
block-is format (Lms p mu taps) is other = other p mu taps refl
block-is format block is other = is

pub within-limits : (greatest p taps block : ℕ) → p ≤ greatest → 1 ≤ taps → taps ≤ MAX_TAPS → 1 ≤ block →
    block ≤ MAX_SAMPLES → lms_fault greatest p taps block ≡ None
within-limits greatest p taps block shift some few filled fits = grind (arith, common_steps)

pub new-rows : (s : LmsState) (p : ℕ) (mu : ℤ) (taps : List ℤ) (frames i r o e : ℕ) → s ≡ new_lms p mu taps frames →
    frames * 2 ≤ MAX_SAMPLES → i ≡ frames → r ≡ frames → o ≡ frames → e ≡ frames → HasRows s i r o e
new-rows s p mu taps frames i r o e made few inputs references outputs errors =
    let room : frames ≡ s.block = sym (ap (λ (l : LmsState). l.block) made) in
    record {
      inputs_long = inputs ∙ room;
      references_long = references ∙ room;
      outputs_long = outputs ∙ room;
      errors_long = errors ∙ room;
      few = subst (λ (n : ℕ). n * 2 ≤ MAX_SAMPLES) room few;
      past_long = ap (λ (l : LmsState). length l.past) made ∙ length-replicate (length taps - 1) (pos 0) ∙
          sym (ap (λ (l : LmsState). length l.taps - 1) made);
      weights_long = ap (λ (l : LmsState). length l.weights) made ∙ sym (ap (λ (l : LmsState). length l.taps) made);
    }

pub new-stands : (format : Fmt) (post_shift : ℕ) (mu : ℤ) (taps : List ℤ) (block : ℕ) →
    StandsFor format (new_lms post_shift mu taps block) []
new-stands format post_shift mu taps block = record {
  past_is = sym (append-nil (replicate (length taps - 1) (pos 0)));
  weights_are = sym (reverse-reverse taps);
}

-- ---- kept numbers

pub kept-long : {X : Type 0} (number : X → ℤ) (w : Rolling) (weights : List X) → w.past ≤ length w.samples →
    length (last_samples w.past w.samples ++ reverse (map number weights)) ≡ w.past + length weights
kept-long number w weights within =
    omega (
      arith,
      length-append (last_samples w.past w.samples) (reverse (map number weights)),
      length-drop (length w.samples - w.past) w.samples,
      length-reverse (map number weights),
      length-map weights number,
    )

module _ {X : Type 0} (front old : List X) (n m : ℕ) (first : length front ≡ n) (whole : length old ≡ n + m) where
  abbrev written : List X
  written = front ++ drop n old

  written-long : length written ≡ n + m
  written-long = omega (arith, length-append front (drop n old), length-drop n old)

  -- the rest of what was written to its front
  pub rest-long : length (take (length written - n) (drop n written)) ≡ m
  rest-long = length-take-le (length written - n) (drop n written) (omega (arith, length-drop n written)) ∙
      (let left : length written - n ≡ m = omega (arith, written-long) in left)

  -- two parts of an output
  pub both-written : (new : List X) → length new ≡ m → put_mid n (length written - n) written new ≡ front ++ new
  both-written new second =
      let all = put_mid n (length written - n) written new in
      let left : length (drop (length written - n) (drop n written)) ≡ 0 =
      omega (arith, length-drop (length written - n) (drop n written), length-drop n written) in
      let begin : length (take n written) ≡ n = length-take-le n written (omega (arith, written-long)) in
      let long : length all ≡ n + m = omega (
        arith,
        length-append (take n written)
            (new ++ drop (length written - n) (drop n written)),
        length-append new (drop (length written - n) (drop n written)),
        left,
        begin,
        second,
      ) in
      sym (take_all (n + m) all (omega (arith, long)))
      ∙ take-put_mid n (length written - n) written new (n + m) (omega (arith, second)) (omega (arith, written-long))
      ∙ ap (λ l. l ++ new) (take_at front (drop n old) n first)

pub past-long : (w : Rolling) → w.past ≤ length w.samples → length (last_samples w.past w.samples) ≡ w.past
past-long w within = omega (arith, length-drop (length w.samples - w.past) w.samples)

-- a filter that changed no more than its weights and its past
pub changed : (new old : LmsState) → new.post_shift ≡ old.post_shift → new.mu ≡ old.mu → new.taps ≡ old.taps →
    new.block ≡ old.block → new ≡ record old { weights = new.weights; past = new.past }
changed new old post_shift mu taps block = λ i. record
    { post_shift = post_shift i; mu = mu i; taps = taps i; weights = new.weights; past = new.past; block = block i }
