use Rattle.std.proofs.Common.{◌≡◌, ◌∙◌, ◌<◌, ap, refl, subst, sym, ℕ, ℤ, pos, List, [], ◌∷◌, length, map, get_or, arith}
use Rattle.std.specs.Int.{w32}
use Rattle.std.specs.Prelude.{All, FitsSigned}
use Rattle.std.proofs.lemmas.Int.{to_z-of_z}
use Rattle.std.proofs.lemmas.List.{get_or-map, length-map}
use Rattle.std.proofs.lemmas.List.Elements.{All-push}
use Rattle.std.proofs.lemmas.List.FromFn.{fill_by_all}
use Rattle.std.proofs.lemmas.Result.{IfOk-weaker}
use Rattle.dsp_defs.specs.Adaptive.{Adapted, errors_of, lms, outputs_of}
use Rattle.dsp_defs.specs.Block.{Frame, frames_of, input_pairs}
use Rattle.dsp_defs.specs.Formats.{word}
use Rattle.dsp_defs.specs.Signal.{sample, values}
use Rattle.dsp_defs.specs.declared.script.Block.TheVariants as Blocks
use Rattle.dsp_defs.proofs.Signal.{values_cong}
use Rattle.dsp_defs.proofs.Causal.{map-values}
use Rattle.dsp_channelwise.specs.Adapting.{pairs_of}
use Rattle.dsp_check.specs.Channels.{frame_at, frame_count}
use Rattle.dsp_check.specs.Evaluating.{Gives}
use Rattle.dsp_check.proofs.channels.adapt.Goals as goal

-- the frames of two lists of samples
two-frames : {A : Type 0} (d : A) (f h : A → ℤ) (xs : List A) →
    frames_of (map f xs ∷ map h xs ∷ []) ≡ map (λ x. f x ∷ h x ∷ []) xs
two-frames d f h xs =
    ap (λ n. values n (frame_at (map f xs ∷ map h xs ∷ []))) (length-map xs f)
    ∙ sym (fill_by_all (frame_at (map f xs ∷ map h xs ∷ [])) (map (λ x. f x ∷ h x ∷ []) xs) (length xs) []
    (length-map xs (λ x. f x ∷ h x ∷ []))
    (λ k inside. rw (get_or-map f xs k d (pos 0) inside, get_or-map h xs k d (pos 0) inside)
    (get_or-map (λ x. f x ∷ h x ∷ []) xs k d [] inside)))

-- inputs and references
pairs-are : (channels : List (List ℤ)) → length channels ≡ 2 →
    pairs_of (get_or channels 0 []) (get_or channels 1 []) ≡ input_pairs (frames_of channels)
pairs-are channels size =
    let at = λ (n c : ℕ) (h : c < length channels). sym (get_or-map (λ s. sample s n) channels c [] (pos 0) h) in
    values_cong (frame_count channels) _ _ (λ n _ i. (at n 0 (omega (arith, size)) i, at n 1 (omega (arith, size)) i))
    ∙ sym (map-values (λ (f : Frame). (sample f 0, sample f 1)) 0 (frame_count channels) (frame_at channels))

pub returns-clause-given : goal.returns-clause-given
returns-clause-given g c =
    let x = c.args.x.now in
    let gives = Gives (record { format = c.args.format; channels = 2 }) (Blocks.Lms c.args.post_shift c.args.mu
    c.args.taps.now) x in
    let of = λ (mu : ℤ) (pairs : List (ℤ × ℤ)). lms c.args.format c.args.post_shift mu c.args.taps.now pairs in
    let Fit : List ℤ → Type 0 = All (FitsSigned (word c.args.format)) in
    let made = c.in_ok-output.ensures in
    let (first, second) : List ℤ × List ℤ = (c.in_ok-output.output.items, c.in_ok-output.error.items) in
    let same = (λ i. of (to_z-of_z w32 c.args.mu c.ranges.mu i) (pairs_of (c.channel-input.ensures.value i)
    (c.channel-reference.ensures.value i))) ∙ ap (of c.args.mu) (pairs-are x c.requires.channels) in
    IfOk-weaker c.of_two.result (λ (s : List (List ℤ)). s ≡ first ∷ second ∷ []) gives
    (λ s is. subst gives (sym is) (record {
      values =
          (λ i. frames_of (made.outputs i ∷ made.errors i ∷ []))
          ∙ two-frames (record { output = pos 0; error = pos 0; weights = [] }) outputs_of errors_of _
          ∙ ap (map (λ (a : Adapted). a.output ∷ a.error ∷ [])) same;
      channels_are = refl;
      in_format = All-push Fit (first ∷ []) second
          (All-push Fit [] first (λ k d none. absurd (omega arith)) made.fits.0) made.fits.1;
    })) c.of_two.ensures
