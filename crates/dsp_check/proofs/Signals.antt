-- A signal by its channels, as the code makes it, and by its frames, as the definitions have it.
use Rattle.std.proofs.Common.{◌≡◌, ◌∙◌, ap, sym, ℕ, ◌+◌, ◌-◌, ◌*◌, ◌<◌, ◌≤◌, ℤ, pos, List, [], ◌∷◌}
use Rattle.std.proofs.Common.{◌++◌, length, take, drop, get_or, below_more, refl, arith}
use Rattle.std.specs.Prelude.{All, FitsSigned}
use Rattle.std.proofs.lemmas.List.{length-map, length-replicate}
use Rattle.std.proofs.lemmas.Grind.{common_steps}
use Rattle.std.proofs.lemmas.List.{get_or-map, get_or-replicate, drop-take, take-take}
use Rattle.std.proofs.lemmas.List.{drop-drop}
use Rattle.std.proofs.lemmas.List.Elements.{All-push, All-replicate}
use Rattle.std.proofs.lemmas.List.FromFn.{length-map-range_with_len, get_or-map-range_with_len, fill_by_all}
use Rattle.std.proofs.lemmas.List.FromFn.{map-range_with_len_more}
use Rattle.dsp_defs.specs.Block.{Frame, channel, frames_of}
use Rattle.dsp_defs.specs.Bytes.{sample_of, width}
use Rattle.dsp_defs.specs.Formats.{word}
use Rattle.dsp_defs.specs.Signal.{sample, values}
use Rattle.dsp_defs.specs.declared.format.Coding.{Coding}
use Rattle.dsp_defs.specs.declared.format.Fmt.{Fmt}
use Rattle.dsp_defs.proofs.Signal.{values_cong}
use Rattle.dsp_defs.proofs.SumLemmas.{same_numbers}
use Rattle.dsp_defs.proofs.Causal.{map-values}
use Rattle.dsp_framewise.proofs.Given.{sample-fits}
use Rattle.dsp_check.specs.Channels.{AreChannels, InFormat, frame_at, frame_count, no_frames, with_frame}

-- ---- channels

-- one frame more
module _ (channels : List (List ℤ)) (frame : Frame) where
  length-with : length (with_frame channels frame) ≡ length channels
  length-with = length-map-range_with_len (λ c. get_or channels c [] ++ sample frame c ∷ []) 0 (length channels)

  channel-with : (c : ℕ) (d : List ℤ) → c < length channels →
      get_or (with_frame channels frame) c d ≡ get_or channels c [] ++ sample frame c ∷ []
  channel-with c d inside = get_or-map-range_with_len (λ c. get_or channels c [] ++ sample frame c ∷ []) 0
      (length channels) c c d inside (omega arith)

  pub are-with : AreChannels channels → AreChannels (with_frame channels frame)
  are-with are = record {
    some = omega (arith, length-with, are.some);
    few = omega (arith, length-with, are.few);
    alike = λ c d inside. grind (arith, common_steps, length-with, channel-with c d, channel-with 0 [], are.alike c []);
  }

-- a channel that may have got a sample, cut back to what it had
pub cut-back : (old now : List (List ℤ)) (frame : Frame) (n c k : ℕ) → AreChannels old → n ≡ frame_count old →
    k < length old → ((k : ℕ) → k < c → get_or now k [] ≡ get_or old k [] ++ sample frame k ∷ [])
    → ((k : ℕ) → c ≤ k → get_or now k [] ≡ get_or old k []) → take n (get_or now k []) ≡ get_or old k []
cut-back old now frame n c k are is inside before behind =
    let long : length (get_or old k []) ≡ n = are.alike k [] inside ∙ sym is in
    grind (arith, common_steps, before k, behind k)

-- ---- frames

-- the samples of a frame fit where those of the channels do
pub format-at : (format : Fmt) (channels : List (List ℤ)) (n : ℕ) → InFormat format channels →
    All (FitsSigned (word format)) (frame_at channels n)
format-at format channels n fits = λ c d inside.
    let here : c < length channels = omega (arith, inside, length-map channels (λ samples. sample samples n)) in
    rw (get_or-map (λ samples. sample samples n) channels c [] d here)
    (sample-fits format (get_or channels c []) n (fits c [] here))

pub channel-frames : (channels : List (List ℤ)) (c : ℕ) → AreChannels channels → c < length channels →
    channel c (frames_of channels) ≡ get_or channels c []
channel-frames channels c are inside =
    map-values (λ (f : Frame). sample f c) 0 (frame_count channels) (frame_at channels)
    ∙ values_cong (frame_count channels) _ (sample (get_or channels c []))
    (λ n _. get_or-map (λ samples. sample samples n) channels c [] (pos 0) inside)
    ∙ sym (fill_by_all (sample (get_or channels c [])) (get_or channels c []) (frame_count channels) (pos 0)
    (are.alike c [] inside) (λ k _. refl))

-- the first n of the frames f, each of k samples, as channels
pub record AreFirst (format : Fmt) (k n : ℕ) (f : ℕ → Frame) (y : List (List ℤ)) : Type 0 where
  pub wide : length y ≡ k
  pub each : (c : ℕ) → c < k → get_or y c [] ≡ values n (λ i. sample (f i) c)
  pub size : (i : ℕ) → i < n → length (f i) ≡ k
  pub fits : InFormat format y

pub first-none : (format : Fmt) (k : ℕ) (f : ℕ → Frame) → AreFirst format k 0 f (no_frames k)
first-none format k f = record {
  wide = length-replicate {A = List ℤ} k [];
  each = λ c inside. get_or-replicate k c [] [] inside;
  size = λ i none. absurd (omega arith);
  fits = All-replicate (All (FitsSigned (word format))) k [] (λ i d none. absurd (omega arith));
}

module _ {format : Fmt} {k n : ℕ} {f : ℕ → Frame} {y : List (List ℤ)} (first : AreFirst format k n f y) where
  pub first-more : (frame : Frame) → length frame ≡ k → All (FitsSigned (word format)) frame → frame ≡ f n →
      AreFirst format k (n + 1) f (with_frame y frame)
  first-more frame size fits is = record {
    wide = length-with y frame ∙ first.wide;
    each = λ c inside.
        channel-with y frame c [] (omega (arith, inside, first.wide))
        ∙ (λ i. first.each c inside i ++ sample (is i) c ∷ [])
        ∙ sym (map-range_with_len_more (λ i. sample (f i) c) 0 n n (omega arith));
    size = below_more _ _ first.size (ap length (sym is) ∙ size);
    fits = λ c d inside.
        let here : c < length y = omega (arith, inside, length-with y frame) in
        rw (channel-with y frame c d here) (All-push (FitsSigned (word format)) (get_or y c []) (sample frame c)
        (first.fits c [] here) (sample-fits format frame c fits));
  }

  -- they are the frames of the channels
  pub first-frames : 1 ≤ k → frames_of y ≡ values n f
  first-frames some =
      let count = length-map-range_with_len (λ i. sample (f i) 0) 0 n in
      ap (λ m. values m (frame_at y)) (ap length (first.each 0 (omega arith)) ∙ count)
      ∙ values_cong n (frame_at y) f
      (λ i inside.
      let size = length-map y (λ samples. sample samples i) ∙ first.wide in
      same_numbers (frame_at y i) (f i) (size ∙ sym (first.size i inside))
      (λ c here.
      let low : c < k = omega (arith, here, size) in
      get_or-map (λ samples. sample samples i) y c [] (pos 0) (omega (arith, low, first.wide))
      ∙ ap (λ s. sample s i) (first.each c low)
      ∙ get_or-map-range_with_len (λ i. sample (f i) c) 0 n i i (pos 0) inside (omega arith)))

-- ---- bytes

-- frame n of bytes
abbrev pub frame_of : Coding → ℕ → List ℕ → ℕ → Frame
frame_of coding channels bytes n = values channels (λ c. sample_of coding
    (take (width coding) (drop ((n * channels + c) * width coding) bytes)))

-- it is read of its own bytes
pub frame-read : (coding : Coding) (channels n size : ℕ) (bytes : List ℕ) → size ≡ channels * width coding
    → values channels (λ c. sample_of coding (take (width coding) (drop (c * width coding)
    (take (n * size + size - n * size) (drop (n * size) bytes))))) ≡ frame_of coding channels bytes n
frame-read coding channels n size bytes is =
    let w = width coding in
    values_cong channels _ _
    (λ c inside.
    let reach : w ≤ channels * w - c * w = grind arith in
    let all : n * size + size - n * size ≡ c * w + (channels * w - c * w) = grind arith in
    let place : n * size + c * w ≡ (n * channels + c) * w = grind arith in
    ap (sample_of coding)
    (ap (λ s. take w (drop (c * w) (take s (drop (n * size) bytes)))) all
    ∙ ap (take w) (drop-take (c * w) (channels * w - c * w) (drop (n * size) bytes))
    ∙ take-take w (channels * w - c * w) _ reach
    ∙ ap (take w) (drop-drop (c * w) (n * size) bytes)
    ∙ ap (λ k. take w (drop k bytes)) place))
