-- Frames that stand one after another in a slice.
use Rattle.std.proofs.Common.{◌≡◌, ◌∙◌, ap, sym, ℕ, ◌+◌, ◌*◌, ◌/◌, ◌%◌, ◌<◌, ℤ, pos, List, [], ◌∷◌}
use Rattle.std.proofs.Common.{map, length, arith}
use Rattle.std.proofs.lemmas.List.{length-map, get_or-map}
use Rattle.std.proofs.lemmas.List.FromFn.{length-map-range_with_len, get_or-map-range_with_len}
use Rattle.std.proofs.lemmas.Nat.{mul-add-lt}
use Rattle.dsp_defs.specs.Signal.{sample, values}
use Rattle.dsp_defs.specs.Block.{Frame, one_sample}
use Rattle.dsp_defs.specs.Block.{frames_in}
use Rattle.dsp_defs.proofs.Signal.{values_cong}
use Rattle.dsp_defs.proofs.Causal.{map-values}

pub length-frames_in : (channels : ℕ) (samples : List ℤ) →
    length (frames_in channels samples) ≡ length samples / channels
unfolding frames_in
length-frames_in channels samples = length-map-range_with_len
    (λ n. values channels (λ c. sample samples (n * channels + c))) 0 (length samples / channels)

-- a sample of a whole frame stands within the slice
pub sample-within : (size channels n c : ℕ) → n < size / channels → c < channels → n * channels + c < size
sample-within size channels n c whole inside =
    let some : 0 < channels = omega arith in
    let bound = mul-add-lt n channels c (size / channels) whole inside in
    let product : channels * (size / channels) + size % channels ≡ size = omega (arith, some) in
    omega (arith, bound, product)

-- the frames of samples that are made one by one
pub frames_in-map : (f : ℤ → ℤ) (channels : ℕ) (samples : List ℤ) →
    frames_in channels (map f samples) ≡ map (map f) (frames_in channels samples)
unfolding frames_in
frames_in-map f channels samples =
    ap (λ size. values (size / channels) (λ n. values channels (λ c. sample (map f samples) (n * channels + c))))
    (length-map samples f)
    ∙ values_cong (length samples / channels) _ _
    (λ n h. values_cong channels (λ c. sample (map f samples) (n * channels + c))
    (λ c. f (sample samples (n * channels + c)))
    (λ c k. let inside = sample-within (length samples) channels n c h k in
    get_or-map f samples (n * channels + c) (pos 0) (pos 0) inside)
    ∙ sym (map-values f 0 channels (λ c. sample samples (n * channels + c))))
    ∙ sym (map-values (map f) 0 (length samples / channels)
    (λ n. values channels (λ c. sample samples (n * channels + c))))

-- one sample for each frame of two
pub frames_in-pairs : (f : ℤ → ℤ → ℤ) (samples : List ℤ) →
    frames_in 1 (values (length samples / 2) (λ n. f (sample samples (n * 2)) (sample samples (n * 2 + 1)))) ≡ map
    (λ (frame : Frame). one_sample (f (sample frame 0) (sample frame 1))) (frames_in 2 samples)
unfolding frames_in
frames_in-pairs f samples =
    let count = length samples / 2 in
    let pair = λ (n : ℕ). f (sample samples (n * 2)) (sample samples (n * 2 + 1)) in
    let size : length (values count pair) / 1 ≡ count = omega (arith, length-map-range_with_len pair 0 count) in
    ap (λ size. values size (λ n. values 1 (λ c. sample (values count pair) (n * 1 + c)))) size
    ∙ values_cong count _ _
    (λ n h.
    let here : n * 1 + 0 ≡ n = omega arith in
    let front : n * 2 + 0 ≡ n * 2 = omega arith in
    ap (λ v. v ∷ []) (get_or-map-range_with_len pair 0 count (n * 1 + 0) n (pos 0) (omega arith) (omega arith) ∙
    ap (λ k. f (sample samples k) (sample samples (n * 2 + 1))) (sym front)))
    ∙ sym (map-values (λ (frame : Frame). one_sample (f (sample frame 0) (sample frame 1))) 0 count
    (λ n. values 2 (λ c. sample samples (n * 2 + c))))
