-- What a block keeps of n frames is as many numbers, with the phase, flag, length and count, as n frames give.
use Rattle.std.proofs.Common.{◌≡◌, ℕ, zero, suc, ◌+◌, ◌-◌, ◌*◌, ◌/◌, ◌%◌, min, ℤ, pos, List, [], ◌∷◌, ◌++◌, map}
use Rattle.std.proofs.Common.{reverse, replicate, length, drop, flat_map, get_or, refl, ap, ap₂, ◌∙◌, arith}
use Rattle.std.proofs.Common.{length-append, subst}
use Rattle.std.proofs.lemmas.List.{length-map, length-reverse, reverse-reverse, length-replicate, length-drop}
use Rattle.std.specs.List.{range_with_len}
use Rattle.dsp_defs.specs.Numbers.{Width, w32, w64}
use Rattle.dsp_defs.specs.Formats.{word}
use Rattle.dsp_defs.specs.Signal.{sample, outputs_of_history, outputs}
use Rattle.dsp_defs.specs.Streaming.{last_of}
use Rattle.dsp_defs.specs.Lattice.{lattice_section, backward_values, ladder_output}
use Rattle.dsp_defs.specs.Biquad.{Section, sections, biquad_section, biquad64_section}
use Rattle.dsp_defs.specs.Adaptive.{weights_before, lms, lms_output}
use Rattle.dsp_defs.specs.Block.{Frame, channel, input_pairs}
use Rattle.dsp_defs.specs.Cost.{section_count}
use Rattle.dsp_defs.specs.Kept
use Rattle.dsp_defs.specs.Kept.{Kind, InWord, Fixed, Each, IsPlace, in_words, open_group, greatest, lattice_kept}
use Rattle.dsp_defs.specs.Kept.{ladder_kept, sections_kept, wide_sections_kept, lms_kept, kept_of_channel, kinds_by}
use Rattle.dsp_defs.specs.Kept.{kept_numbers, HasPlace}
use Rattle.dsp_defs.proofs.BlockLaws.{length-values}
use Rattle.dsp_defs.specs.declared.format.Fmt.{Fmt}
use Rattle.dsp_defs.specs.declared.format.Fmt.TheVariants.{Q7, Q15, Q31}
use Rattle.dsp_defs.specs.declared.script.Block.{Block}
use Rattle.dsp_defs.specs.declared.script.Block.TheVariants.{Fir, Sparse, Decimate, Interpolate, LatticeFir}
use Rattle.dsp_defs.specs.declared.script.Block.TheVariants.{LatticeIir, Biquad, Biquad64, Conv, ConvPartial}
use Rattle.dsp_defs.specs.declared.script.Block.TheVariants.{Correlate, Lms, Pid, MatAdd, MatSub, MatScale, MatTrans}
use Rattle.dsp_defs.specs.declared.script.Block.TheVariants.{MatMult, Power, Dot, CmplxDot, Max, Min}

-- the block has a filter or a measure for each channel
abbrev IsOfChannel : Block → Type 0
IsOfChannel (Lms p mu taps) = ⊥
IsOfChannel Dot = ⊥
IsOfChannel CmplxDot = ⊥
IsOfChannel block = Unit {0}

-- ---- numbers for kinds

pub Each-append : (P : Kind → ℤ → Type 0) (ks ls : List Kind) (xs ys : List ℤ) → Each P ks xs → Each P ls ys →
    Each P (ks ++ ls) (xs ++ ys)
Each-append P [] ls [] ys h t = t
Each-append P (k ∷ ks) ls (x ∷ xs) ys h t = (h.0, Each-append P ks ls xs ys h.1 t)
Each-append P [] ls (x ∷ xs) ys h t = absurd h
Each-append P (k ∷ ks) ls [] ys h t = absurd h

Each-flat_map : (P : Kind → ℤ → Type 0) (kinds : List Kind) (f : ℕ → List ℤ) → ((c : ℕ) → Each P kinds (f c)) →
    (cs : List ℕ) → Each P (flat_map (λ (_ : ℕ). kinds) cs) (flat_map f cs)
Each-flat_map P kinds f each [] = tt
Each-flat_map P kinds f each (c ∷ cs) = Each-append P kinds (flat_map (λ (_ : ℕ). kinds) cs) (f c) (flat_map f cs)
    (each c) (Each-flat_map P kinds f each cs)

-- numbers in words have no place but their count
pub in_words-place : (width : Width) (n : ℕ) (xs : List ℤ) → length xs ≡ n → Each IsPlace (in_words width n) xs
in_words-place width zero [] e = tt
in_words-place width (suc n) (x ∷ xs) e = (tt, in_words-place width n xs (omega (arith, e)))
in_words-place width zero (x ∷ xs) e = absurd (omega (arith, e))
in_words-place width (suc n) [] e = absurd (omega (arith, e))

one_fixed : (n : ℕ) → Each IsPlace (Fixed n ∷ []) (pos n ∷ [])
one_fixed n = (refl, tt)

placed : (width : Width) (count n : ℕ) (xs : List ℤ) → length xs ≡ count →
    Each IsPlace (in_words width count ++ Fixed n ∷ []) (xs ++ pos n ∷ [])
placed width count n xs e = Each-append IsPlace (in_words width count) (Fixed n ∷ []) xs (pos n ∷ [])
    (in_words-place width count xs e) (one_fixed n)

-- ---- how many numbers are kept

length-last_of : (count : ℕ) (x : List ℤ) → length (last_of count x) ≡ count
length-last_of count x = length-drop (length x) (replicate count (pos 0) ++ x) ∙
    omega (arith, length-append (replicate count (pos 0)) x, length-replicate count (pos 0))

pub length-lattice_kept : (ks : List ℤ) (pairs : List (ℤ × ℤ)) → length (lattice_kept ks pairs) ≡ length ks
length-lattice_kept [] pairs = refl
length-lattice_kept (k ∷ ks) pairs = ap suc (length-lattice_kept ks (lattice_section pairs k))

length-backward_values : (format : Fmt) (ks before : List ℤ) (f : ℤ) →
    length (backward_values format f ks before) ≡ suc (length ks)
length-backward_values format [] before f = refl
length-backward_values format (k ∷ ks) before f = ap suc (length-backward_values format ks (drop 1 before) _)

-- the newest of a ladder's outputs has a number for each section, and f
newest_ladder : (format : Fmt) (k past : List ℤ) → length
    (get_or (outputs_of_history (ladder_output format k) past) 0 (replicate (suc (length k)) (pos 0))) ≡ suc (length k)
newest_ladder format k [] = length-replicate (suc (length k)) (pos 0)
newest_ladder format k (a ∷ past) = length-backward_values format k _ a

length-ladder_kept : (format : Fmt) (k x : List ℤ) → length (ladder_kept format k x) ≡ length k
length-ladder_kept format k x =
    let newest = get_or (reverse (outputs (ladder_output format k) x)) 0 (replicate (suc (length k)) (pos 0)) in
    let long : length newest ≡ suc (length k) =
    ap (λ h. length (get_or h 0 (replicate (suc (length k)) (pos 0))))
    (reverse-reverse (outputs_of_history (ladder_output format k) (reverse x))) ∙
    newest_ladder format k (reverse x) in
    length-reverse (drop 1 newest) ∙ length-drop 1 newest ∙ omega (arith, long)

length-sections_kept : (format : Fmt) (p : ℕ) (cs : List Section) (x : List ℤ) →
    length (sections_kept format p cs x) ≡ 4 * length cs
length-sections_kept format p [] x = refl
length-sections_kept format p (c ∷ cs) x = let e = length-sections_kept format p cs (biquad_section format p x c) in
    omega (arith, e)

length-sections-q15 : (cs : List ℤ) → length (sections Q15 cs) ≡ length cs / 6
length-sections-q15 [] = refl
length-sections-q15 (a ∷ []) = refl
length-sections-q15 (a ∷ b ∷ []) = refl
length-sections-q15 (a ∷ b ∷ c ∷ []) = refl
length-sections-q15 (a ∷ b ∷ c ∷ d ∷ []) = refl
length-sections-q15 (a ∷ b ∷ c ∷ d ∷ e ∷ []) = refl
length-sections-q15 (a ∷ b ∷ c ∷ d ∷ e ∷ f ∷ cs) = let h = length-sections-q15 cs in omega (arith, h)

length-sections-q31 : (cs : List ℤ) → length (sections Q31 cs) ≡ length cs / 5
length-sections-q31 [] = refl
length-sections-q31 (a ∷ []) = refl
length-sections-q31 (a ∷ b ∷ []) = refl
length-sections-q31 (a ∷ b ∷ c ∷ []) = refl
length-sections-q31 (a ∷ b ∷ c ∷ d ∷ []) = refl
length-sections-q31 (a ∷ b ∷ c ∷ d ∷ e ∷ cs) = let h = length-sections-q31 cs in omega (arith, h)

length-sections-q7 : (cs : List ℤ) → length (sections Q7 cs) ≡ length cs / 5
length-sections-q7 [] = refl
length-sections-q7 (a ∷ []) = refl
length-sections-q7 (a ∷ b ∷ []) = refl
length-sections-q7 (a ∷ b ∷ c ∷ []) = refl
length-sections-q7 (a ∷ b ∷ c ∷ d ∷ []) = refl
length-sections-q7 (a ∷ b ∷ c ∷ d ∷ e ∷ cs) = let h = length-sections-q7 cs in omega (arith, h)

length-sections : (format : Fmt) (cs : List ℤ) → length (sections format cs) ≡ section_count format cs
length-sections Q7 cs = length-sections-q7 cs
length-sections Q15 cs = length-sections-q15 cs
length-sections Q31 cs = length-sections-q31 cs

-- four words and wide words of each section
wide_sections-place : (p : ℕ) (cs : List Section) (count : ℕ) (x : List ℤ) → length cs ≡ count
    → (first : ℕ) → Each IsPlace (flat_map (λ (_ : ℕ). in_words w32 2 ++ in_words w64 2) (range_with_len first count))
    (wide_sections_kept p cs x)
wide_sections-place p [] zero x e first = tt
wide_sections-place p (c ∷ cs) (suc count) x e first =
    let later = wide_sections-place p cs count (biquad64_section p x c) (omega (arith, e)) (first + 1) in
    (tt, (tt, (tt, (tt, later))))
wide_sections-place p [] (suc count) x e first = absurd (omega (arith, e))
wide_sections-place p (c ∷ cs) zero x e first = absurd (omega (arith, e))

length-weights : (format : Fmt) (p : ℕ) (mu : ℤ) (first : List ℤ) (past : List (ℤ × ℤ)) →
    length (weights_before first (outputs_of_history (lms_output format p mu first) past)) ≡ length first
length-weights format p mu first [] = refl
length-weights format p mu first (a ∷ past) = length-values _ _ ∙ length-weights format p mu first past

length-lms_weights : (format : Fmt) (p : ℕ) (mu : ℤ) (taps : List ℤ) (x : List (ℤ × ℤ)) →
    length (weights_before (reverse taps) (reverse (lms format p mu taps x))) ≡ length taps
length-lms_weights format p mu taps x =
    ap (λ h. length (weights_before (reverse taps) h)) (reverse-reverse
    (outputs_of_history (lms_output format p mu (reverse taps)) (reverse x)))
    ∙ length-weights format p mu (reverse taps) (reverse x) ∙ length-reverse taps

open_count : (n size : ℕ) → n - n / size * size ≡ n % size
open_count n size = grind arith

length-open_group : (size : ℕ) (x : List ℤ) → length (open_group size x) ≡ length x % size
length-open_group size x = length-drop (length x / size * size) x ∙ open_count (length x) size

group-place : (format : Fmt) (size : ℕ) (x : List ℤ) →
    Each IsPlace (in_words (word format) (length x % size)) (open_group size x)
group-place format size x = in_words-place (word format) (length x % size) (open_group size x)
    (length-open_group size x)

-- ---- the law, for a channel, for pairs and for a block

pub kept_of_channel-place : (format : Fmt) (block : Block) (x : List ℤ) → IsOfChannel block →
    Each IsPlace (kinds_by format block (length x)) (kept_of_channel format block x)
kept_of_channel-place format (Fir taps) x _ = in_words-place (word format) (length taps - 1) _
    (length-last_of (length taps - 1) x)
kept_of_channel-place format (Sparse taps delays) x _ =
    in_words-place (word format) (greatest delays) _ (length-last_of (greatest delays) x)
kept_of_channel-place format (Decimate factor taps) x _ =
    placed (word format) (length taps + factor - 2) (length x % factor) _ (length-last_of (length taps + factor - 2) x)
kept_of_channel-place format (Interpolate factor taps) x _ =
    in_words-place (word format) (length taps / factor - 1) _ (length-last_of (length taps / factor - 1) x)
kept_of_channel-place format (LatticeFir k) x _ = in_words-place (word format) (length k) _
    (length-lattice_kept k (map (λ a. (a, a)) x))
kept_of_channel-place format (LatticeIir k v) x _ = in_words-place (word format) (length k) _
    (length-ladder_kept format k x)
kept_of_channel-place format (Biquad p coefficients) x _ =
    in_words-place (word format) (4 * section_count format coefficients) _
    (length-sections_kept format p (sections format coefficients) x ∙
    ap (λ n. 4 * n) (length-sections format coefficients))
kept_of_channel-place format (Biquad64 p coefficients) x _ =
    wide_sections-place p (sections Q31 coefficients) (section_count Q31 coefficients) x
    (length-sections Q31 coefficients) 0
kept_of_channel-place format (Conv taps) x _ = placed (word format) (length taps - 1) (Kept.flag (length x)) _
    (length-last_of (length taps - 1) x)
kept_of_channel-place format (ConvPartial first count taps) x _ =
    placed (word format) (length taps - 1) (min (length x) (first + count)) _ (length-last_of (length taps - 1) x)
kept_of_channel-place format (Correlate taps) x _ = in_words-place (word format) (length x) x refl
kept_of_channel-place format (Lms p mu taps) x h = absurd h
kept_of_channel-place format (Pid kp ki kd) x _ = (tt, (tt, (tt, tt)))
kept_of_channel-place format (MatAdd rows columns matrix) x _ = group-place format (rows * columns) x
kept_of_channel-place format (MatSub rows columns matrix) x _ = group-place format (rows * columns) x
kept_of_channel-place format (MatScale rows columns fract shift) x _ = group-place format (rows * columns) x
kept_of_channel-place format (MatTrans rows columns) x _ = group-place format (rows * columns) x
kept_of_channel-place format (MatMult rows columns given matrix) x _ = group-place format (rows * columns) x
kept_of_channel-place format Power x _ = (tt, tt)
kept_of_channel-place format Dot x h = absurd h
kept_of_channel-place format CmplxDot x h = absurd h
kept_of_channel-place format Max [] _ = (refl, (refl, (refl, (refl, tt))))
kept_of_channel-place format Max (a ∷ x) _ = (refl, (tt, (tt, (refl, tt))))
kept_of_channel-place format Min [] _ = (refl, (refl, (refl, (refl, tt))))
kept_of_channel-place format Min (a ∷ x) _ = (refl, (tt, (tt, (refl, tt))))
kept_of_channel-place format block x _ = tt

lms_kept-place : (format : Fmt) (p : ℕ) (mu : ℤ) (taps : List ℤ) (x : List (ℤ × ℤ)) (n : ℕ) →
    Each IsPlace (kinds_by format (Lms p mu taps) n) (lms_kept format p mu taps x)
lms_kept-place format p mu taps x n =
    let inputs = last_of (length taps - 1) (map (λ (s : ℤ × ℤ). s.0) x) in
    let weights = weights_before (reverse taps) (reverse (lms format p mu taps x)) in
    in_words-place (word format) (length taps - 1 + length taps) (inputs ++ weights)
    (length-append inputs weights ∙ ap₂ (λ (m k : ℕ). m + k)
    (length-last_of (length taps - 1) (map (λ (s : ℤ × ℤ). s.0) x)) (length-lms_weights format p mu taps x))

-- channel after channel
channels-place : (format : Fmt) (channels : ℕ) (block : Block) (x : List Frame) → IsOfChannel block
    → Each IsPlace (flat_map (λ (_ : ℕ). kinds_by format block (length x)) (range_with_len 0 channels))
    (flat_map (λ c. kept_of_channel format block (channel c x)) (range_with_len 0 channels))
channels-place format channels block x each =
    Each-flat_map IsPlace (kinds_by format block (length x)) (λ c. kept_of_channel format block (channel c x))
    (λ c. subst (λ n. Each IsPlace (kinds_by format block n) (kept_of_channel format block (channel c x)))
    (length-map x (λ (f : Frame). sample f c)) (kept_of_channel-place format block (channel c x) each))
    (range_with_len 0 channels)

pub kept_numbers-place : (format : Fmt) (channels : ℕ) (block : Block) (x : List Frame) →
    HasPlace format channels block (length x) (kept_numbers format channels block x)
kept_numbers-place format channels (Lms p mu taps) x = lms_kept-place format p mu taps (input_pairs x) (length x)
kept_numbers-place format channels Dot x = (tt, tt)
kept_numbers-place format channels CmplxDot x = (tt, (tt, tt))
kept_numbers-place format channels block x = channels-place format channels block x tt
