-- Samples and bytes, one after another.
use Rattle.std.proofs.Common.{◌≡◌, ◌∙◌, ap, sym, ℕ, ◌+◌, ◌-◌, ◌*◌, ◌<◌, ◌≤◌, ℤ, pos, List, [], ◌∷◌, ◌++◌, length}
use Rattle.std.proofs.Common.{take, drop, get_or, slice_range, arith, SFits}
use Rattle.std.specs.List.{flat_map}
use Rattle.std.specs.Int.{w32}
use Rattle.std.proofs.lemmas.List.{take_more, append-nil}
use Rattle.std.proofs.lemmas.Grind.{flat_map-append}
use Rattle.dsp_defs.specs.Bytes.{IsValue, format_in}
use Rattle.dsp_defs.specs.Formats.{word}
use Rattle.dsp_defs.specs.declared.format.Coding.{Coding}
use Rattle.dsp_defs.specs.declared.format.Fmt.{Fmt}
use Rattle.dsp_defs.specs.declared.format.Fmt.TheVariants.{Q7, Q15, Q31}
use Rattle.dsp_defs.proofs.CodingLemmas.{IsValue-fits}

pub sample_fits : (format : Fmt) (z : ℤ) → SFits (word format) z → SFits w32 z
sample_fits Q7 z fits = record { sfits = omega (arith, fits.sfits) }
sample_fits Q15 z fits = record { sfits = omega (arith, fits.sfits) }
sample_fits Q31 z fits = fits

pub value_fits : (coding : Coding) (z : ℤ) → IsValue coding z → SFits w32 z
value_fits coding z h = sample_fits (format_in coding) z (IsValue-fits coding z h)

-- the piece of a slice from one place on
pub piece : (from size width : ℕ) (bytes : List ℕ) → size ≡ width →
    slice_range bytes from (from + size) ≡ take width (drop from bytes)
piece from size width bytes same =
    let count : from + size - from ≡ width = omega arith in
    ap (λ n. take n (drop from bytes)) count

-- one sample more
pub more-bytes : (f : ℤ → List ℕ) (samples : List ℤ) (i : ℕ) → i < length samples →
    flat_map f (take i samples) ++ f (get_or samples i (pos 0)) ≡ flat_map f (take (i + 1) samples)
more-bytes f samples i within =
    let x = get_or samples i (pos 0) in
    ap (λ l. flat_map f (take i samples) ++ l) (sym (append-nil (f x)))
    ∙ sym (flat_map-append f (take i samples) (x ∷ []))
    ∙ ap (flat_map f) (sym (take_more samples i (pos 0) within))

-- a sample's bytes stand within those of all samples
pub within-bytes : (i n w : ℕ) → i < n → i * w + w ≤ n * w
within-bytes i n w h = grind arith
