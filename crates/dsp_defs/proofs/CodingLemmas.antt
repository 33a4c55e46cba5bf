-- Codings: the bytes and the values of a format in a container, and of a format in a file.
use Rattle.std.proofs.Common.{◌≡◌, ℕ, ◌≤◌, ◌<◌, ℤ, Bool, true, false, nat_eq, if◌then◌else◌, length, refl, arith, SFits}
use Rattle.dsp_defs.specs.Formats.{word}
use Rattle.dsp_defs.specs.Bytes.{IsValue, bytes_of, coding_of, format_in, width, word_bytes}
use Rattle.dsp_defs.specs.Wave.{file_coding}
use Rattle.dsp_defs.specs.declared.format.Fmt.{Fmt}
use Rattle.dsp_defs.specs.declared.format.Fmt.TheVariants.{Q7, Q15, Q31}
use Rattle.dsp_defs.specs.declared.format.Container.{Container}
use Rattle.dsp_defs.specs.declared.format.Container.TheVariants.{Raw}
use Rattle.dsp_defs.specs.declared.format.Coding.{Coding}
use Rattle.dsp_defs.specs.declared.format.Coding.TheVariants.{Raw7, Raw15, Raw31, Wave7, Wave15, Wave24, Wave31}

-- ---- widths

pub word_bytes-small : (format : Fmt) → word_bytes format ≤ 4
word_bytes-small Q7 = omega arith
word_bytes-small Q15 = omega arith
word_bytes-small Q31 = omega arith

pub width-some : (coding : Coding) → 0 < width coding
width-some Raw7 = omega arith
width-some Raw15 = omega arith
width-some Raw31 = omega arith
width-some Wave7 = omega arith
width-some Wave15 = omega arith
width-some Wave24 = omega arith
width-some Wave31 = omega arith

pub width-coding_of : (container : Container) (format : Fmt) → width (coding_of container format) ≡ word_bytes format
width-coding_of Raw Q7 = refl
width-coding_of Raw Q15 = refl
width-coding_of Raw Q31 = refl
width-coding_of _ Q7 = refl
width-coding_of _ Q15 = refl
width-coding_of _ Q31 = refl

pub length-bytes_of : (coding : Coding) (x : ℤ) → length (bytes_of coding x) ≡ width coding
length-bytes_of Raw7 x = refl
length-bytes_of Raw15 x = refl
length-bytes_of Raw31 x = refl
length-bytes_of Wave7 x = refl
length-bytes_of Wave15 x = refl
length-bytes_of Wave24 x = refl
length-bytes_of Wave31 x = refl

-- ---- formats

pub format_in-coding_of : (container : Container) (format : Fmt) → format_in (coding_of container format) ≡ format
format_in-coding_of Raw Q7 = refl
format_in-coding_of Raw Q15 = refl
format_in-coding_of Raw Q31 = refl
format_in-coding_of _ Q7 = refl
format_in-coding_of _ Q15 = refl
format_in-coding_of _ Q31 = refl

pub format_in-file_coding : (format : Fmt) (bits : ℕ) → format_in (file_coding format bits) ≡ format
format_in-file_coding Q7 bits = refl
format_in-file_coding Q15 bits = refl
format_in-file_coding Q31 bits = by_bits (nat_eq bits 24)
  where
    by_bits : (b : Bool) → format_in (if b then Wave24 else Wave31) ≡ Q31
    by_bits true = refl
    by_bits false = refl

-- ---- values

-- a value is a sample of the format
pub IsValue-fits : (coding : Coding) (x : ℤ) → IsValue coding x → SFits (word (format_in coding)) x
IsValue-fits Wave24 x h = h.0
IsValue-fits coding x h = h

-- in a container all samples of the format are values
pub IsValue-coding_of : (container : Container) (format : Fmt) (x : ℤ) → SFits (word format) x →
    IsValue (coding_of container format) x
IsValue-coding_of Raw Q7 x h = h
IsValue-coding_of Raw Q15 x h = h
IsValue-coding_of Raw Q31 x h = h
IsValue-coding_of _ Q7 x h = h
IsValue-coding_of _ Q15 x h = h
IsValue-coding_of _ Q31 x h = h
