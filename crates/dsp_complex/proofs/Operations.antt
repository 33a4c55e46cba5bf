-- What the operations of this crate give.
use Rattle.std.proofs.Common.{◌≡◌, ◌∙◌, ap, refl, sym, ℕ, ◌+◌, ◌*◌, ◌/◌, ◌<◌, ◌≤◌, ℤ, List, take, length, FitsSigned}
use Rattle.dsp_defs.specs.Signal.{sample, values}
use Rattle.dsp_defs.specs.Formats.{word}
use Rattle.dsp_defs.proofs.FrameLemmas.{length-frames_in}
use Rattle.dsp_defs.specs.declared.script.Block.{Block}
use Rattle.dsp_filter.proofs.MemorylessUnits.{places-give}
use Rattle.dsp_defs.specs.Block.{Frame, frames_in, given_frame, channels_after, format_after}
use Rattle.dsp_defs.specs.declared.format.Fmt.{Fmt}
use Rattle.dsp_filter.specs.Memoryless.{Gives}

-- frames of `width` numbers, each of `wanted` ones
pub frames-give : (format : Fmt) (channels wanted width : ℕ) (block : Block) (taken out : List ℤ) →
    channels ≡ wanted → 0 < width → channels_after channels block ≡ width →
    ((x : Frame) → length (given_frame format block x) ≡ width) →
    length (frames_in channels taken) * channels_after channels block ≤ length out →
    ((n c : ℕ) → n < length taken / channels → c < width →
    sample out (n * width + c) ≡ sample (given_frame format block
    (values wanted (λ k. sample taken (n * wanted + k)))) c) →
    ((n c : ℕ) → n < length taken / channels → c < width →
    FitsSigned (word (format_after format block)) (sample out (n * width + c))) →
    Gives format channels block taken (take (length taken / channels * width) out)
frames-give format channels wanted width block taken out same some wide long room here fits =
    places-give format channels width (length taken / channels) block taken out some refl
    (rw (length-frames_in, wide) at room) wide long
    (λ n c h k. here n c h k ∙ ap (λ m. sample (given_frame format block (values m (λ j. sample taken (n * m + j))))
    c) (sym same)) fits
