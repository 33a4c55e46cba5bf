-- A block of a FIR filter, over the lists that its window shows.
use Rattle.std.proofs.Common.{◌≡◌, ◌∙◌, ap, sym, ℕ, ◌-◌, ◌<◌, ℤ, List, ◌++◌, length, arith}
use Rattle.dsp_defs.specs.declared.format.Fmt.{Fmt}
use Rattle.dsp_defs.specs.declared.script.Block.TheVariants.{Fir}
use Rattle.dsp_defs.specs.Streaming.{Continues, last_of, rows}
use Rattle.dsp_defs.specs.Sums.{fir}
use Rattle.dsp_defs.proofs.Streaming.{fir-append, fir_later-rows}
use Rattle.dsp_fir.specs.ByChannel.{IsWindowIn}

-- the rows of the window go on where the filter's values for x end
pub block-values :
    (format : Fmt) (taps x block window out : List ℤ) (count : ℕ) → IsWindowIn format (Fir taps) →
    window ≡ last_of (length taps - 1) x ++ block → length block ≡ count →
    out ≡ rows format taps window count → Continues (fir format taps) x block out
block-values format taps x block window out count is shows same is_rows =
    let some : 0 < length taps = omega (arith, is.0) in
    fir-append format taps x block
    ∙ ap (λ l. fir format taps x ++ l) (fir_later-rows format taps x block some ∙
    ap (λ w. rows format taps w (length block)) (sym shows) ∙ ap (rows format taps window) same ∙ sym is_rows)
