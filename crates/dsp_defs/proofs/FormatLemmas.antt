-- Closing a sum that was wrapped on the way.
use Rattle.std.proofs.Common.{◌≡◌, ap, ℤ}
use Rattle.std.specs.Int.{Width, w32, w64}
use Rattle.std.proofs.lemmas.Int.{int_wrap_fits, SFits-int_wrap}
use Rattle.dsp_defs.specs.declared.format.Fmt.{Fmt}
use Rattle.dsp_defs.specs.declared.format.Fmt.TheVariants.{Q7, Q15, Q31}
use Rattle.dsp_defs.specs.Numbers.{◌>>◌, saturate, wrap}
use Rattle.dsp_defs.specs.Formats.{accumulator, close}

pub wrap-wrap : (w : Width) (z : ℤ) → wrap w (wrap w z) ≡ wrap w z
wrap-wrap w z = int_wrap_fits w (wrap w z) (SFits-int_wrap w z)

pub close-wrap : (format : Fmt) (sum : ℤ) → close format (wrap (accumulator format) sum) ≡ close format sum
close-wrap Q7 sum = ap (λ z. saturate 8 (z >> 7)) (wrap-wrap w32 sum)
close-wrap Q15 sum = ap (λ z. saturate 16 (z >> 15)) (wrap-wrap w64 sum)
close-wrap Q31 sum = ap (λ z. wrap w32 (z >> 31)) (wrap-wrap w64 sum)
