-- The sums that measures keep.
use Rattle.std.specs.Prelude.{◌+ℤ◌, ◌-ℤ◌, ◌/◌, ℕ, ℤ, List, length}
use Rattle.dsp_defs.specs.Formats.{accumulator}
use Rattle.dsp_defs.specs.Measure.{measured_product, cmplx_dot_sums}
use Rattle.dsp_defs.specs.Numbers.{wrap}
use Rattle.dsp_defs.specs.Signal.{sample, sum_below}
use Rattle.dsp_defs.specs.declared.format.Fmt.{Fmt}
use Rattle.dsp_unit.specs.Channels.{samples_in}

-- a sum that goes on by the products of further numbers: wrap(start + x(0)*y(0) + .. + x(n-1)*y(n-1))
abbrev pub with_products : Fmt → ℤ → List ℤ → List ℤ → ℤ
with_products format start x y = wrap (accumulator format)
    (start +ℤ sum_below (length x) (λ k. measured_product format (sample x k) (sample y k)))

-- the two sums of complex products go on: wrap(re + .. a*c - b*d ..), wrap(im + .. a*d + b*c ..)
abbrev pub with_complex : Fmt → ℤ × ℤ → List ℤ → List ℤ → List ℤ → List ℤ → ℤ × ℤ
with_complex format start a b c d =
    let p : ℤ → ℤ → ℤ = measured_product format in (
      wrap (accumulator format) (start.0 +ℤ sum_below (length a)
          (λ n. p (sample a n) (sample c n) -ℤ p (sample b n) (sample d n))),
      wrap (accumulator format) (start.1 +ℤ sum_below (length a)
          (λ n. p (sample a n) (sample d n) +ℤ p (sample b n) (sample c n))),
    )

-- the parts of complex numbers that stand the real part first: the real ones (0), the imaginary ones (1)
abbrev pub parts_in : List ℤ → ℕ → List ℤ
parts_in x part = samples_in 2 (length x / 2) x part

-- the two sums over complex numbers that stand so
abbrev pub complex_sums : Fmt → List ℤ → List ℤ → ℤ × ℤ
complex_sums format x y = cmplx_dot_sums format (parts_in x 0) (parts_in x 1) (parts_in y 0) (parts_in y 1)

-- a sum that goes on by the products of two channels of the frames in a slice
abbrev pub with_channels : Fmt → ℤ → ℕ → List ℤ → ℕ → ℕ → ℤ
with_channels format start channels frames a b =
    let of : ℕ → List ℤ = samples_in channels (length frames / channels) frames in
    with_products format start (of a) (of b)

-- two sums that go on by the complex products of the first four channels
abbrev pub with_complex_channels : Fmt → ℤ × ℤ → ℕ → List ℤ → ℤ × ℤ
with_complex_channels format start channels frames =
    let of : ℕ → List ℤ = samples_in channels (length frames / channels) frames in
    with_complex format start (of 0) (of 1) (of 2) (of 3)

-- and by those of complex numbers that stand the real part first
abbrev pub with_complex_slices : Fmt → ℤ × ℤ → List ℤ → List ℤ → ℤ × ℤ
with_complex_slices format start x y = with_complex format start (parts_in x 0) (parts_in x 1) (parts_in y 0)
    (parts_in y 1)
