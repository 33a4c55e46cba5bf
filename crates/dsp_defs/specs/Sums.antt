-- Filters and whole-signal operations that are sums of products.
use Rattle.std.specs.Prelude.{ℕ, ◌-◌, ◌+◌, ◌*◌, ◌/◌, ◌%◌, max, min, ℤ, pos, ◌*ℤ◌, List, length, reverse, get_or}
use Rattle.std.specs.Prelude.{nat_eq, if◌then◌else◌}
use Rattle.dsp_defs.specs.Numbers.{◌>>◌, saturate, wrap, w32}
use Rattle.dsp_defs.specs.Formats.{close}
use Rattle.dsp_defs.specs.Signal.{sample, delayed, values, sum_below}
use Rattle.dsp_defs.specs.declared.format.Fmt.{Fmt}
use Rattle.dsp_defs.specs.declared.format.Fmt.TheVariants.{Q7, Q15, Q31}

-- the sum over k < T of b[k] * x(n-k)
abbrev pub convolution_at : List ℤ → List ℤ → ℕ → ℤ
convolution_at b x n = sum_below (length b) (λ k. sample b k *ℤ delayed x n k)

-- y(n) = close(sum over k < T of b[k] * x(n-k)); the taps stand from b[T-1] to b[0]
abbrev pub fir : Fmt → List ℤ → List ℤ → List ℤ
fir format taps x = values (length x) (λ n. close format (convolution_at (reverse taps) x n))

-- y(j) = close(sum over k < T of b[k] * x(j*M-k)) for j < floor(N/M)
abbrev pub decimate : Fmt → ℕ → List ℤ → List ℤ → List ℤ
decimate format factor taps x =
    values (length x / factor) (λ j. close format (convolution_at (reverse taps) x (j * factor)))

-- b[p], b[L+p], b[2*L+p], ..: the taps of phase p
abbrev pub phase_taps : ℕ → List ℤ → ℕ → List ℤ
phase_taps factor b p = values (length b / factor) (λ k. sample b (factor * k + p))

-- y(n*L+p) = close(sum over k < T/L of b[L*k+p] * x(n-k)) for n < N, p < L
abbrev pub interpolate : Fmt → ℕ → List ℤ → List ℤ → List ℤ
interpolate format factor taps x =
    values (length x * factor) (λ i. close format (convolution_at (phase_taps factor (reverse taps) (i % factor)) x
    (i / factor)))

-- one product of the sparse filter: b*x, and b*x >> 32 in Q31
abbrev pub sparse_term : Fmt → ℤ → ℤ → ℤ
sparse_term Q7 b x = b *ℤ x
sparse_term Q15 b x = b *ℤ x
sparse_term Q31 b x = b *ℤ x >> 32

-- sat_8(wrap_32(s) >> 7), sat_16(wrap_32(s) >> 15), wrap_32(2*s): the accumulator has 32 bits in each format
abbrev pub sparse_close : Fmt → ℤ → ℤ
sparse_close Q7 s = saturate 8 (wrap w32 s >> 7)
sparse_close Q15 s = saturate 16 (wrap w32 s >> 15)
sparse_close Q31 s = wrap w32 (pos 2 *ℤ s)

-- y(n) from the sum over k < T of b[k] * x(n-d[k])
abbrev pub sparse : Fmt → List ℤ → List ℕ → List ℤ → List ℤ
sparse format b delays x =
    values (length x) (λ n. sparse_close format (sum_below (length b)
    (λ k. sparse_term format (sample b k) (delayed x n (get_or delays k 0)))))

-- the values of a full convolution of N and T numbers: N+T-1, or 0 where N is 0
abbrev pub full_length : ℕ → ℕ → ℕ
full_length n t = if nat_eq n 0 then 0 else (n + t - 1)

-- y(n) = close(sum over k of b[k] * x(n-k)), also past the end of x
abbrev pub conv : Fmt → List ℤ → List ℤ → List ℤ
conv format b x = values (full_length (length x) (length b)) (λ n. close format (convolution_at b x n))

-- y(first), .., y(first+count-1) of the full convolution, as far as it goes
abbrev pub conv_partial : Fmt → ℕ → ℕ → List ℤ → List ℤ → List ℤ
conv_partial format first count b x =
    values (min count (full_length (length x) (length b) - first)) (λ n. close format (convolution_at b x (first + n)))

-- c(n) = close(sum over k of x(k) * b[k-(n-(m-1))]) for n < 2*m-1, with m the greater length
abbrev pub correlate : Fmt → List ℤ → List ℤ → List ℤ
correlate format b x =
    let m = max (length x) (length b) in
    values (if nat_eq (length x) 0 then 0 else (2 * m - 1))
    (λ n. close format (sum_below (length x) (λ k. sample x k *ℤ delayed b (k + m - 1) n)))
