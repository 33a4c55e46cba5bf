-- Complex numbers in a list: the real and the imaginary part of each, one after the other.
use Rattle.std.specs.Prelude.{ℕ, ◌+◌, ◌*◌, ℤ, List}
use Rattle.std.specs.List.{flat_map, range_with_len}
use Rattle.dsp_defs.specs.Signal.{sample}
use Rattle.dsp_defs.specs.Block.{pair_frame}

-- the real part of number n
abbrev pub re : List ℤ → ℕ → ℤ
re x n = sample x (n * 2)

-- and its imaginary part
abbrev pub im : List ℤ → ℕ → ℤ
im x n = sample x (n * 2 + 1)

-- the parts of the numbers f(0), .., f(n-1)
abbrev pub interleaved : ℕ → (ℕ → ℤ × ℤ) → List ℤ
interleaved n f = flat_map (λ k. pair_frame (f k)) (range_with_len 0 n)
