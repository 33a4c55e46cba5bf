-- The sections of a lattice with feedback, in groups. Lists stand from the last section to the first.
use Rattle.std.specs.Prelude.{ℕ, ◌≡◌, ◌+◌, ℤ, ◌+ℤ◌, ◌-ℤ◌, ◌*ℤ◌, List, [], ◌∷◌, ◌++◌, take, drop}
use Rattle.std.specs.Simd.Lanes.{zip2}
use Rattle.dsp_defs.specs.Formats.{accumulator, word_bits}
use Rattle.dsp_defs.specs.Lattice.{reflected, backward_values}
use Rattle.dsp_defs.specs.Numbers.{saturate, wrap}
use Rattle.dsp_defs.specs.Signal.{sample, sum_below}
use Rattle.dsp_defs.specs.declared.format.Fmt.{Fmt}

-- what sections pass on, the first of them given f: f_{m-1} = sat(f_m - p_m)
abbrev pub lowered_values : ℕ → ℤ → List ℤ → List ℤ
lowered_values bits f [] = []
lowered_values bits f (p ∷ ps) =
    let lower = saturate bits (f -ℤ p) in
    lower ∷ lowered_values bits lower ps

-- g_m = sat(k_m*f_{m-1} + g_{m-1}(n-1)) of sections that pass on fs
abbrev pub raised_values : Fmt → List ℤ → List ℤ → List ℤ → List ℤ
raised_values format ks fs before =
    zip2 (λ p g. saturate (word_bits format) (p +ℤ g)) (zip2 (reflected format) ks fs) before

-- The sections before `at` are done, for coefficients ks and vs and values olds. The next one is given f, and the sum
-- is that of the products so far.
pub record SectionsDone (format : Fmt) (x : ℤ) (ks vs olds news : List ℤ) (at : ℕ) (f sum : ℤ) : Type 0 where
  pub values : take at news ++ backward_values format f (drop at ks) (drop (at + 1) olds) ≡ backward_values format x
      ks (drop 1 olds)
  pub rest : drop (at + 1) news ≡ drop (at + 1) olds
  pub sum_is : sum ≡ wrap (accumulator format) (sum_below at (λ j. sample vs j *ℤ sample news j))
