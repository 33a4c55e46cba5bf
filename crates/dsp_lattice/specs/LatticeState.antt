-- What a contract sees of a lattice.
use Rattle.std.specs.Prelude.{⊤, ◌≡◌, ◌+◌, ◌≤◌, ℤ, List, [], ◌∷◌, map, fold, length, All, FitsSigned}
use Rattle.dsp_defs.specs.Numbers.{◌>>◌, wrap, w32}
use Rattle.dsp_defs.specs.Formats.{word}
use Rattle.dsp_defs.specs.Lattice.{lattice_section}
use Rattle.dsp_defs.specs.Kept.{latest, lattice_kept, ladder_kept}
use Rattle.dsp_defs.specs.declared.limits.TheConstants.{MAX_LATTICE_SECTIONS}
use Rattle.dsp_defs.specs.declared.format.Fmt.{Fmt}
use Rattle.dsp_defs.specs.declared.format.Fmt.TheVariants.{Q7, Q31}
use Rattle.dsp_defs.specs.declared.script.Block.{Block}
use Rattle.dsp_defs.specs.declared.script.Block.TheVariants.{LatticeFir, LatticeIir}

-- a product of a reflection coefficient as a fraction: p >> 15, and wrap_32(p >> 31) in Q31
abbrev pub reflection : Fmt → ℤ → ℤ
reflection Q31 p = wrap w32 (p >> 31)
reflection format p = p >> 15

-- there is no lattice in Q7
abbrev pub HasLattice : Fmt → Type 0
HasLattice Q7 = ⊥
HasLattice format = ⊤

-- ---- without feedback

-- a section keeps the last g of its pairs (f, g)
abbrev pub section_kept : List (ℤ × ℤ) → List ℤ
section_kept pairs = latest (map (λ (w : ℤ × ℤ). w.1) pairs) 0 ∷ []

-- the sections k_1 to k_S one after another, on pairs (f, g)
abbrev pub sections_give : List ℤ → List (ℤ × ℤ) → List (ℤ × ℤ)
sections_give ks pairs = fold lattice_section pairs ks

-- f_0(n) = g_0(n) = x(n)
abbrev pub pairs_of : List ℤ → List (ℤ × ℤ)
pairs_of x = map (λ a. (a, a)) x

-- g_0, .., g_{S-1} at the last place of x
abbrev pub filter_kept : List ℤ → List ℤ → List ℤ
filter_kept ks x = lattice_kept ks (pairs_of x)

-- k_1 to k_S, and g_0, .., g_{S-1} at the last sample
pub record FirLatticeState : Type 0 where
  pub k : List ℤ
  pub kept : List ℤ

abbrev pub new_fir_lattice : List ℤ → FirLatticeState
new_fir_lattice k = record { k = k; kept = filter_kept k [] }

abbrev pub fir_block_of : FirLatticeState → Block
fir_block_of s = LatticeFir s.k

abbrev pub fir_kept_of : FirLatticeState → List ℤ
fir_kept_of s = s.kept

-- ---- with feedback

-- k_S to k_1, v_S to v_0, and g_0, .., g_{S-1} at the last sample
pub record IirLatticeState : Type 0 where
  pub k : List ℤ
  pub v : List ℤ
  pub kept : List ℤ

abbrev pub new_iir_lattice : Fmt → List ℤ → List ℤ → IirLatticeState
new_iir_lattice format k v = record { k = k; v = v; kept = ladder_kept format k [] }

abbrev pub iir_block_of : IirLatticeState → Block
iir_block_of s = LatticeIir s.k s.v

abbrev pub iir_kept_of : IirLatticeState → List ℤ
iir_kept_of s = s.kept

-- ---- the blocks

-- the reflection coefficients of a block
abbrev pub coefficients_of : Block → List ℤ
coefficients_of (LatticeFir k) = k
coefficients_of (LatticeIir k v) = k
coefficients_of block = []

-- 1 to 255 coefficients of the format
pub record AreReflections (format : Fmt) (k : List ℤ) : Type 0 where
  pub in_format : All (FitsSigned (word format)) k
  pub few : length k ≤ MAX_LATTICE_SECTIONS

-- and one more of the ladder
pub record AreLadder (format : Fmt) (k v : List ℤ) : Type 0 where
  pub in_format : All (FitsSigned (word format)) v
  pub one_more : length v ≡ length k + 1

abbrev pub IsFirLatticeIn : Fmt → Block → Type 0
IsFirLatticeIn format (LatticeFir k) = AreReflections format k
IsFirLatticeIn format block = ⊥

abbrev pub IsIirLatticeIn : Fmt → Block → Type 0
IsIirLatticeIn format (LatticeIir k v) = AreReflections format k × AreLadder format k v
IsIirLatticeIn format block = ⊥
