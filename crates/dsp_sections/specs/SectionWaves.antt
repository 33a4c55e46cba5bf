-- Four sections in lanes of 64 bits: the low word of a lane is a number of its section.
use Rattle.std.specs.Prelude.{ℕ, ◌≤◌, ◌<◌, ◌^◌, ◌≡◌, ⊤, ℤ, nat_abs, List, length, FitsSigned}
use Rattle.std.specs.Int.{w64}
use Rattle.std.specs.Simd.Lanes.{Each1}
use Rattle.dsp_defs.specs.Biquad.{Section}
use Rattle.dsp_defs.specs.Formats.{word}
use Rattle.dsp_defs.specs.Numbers.{wrap, w32}
use Rattle.dsp_defs.specs.Parameters.{greatest_biquad_shift}
use Rattle.dsp_defs.specs.Signal.{sample}
use Rattle.dsp_defs.specs.declared.format.Fmt.{Fmt}
use Rattle.dsp_defs.specs.declared.format.Fmt.TheVariants.{Q31}
use Rattle.dsp_sections.specs.Sections.{next_output}
use Rattle.dsp_sections.specs.declared.wave_lanes.WaveLanes.{WaveLanes}

-- the number in a lane
abbrev pub low : List ℤ → ℕ → ℤ
low lanes i = wrap w32 (sample lanes i)

-- four lanes with a number of the format in each
pub record AreWords (format : Fmt) (lanes : List ℤ) : Type 0 where
  pub four : length lanes ≡ 4
  pub wide : Each1 (FitsSigned w64) lanes
  pub words : (i : ℕ) → FitsSigned (word format) (low lanes i)

-- the sum of five products in a lane, which does not wrap in Q15
abbrev pub IsSum : Fmt → ℤ → Type 0
IsSum Q31 sum = ⊤
IsSum f sum = nat_abs sum < 2 ^ 33

pub record AreSections (format : Fmt) (l : WaveLanes) : Type 0 where
  pub shift : l.post_shift ≤ greatest_biquad_shift format
  pub b0 : AreWords format l.b0
  pub b1 : AreWords format l.b1
  pub b2 : AreWords format l.b2
  pub a1 : AreWords format l.a1
  pub a2 : AreWords format l.a2
  pub x1 : AreWords format l.x1
  pub x2 : AreWords format l.x2
  pub y1 : AreWords format l.y1
  pub y2 : AreWords format l.y2

-- the section of a lane
abbrev pub lane_section : WaveLanes → ℕ → Section
lane_section l i = record { b0 = low l.b0 i; b1 = low l.b1 i; b2 = low l.b2 i; a1 = low l.a1 i; a2 = low l.a2 i }

-- the first section took x, each other the last output of the one before it, and the last gave z
pub record LanesTurn (format : Fmt) (old new : WaveLanes) (x z : ℤ) : Type 0 where
  pub post_shift : new.post_shift ≡ old.post_shift
  pub sections : (i : ℕ) → lane_section new i ≡ lane_section old i
  pub first : low new.x1 0 ≡ x
  pub second : low new.x1 1 ≡ low old.y1 0
  pub third : low new.x1 2 ≡ low old.y1 1
  pub fourth : low new.x1 3 ≡ low old.y1 2
  pub before : new.x2 ≡ old.x1
  pub outputs : (i : ℕ) → i < 4 → low new.y1 i ≡ next_output format old.post_shift (lane_section old i) (low new.x1 i)
      (low old.x1 i) (low old.x2 i) (low old.y1 i) (low old.y2 i)
  pub past : new.y2 ≡ old.y1
  pub last : z ≡ low new.y1 3
