-- Words of the contracts on block lengths and frames.
use Rattle.std.specs.Prelude.{ℕ, ◌≤◌, ◌&&◌, nat_le, Bool, IsTrue, Option, Some, None}
use Rattle.dsp_defs.specs.declared.limits.TheConstants.{MAX_BLOCK_LENGTH, MAX_SAMPLES}
use Rattle.dsp_defs.specs.declared.script.Script.{Script}
use Rattle.dsp_defs.specs.Shape.{Pace, is_legal}

-- some block length is legal
abbrev pub HasLegalBlock : Script → Type 0
HasLegalBlock s = (length : ℕ) × IsTrue (is_legal s.input.channels s.blocks length)

-- a group has frames and gives some
abbrev pub IsGroup : Option (ℕ × ℕ) → Type 0
IsGroup None = Unit {0}
IsGroup (Some g) = (1 ≤ g.0) × (1 ≤ g.1)

-- a legal block may have this pace
abbrev pub is_small : Pace → Bool
is_small pace = nat_le pace.unit MAX_BLOCK_LENGTH && nat_le pace.frames MAX_SAMPLES

pub record IsSmall (pace : Pace) : Type 0 where
  pub unit : (1 ≤ pace.unit) × (pace.unit ≤ MAX_BLOCK_LENGTH)
  pub frames : (1 ≤ pace.frames) × (pace.frames ≤ MAX_SAMPLES)
