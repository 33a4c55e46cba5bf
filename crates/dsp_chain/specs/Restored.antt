-- Save and resume of a chain: the numbers that it keeps, which numbers it can keep, and what it is with them.
use Rattle.std.specs.Prelude.{◌≡◌, ℕ, ◌≤◌, ℤ, false, List, [], ◌∷◌, ◌++◌, length, flat_map, None}
use Rattle.dsp_defs.specs.Block.{Frame}
use Rattle.dsp_defs.specs.Kept.{FitsAfter, FitsBlocks, kept_of_chain}
use Rattle.dsp_defs.specs.Shape.{live_frames, gathered}
use Rattle.dsp_unit.specs.Unit.{UnitState, Restores}
use Rattle.dsp_unit.specs.Line.{blocks_of}
use Rattle.dsp_defs.specs.declared.limits.TheConstants.{MAX_GATHERED, MAX_INPUT}
use Rattle.dsp_chain.specs.Chain.{ChainState, ChainStandsFor, SameChain, IsLive}

-- the numbers of units, one after another
abbrev pub kept_by : List UnitState → List ℤ
kept_by us = flat_map (λ (u : UnitState). u.kept) us

abbrev pub kept_of : ChainState → List ℤ
kept_of c = kept_by c.units

-- the chain can have been fed with so many frames, and can keep these numbers of them
pub record FitsChain (c : ChainState) (frames : ℕ) (numbers : List ℤ) : Type 0 where
  pub limit : frames ≤ MAX_INPUT
  pub gathers : gathered (blocks_of c.units) frames ≤ MAX_GATHERED
  pub fits : FitsBlocks c.input.format c.input.channels (blocks_of c.units) frames numbers

-- the same of units
abbrev pub FitsUnits : List UnitState → ℕ → List ℤ → Type 0
FitsUnits [] n numbers = numbers ≡ []
FitsUnits (u ∷ us) n numbers =
    (here later : List ℤ) × (numbers ≡ here ++ later) × FitsAfter u.format u.channels u.block n here ×
    FitsUnits us (live_frames u.block n) later

-- each unit keeps its numbers from now on, which it can keep of the live frames at its place
abbrev pub AllRestores : List UnitState → List UnitState → ℕ → List ℤ → Type 0
AllRestores [] [] n numbers = numbers ≡ []
AllRestores (u ∷ us) (v ∷ vs) n numbers =
    (here later : List ℤ) × (numbers ≡ here ++ later) × FitsAfter u.format u.channels u.block n here × Restores u v here
    × AllRestores us vs (live_frames u.block n) later
AllRestores us vs n numbers = ⊥

-- the chain keeps these numbers from now on, and so many frames count as fed
pub record RestoresChain (old new : ChainState) (frames : ℕ) (numbers : List ℤ) : Type 0 where
  pub same : SameChain old new
  pub running : new.ended ≡ false
  pub works : new.failed ≡ None
  pub counted : new.frames ≡ frames
  pub kept : kept_of new ≡ numbers
  pub live : IsLive new
  pub stands : (x : List Frame) → length x ≡ frames → numbers ≡ kept_of_chain old.input.format old.input.channels
      (blocks_of old.units) x → ChainStandsFor new x
