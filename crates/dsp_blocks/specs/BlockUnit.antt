-- What a contract sees of the unit of any block.
use Rattle.std.specs.Prelude.{ℕ, ◌*◌, ◌≤◌}
use Rattle.dsp_unit.specs.Unit.{UnitState, most_frames, most_room}
use Rattle.dsp_defs.specs.declared.limits.TheConstants.{MAX_SAMPLES}
use Rattle.dsp_defs.specs.declared.script.Block.{Block}
use Rattle.dsp_blocks.specs.declared.block_unit.BlockUnit.{BlockUnit}
use Rattle.dsp_blocks.specs.declared.block_unit.BlockUnit.TheVariants as unit

-- the unit that it holds
abbrev pub state_of : BlockUnit → UnitState
state_of (unit.Vector u) = u
state_of (unit.Complex u) = u
state_of (unit.Fir7 u) = u
state_of (unit.Fir15 u) = u
state_of (unit.Fir31 u) = u
state_of (unit.Decimate15 u) = u
state_of (unit.Decimate31 u) = u
state_of (unit.Interpolate15 u) = u
state_of (unit.Interpolate31 u) = u
state_of (unit.LatticeFir15 u) = u
state_of (unit.LatticeIir15 u) = u
state_of (unit.LatticeIir31 u) = u
state_of (unit.Biquad15 u) = u.unit
state_of (unit.Biquad31 u) = u.unit
state_of (unit.Biquad64 u) = u.unit
state_of (unit.Bank15 u) = u
state_of (unit.Bank31 u) = u
state_of (unit.Conv7 u) = u
state_of (unit.Conv15 u) = u
state_of (unit.Conv31 u) = u
state_of (unit.Correlate7 u) = u
state_of (unit.Correlate15 u) = u
state_of (unit.Correlate31 u) = u
state_of (unit.Lms15 u) = u
state_of (unit.Lms31 u) = u
state_of (unit.Pid15 u) = u
state_of (unit.Pid31 u) = u
state_of (unit.Matrix15 u) = u
state_of (unit.Matrix31 u) = u
state_of (unit.MatMult15 u) = u
state_of (unit.Measure u) = u

-- a place of c channels at which a call takes at most n frames: some of each, and few samples are taken and given
pub record HasRoom (b : Block) (c n : ℕ) : Type 0 where
  pub channels : 1 ≤ c
  pub frames : 1 ≤ n
  pub samples : n * c ≤ MAX_SAMPLES
  pub given : most_frames b n * c ≤ most_room
