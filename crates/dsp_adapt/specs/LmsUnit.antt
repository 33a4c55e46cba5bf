-- What a contract sees of a unit of an LMS filter.
use Rattle.std.specs.Prelude.{ℕ, ◌≡◌, ◌≤◌, ◌-◌, ◌*◌, ℤ, Bool, false, List, [], ◌∷◌, length, map, FitsSigned}
use Rattle.dsp_defs.specs.Adaptive.{Adapted, lms}
use Rattle.dsp_defs.specs.Block.{Frame}
use Rattle.dsp_defs.specs.Formats.{word}
use Rattle.dsp_defs.specs.Parameters.{greatest_lms_shift}
use Rattle.dsp_unit.specs.Unit.{UnitState}
use Rattle.dsp_filter.specs.Making.{AreTaps}
use Rattle.dsp_defs.specs.declared.format.Fmt.{Fmt}
use Rattle.dsp_defs.specs.declared.limits.TheConstants.{MAX_SAMPLES}
use Rattle.dsp_defs.specs.declared.script.Block.{Block}
use Rattle.dsp_defs.specs.declared.script.Block.TheVariants.{Lms}
use Rattle.dsp_adapt.specs.LmsState.{LmsState, kept}

-- the unit of the filter
abbrev pub unit_of_lms : Fmt → LmsState → Bool → UnitState
unit_of_lms format s ended = record {
  block = Lms s.post_shift s.mu s.taps;
  format = format;
  channels = 2;
  capacity = s.block;
  banked = false;
  kept = kept s;
  tail = [];
  ended = ended;
}

-- it has a row for each of what a call takes and gives, and as many numbers as its filter keeps
pub record HasRows (s : LmsState) (inputs references outputs errors : ℕ) : Type 0 where
  pub inputs_long : inputs ≡ s.block
  pub references_long : references ≡ s.block
  pub outputs_long : outputs ≡ s.block
  pub errors_long : errors ≡ s.block
  pub few : s.block * 2 ≤ MAX_SAMPLES
  pub past_long : length s.past ≡ length s.taps - 1
  pub weights_long : length s.weights ≡ length s.taps

-- the block is an LMS filter of the format
abbrev pub IsLmsIn : Fmt → Block → Type 0
IsLmsIn format (Lms post_shift mu taps) = (post_shift ≤ greatest_lms_shift format) × FitsSigned (word format) mu ×
    AreTaps format taps
IsLmsIn format block = ⊥

-- the frames of outputs and errors of a signal of pairs
abbrev pub lms_frames : Fmt → LmsState → List (ℤ × ℤ) → List Frame
lms_frames format s x = map (λ (a : Adapted). a.output ∷ a.error ∷ []) (lms format s.post_shift s.mu s.taps x)
