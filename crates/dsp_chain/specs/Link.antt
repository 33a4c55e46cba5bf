-- What a link holds.
use Rattle.std.specs.Prelude.{◌≡◌, ◌≤◌, ℕ}
use Rattle.dsp_defs.specs.Kept.{kept_count}
use Rattle.dsp_unit.specs.Unit.{UnitState, room_of}
use Rattle.dsp_shape.specs.FrameRule.{rule_of, IsRule}
use Rattle.dsp_shape.specs.KeptRule.{kept_rule}
use Rattle.dsp_shape.specs.declared.frame_rule.FrameRule.{FrameRule}
use Rattle.dsp_shape.specs.declared.kept_rule.KeptRule.{KeptRule}

-- the rule of the numbers that a unit keeps
abbrev pub unit_rule : UnitState → KeptRule
unit_rule u = kept_rule (kept_count u.format u.channels u.block 0) u.channels u.block

-- the rules are those of the unit, and there is room for what it writes
pub record IsLink (frames : FrameRule) (numbers : KeptRule) (room : ℕ) (u : UnitState) : Type 0 where
  pub fits : room_of u ≤ room
  pub frames_are : frames ≡ rule_of u.block
  pub numbers_are : numbers ≡ unit_rule u
  pub is_rule : IsRule frames
