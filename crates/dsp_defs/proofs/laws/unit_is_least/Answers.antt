use Rattle.dsp_defs.proofs.UnitLaws.{whole_unit-positive, whole_groups-forth, whole_groups-back}
use Rattle.dsp_defs.proofs.laws.unit_is_least.Goals as goal

pub returns-clause-positive : goal.returns-clause-positive
returns-clause-positive c = whole_unit-positive c.args.script.now.blocks

pub returns-clause-multiples : goal.returns-clause-multiples
returns-clause-multiples c = λ n h. (
  whole_groups-forth c.args.script.now.blocks n h,
  whole_groups-back c.args.script.now.blocks n h,
)
