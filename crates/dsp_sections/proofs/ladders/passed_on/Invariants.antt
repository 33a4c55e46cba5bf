use Rattle.std.proofs.Common.{◌≡◌, ◌-◌, take}
use Rattle.dsp_defs.specs.Formats.{word_bits}
use Rattle.dsp_defs.specs.Signal.{sample}
use Rattle.dsp_sections.specs.Ladders.{lowered_values}
use Rattle.dsp_sections.proofs.ladders.passed_on.Given as goal

abbrev pub invariant-loop-right : goal.invariant-loop-right
invariant-loop-right g l = record {
  fit : g.T.LadderLanes.AreLanes l.values;
  right : take l.right (g.T.LadderLanes.lanes l.values) ≡ take l.right
      (lowered_values (word_bits g.T.Sample.format) (sample (g.T.LadderLanes.lanes l.front) (g.T.LadderLanes.size - 1))
      (g.T.LadderLanes.lanes l.products));
}
