use Rattle.std.proofs.Common.{◌≤◌, ◌-◌, ◌*◌, length, map}
use Rattle.dsp_defs.specs.Counts.{Rises}
use Rattle.dsp_defs.specs.Formats.{accumulator}
use Rattle.dsp_defs.specs.Numbers.{wrap}
use Rattle.dsp_defs.specs.Signal.{sample}
use Rattle.dsp_sections.specs.Ladders.{SectionsDone}
use Rattle.dsp_sections.proofs.ladders.section_groups.Given as goal

-- so far the sections are done; the last lane has what they passed on
abbrev pub invariant-pairs : goal.invariant-pairs
invariant-pairs g l = record {
  within : l.at ≤ length l.reflections;
  fit_front : g.T.LadderLanes.AreLanes l.front;
  fit_sums : g.D.DotForm.AreSums l.sums;
  done : SectionsDone g.T.Sample.format (g.T.Sample.number l.fn.x) (map g.T.Sample.number l.reflections)
      (map g.T.Sample.number l.ladder) (map g.T.Sample.number l.fn.backward) (map g.T.Sample.number l.backward) l.at
      (sample (g.T.LadderLanes.lanes l.front) (g.T.LadderLanes.size - 1))
      (wrap (accumulator g.T.Sample.format) (g.D.DotForm.value l.sums));
  counted : Rises l.fn.steps l.steps (3 * l.at) (3 * l.at);
}

abbrev pub decreases-pairs : goal.decreases-pairs
decreases-pairs g l = length l.reflections - l.at

abbrev pub invariant-groups : goal.invariant-groups
invariant-groups g l = record {
  within : l.at ≤ length l.reflections;
  fit_front : g.T.LadderLanes.AreLanes l.front;
  fit_sums : g.D.DotForm.AreSums l.sums;
  done : SectionsDone g.T.Sample.format (g.T.Sample.number l.fn.x) (map g.T.Sample.number l.reflections)
      (map g.T.Sample.number l.ladder) (map g.T.Sample.number l.fn.backward) (map g.T.Sample.number l.backward) l.at
      (sample (g.T.LadderLanes.lanes l.front) (g.T.LadderLanes.size - 1))
      (wrap (accumulator g.T.Sample.format) (g.D.DotForm.value l.sums));
  counted : Rises l.fn.steps l.steps (3 * l.at) (3 * l.at);
}

abbrev pub decreases-groups : goal.decreases-groups
decreases-groups g l = length l.reflections - l.at
