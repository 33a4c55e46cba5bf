use Rattle.std.proofs.Common.{◌≡◌, ◌≤◌, ◌*◌, length, map, take}
use Rattle.dsp_unit.specs.Filter.{kept_of_all}
use Rattle.dsp_filter.proofs.kept.count_kept.Given as goal

-- the numbers of the filters so far
abbrev pub invariant-loop-filter : goal.invariant-loop-filter
invariant-loop-filter g l = record {
  counted : l.count ≡ length (kept_of_all (map g.F.Filter.filter (take l.filter-index l.filters)));
  few : l.count ≤ 4294967295 * l.filter-index;
}
