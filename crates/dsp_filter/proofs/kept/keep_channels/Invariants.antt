use Rattle.std.proofs.Common.{◌≡◌, length, map, take}
use Rattle.dsp_unit.specs.Filter.{kept_of_all}
use Rattle.dsp_filter.proofs.kept.keep_channels.Given as goal

-- the numbers of the filters so far are written
abbrev pub invariant-loop-filter : goal.invariant-loop-filter
invariant-loop-filter g l = record {
  counted : l.place ≡ length (kept_of_all (map g.F.Filter.filter (take l.filter-index l.filters)));
  written : take l.place l.out ≡ kept_of_all (map g.F.Filter.filter (take l.filter-index l.filters));
}
