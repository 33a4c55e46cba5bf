use Rattle.std.proofs.Common.{ℕ, ◌<◌, map}
use Rattle.dsp_unit.specs.Filter.{filter_at}
use Rattle.dsp_defs.specs.Kept.{FitsChannel}
use Rattle.dsp_unit.specs.Channels.{numbers_in}
use Rattle.dsp_filter.proofs.kept.place_channels.Given as goal

-- the numbers of the channels so far fit at the first one's place
abbrev pub invariant-loop-channel : goal.invariant-loop-channel
invariant-loop-channel g l =
    (c : ℕ) → c < l.channel → FitsChannel (filter_at (map g.F.Filter.filter l.filters) c).format
    (filter_at (map g.F.Filter.filter l.filters) c).block l.place (numbers_in l.size l.numbers c)
