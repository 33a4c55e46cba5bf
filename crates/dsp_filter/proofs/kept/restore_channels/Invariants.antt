use Rattle.std.proofs.Common.{map}
use Rattle.dsp_filter.proofs.Rounds.{RestoredSoFar}
use Rattle.dsp_filter.proofs.kept.restore_channels.Given as goal

-- the channels so far keep their numbers
abbrev pub invariant-loop-channel : goal.invariant-loop-channel
invariant-loop-channel g l = RestoredSoFar (map g.F.Filter.filter l.initial.filters) (map g.F.Filter.filter l.filters)
    l.channel l.size l.numbers
