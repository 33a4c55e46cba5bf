use Rattle.std.proofs.Common.{◌≡◌, length}
use Rattle.std.specs.Prelude.{All}
use Rattle.dsp_unit.specs.Filter.{IsNewFilter}
use Rattle.dsp_filter.proofs.each_channel.EachChannel.new.Given as goal

-- as many new filters as there were turns
abbrev pub invariant-loop : goal.invariant-loop
invariant-loop g l = record {
  count : length l.filters.items ≡ l.counter;
  fresh : All (λ f. IsNewFilter l.block g.T.Sample.format l.frames (g.F.Filter.filter f)) l.filters.items;
}
