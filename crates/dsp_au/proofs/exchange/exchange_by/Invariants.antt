use Rattle.std.proofs.Common.{◌≡◌, ◌*◌, take, drop}
use Rattle.dsp_au.specs.Exchange.{exchanged_first}
use Rattle.dsp_au.proofs.exchange.exchange_by.Given as goal

-- the samples so far stand in the other form, and the rest as it was
abbrev pub invariant-loop-i : goal.invariant-loop-i
invariant-loop-i l = record {
  front : take (l.i * l.width) l.bytes ≡ exchanged_first l.i l.width l.initial.bytes;
  rest : drop (l.i * l.width) l.bytes ≡ drop (l.i * l.width) l.initial.bytes;
}
