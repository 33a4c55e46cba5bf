use Rattle.std.proofs.Common.{◌≡◌, ◌*◌, ◌/◌, take, drop}
use Rattle.dsp_au.specs.Exchange.{exchanged_first}
use Rattle.dsp_au.proofs.exchange.exchange_groups.Given as goal

-- the groups so far stand in the other form, and the rest as it was
abbrev pub invariant-loop-i : goal.invariant-loop-i
invariant-loop-i l = record {
  front : take (l.i * 48) l.bytes ≡ exchanged_first (l.i * (48 / l.width)) l.width l.initial.bytes;
  rest : drop (l.i * 48) l.bytes ≡ drop (l.i * 48) l.initial.bytes;
}
