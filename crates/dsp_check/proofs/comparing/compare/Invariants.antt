use Rattle.std.proofs.Common.{◌≡◌, take}
use Rattle.dsp_ports.specs.Ports.{Gave}
use Rattle.dsp_check.proofs.comparing.compare.Given as goal

-- the bytes so far are those wanted
abbrev pub invariant-loop-offset : goal.invariant-loop-offset
invariant-loop-offset g l = record {
  gave : Gave (g.O.Source.state l.fn.other) (g.O.Source.state l.other) (take l.offset l.wanted);
  going : (g.O.Source.state l.other).ended ≡ (g.O.Source.state l.fn.other).ended;
  faults : (g.O.Source.state l.other).faults ≡ (g.O.Source.state l.fn.other).faults;
}
