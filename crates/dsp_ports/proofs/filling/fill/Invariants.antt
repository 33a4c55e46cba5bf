use Rattle.std.proofs.Common.{◌≡◌, ◌≤◌, ◌-◌, length, min, take}
use Rattle.dsp_ports.specs.Fill.{Asked}
use Rattle.dsp_ports.specs.Ports.{Gave}
use Rattle.dsp_ports.proofs.filling.fill.Given as goal

abbrev pub invariant-loop-filled : goal.invariant-loop-filled
invariant-loop-filled g l =
    record {
      within : l.filled ≤ length l.initial.block;
      room : l.filled ≤ l.room;
      gave : Gave (g.S.Source.state l.fn.input) (g.S.Source.state l.input) (take l.filled l.block);
      faults : (g.S.Source.state l.input).faults ≡ (g.S.Source.state l.fn.input).faults;
      asked : Asked g.S.Source.Reads (λ s. (g.S.Source.state s).taken) (min (length l.initial.block) l.room)
          l.fn.input l.filled l.input;
      going : (g.S.Source.state l.input).ended ≡ (g.S.Source.state l.fn.input).ended;
      fresh : l.filled ≡ 0 → l.input ≡ l.fn.input;
    }

abbrev pub decreases-loop-filled : goal.decreases-loop-filled
decreases-loop-filled g l = length l.block - l.filled
