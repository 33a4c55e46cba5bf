use Rattle.std.proofs.Common.{◌≡◌, ◌-◌, ◌≤◌, ℕ, List, length}
use Rattle.dsp_ports.specs.Ports.{Gave}
use Rattle.dsp_ports.proofs.filling.skip.Given as goal

abbrev pub invariant-loop-skipped : goal.invariant-loop-skipped
invariant-loop-skipped g l =
    record {
      within : l.skipped ≤ l.count;
      room : l.skipped ≤ l.room;
      came : (bytes : List ℕ) × (length bytes ≡ l.skipped) ×
          Gave (g.S.Source.state l.fn.input) (g.S.Source.state l.input) bytes;
      going : (g.S.Source.state l.input).ended ≡ (g.S.Source.state l.fn.input).ended;
      faults : (g.S.Source.state l.input).faults ≡ (g.S.Source.state l.fn.input).faults;
    }

abbrev pub decreases-loop-skipped : goal.decreases-loop-skipped
decreases-loop-skipped g l = l.count - l.skipped
