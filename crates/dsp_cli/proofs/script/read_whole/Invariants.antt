use Rattle.std.proofs.Common.{◌≡◌, ◌≤◌, ◌+◌, ◌-◌, vec_len}
use Rattle.dsp_cli.specs.Asking.{Drawn}
use Rattle.dsp_ports.specs.Ports.{Gave}
use Rattle.dsp_cli.proofs.script.read_whole.Given as goal

abbrev pub invariant-reading : goal.invariant-reading
invariant-reading g l =
    record {
      within : vec_len l.text ≤ l.fn.limit + 1;
      gave : Gave (g.P.Source.state l.fn.source) (g.P.Source.state l.source) l.text.items;
      drawn : Drawn g.P.Source.Reads (λ s. (g.P.Source.state s).taken) (l.fn.limit + 1) l.fn.source l.source;
      going : (g.P.Source.state l.source).ended ≡ (g.P.Source.state l.fn.source).ended;
      no_fault : (g.P.Source.state l.source).faults ≡ (g.P.Source.state l.fn.source).faults;
    }

abbrev pub decreases-reading : goal.decreases-reading
decreases-reading g l = l.fn.limit + 1 - vec_len l.text
