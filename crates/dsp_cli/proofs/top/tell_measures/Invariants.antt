use Rattle.std.proofs.Common.{◌≡◌, take, flat_map}
use Rattle.dsp_command.specs.Report.{measure_line}
use Rattle.dsp_cli.specs.Run.{Wrote}
use Rattle.dsp_cli.proofs.top.tell_measures.Given as goal

-- the lines so far were reported
abbrev pub invariant-loop-measure : goal.invariant-loop-measure
invariant-loop-measure g l =
    Wrote (flat_map measure_line (take l.measure-index l.measures)) (g.R.Sink.state l.fn.report)
    (g.R.Sink.state l.report) × ((g.R.Sink.state l.report).faults ≡ (g.R.Sink.state l.fn.report).faults)
