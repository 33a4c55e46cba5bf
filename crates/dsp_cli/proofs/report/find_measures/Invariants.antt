use Rattle.std.proofs.Common.{◌≡◌, ◌≤◌, take, length, vec_capacity}
use Rattle.dsp_session.specs.Session.{measured}
use Rattle.dsp_cli.proofs.report.find_measures.Given as goal

-- the measures so far are in the list, which has room for all
abbrev pub invariant-loop-index : goal.invariant-loop-index
invariant-loop-index g l = (l.measures.items ≡ take l.index (measured l.session)) ×
    (length (measured l.session) ≤ vec_capacity l.measures)
