use Rattle.std.proofs.Common.{◌≡◌, map, take, drop}
use Rattle.dsp_session.specs.Session.{measured}
use Rattle.dsp_c.specs.Measures.{row_of}
use Rattle.dsp_c.proofs.measures.write_measures.Given as goal

-- the first rows are written, and the rest is as it was
abbrev pub invariant-loop-index : goal.invariant-loop-index
invariant-loop-index g l = (take l.index l.measures ≡ map row_of (take l.index (measured l.fn.session))) ×
    (drop l.index l.measures ≡ drop l.index l.fn.measures)
