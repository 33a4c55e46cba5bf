use Rattle.dsp_defs.specs.Bytes.{format_in}
use Rattle.dsp_check.proofs.Signals.{AreFirst, frame_of}
use Rattle.dsp_check.proofs.bytes.signal_of.Given as goal

-- the frames so far
abbrev pub invariant-loop-n : goal.invariant-loop-n
invariant-loop-n l = AreFirst (format_in l.coding) l.channels l.n (frame_of l.coding l.channels l.bytes) l.signal
