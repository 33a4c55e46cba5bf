use Rattle.std.proofs.Common.{◌≡◌, ◌++◌}
use Rattle.dsp_defs.specs.Bytes.{coded, coding_of}
use Rattle.dsp_defs.specs.Signal.{values}
use Rattle.dsp_check.specs.Channels.{frame_at}
use Rattle.dsp_check.proofs.bytes.add_coded.Given as goal

-- the bytes so far
abbrev pub invariant-loop-n : goal.invariant-loop-n
invariant-loop-n l =
    l.out.items ≡ l.fn.out.items ++ coded (coding_of l.fn.container l.fn.format) (values l.n (frame_at l.signal))
