use Rattle.std.proofs.Common.{◌≡◌, ◌*◌, take}
use Rattle.std.specs.List.{flat_map}
use Rattle.dsp_defs.specs.Bytes.{bytes_of, width}
use Rattle.dsp_wave.proofs.slices.encode_by.Given as goal

-- the bytes so far are those of the samples so far
abbrev pub invariant-loop-i : goal.invariant-loop-i
invariant-loop-i l = take (l.i * width l.coding) l.bytes ≡ flat_map (bytes_of l.coding) (take l.i l.samples)
