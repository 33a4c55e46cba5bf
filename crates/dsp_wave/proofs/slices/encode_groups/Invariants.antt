use Rattle.std.proofs.Common.{◌≡◌, ◌*◌, take}
use Rattle.std.specs.List.{flat_map}
use Rattle.dsp_defs.specs.Bytes.{bytes_of}
use Rattle.dsp_wave.proofs.slices.encode_groups.Given as goal

-- the bytes of the groups so far are written
abbrev pub invariant-loop-group : goal.invariant-loop-group
invariant-loop-group l = take (l.group * 32) l.bytes ≡ flat_map (bytes_of l.coding) (take (l.group * 32) l.samples)
