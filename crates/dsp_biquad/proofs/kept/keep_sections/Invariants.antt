use Rattle.std.proofs.Common.{◌≡◌, ◌*◌, flat_map, take}
use Rattle.dsp_biquad.proofs.kept.keep_sections.Given as goal

-- the numbers of the sections so far are written
abbrev pub invariant-loop-k : goal.invariant-loop-k
invariant-loop-k g l = take (l.k * 4) l.out ≡ flat_map g.S.Machine.kept (take l.k l.sections)
