use Rattle.std.proofs.Common.{◌≡◌, ◌*◌, flat_map, map, take}
use Rattle.dsp_biquad.proofs.kept.restore_sections.Given as goal

-- the sections so far keep their numbers
abbrev pub invariant-loop-k : goal.invariant-loop-k
invariant-loop-k g l = record {
  acts : map g.S.Machine.acts l.sections ≡ map g.S.Machine.acts l.initial.sections;
  kept : flat_map g.S.Machine.kept (take l.k l.sections) ≡ take (l.k * 4) l.numbers;
}
