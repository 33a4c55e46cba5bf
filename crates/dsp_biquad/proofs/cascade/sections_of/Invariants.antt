use Rattle.std.proofs.Common.{◌≡◌, ◌*◌, [], length, map, flat_map, drop}
use Rattle.dsp_defs.specs.Streaming.{then, chained}
use Rattle.dsp_biquad.specs.Sections.{block_acts}
use Rattle.dsp_biquad.proofs.cascade.sections_of.Given as goal

-- the sections so far, and then the block of the coefficients that are left, are the block of all
abbrev pub invariant-loop-k : goal.invariant-loop-k
invariant-loop-k g l = record {
  count : length l.sections.items ≡ l.k;
  acts : then (chained (map g.S.Machine.acts l.sections.items))
      (block_acts g.T.Sample.format (g.S.CascadeSection.block l.post_shift
      (drop (l.k * g.S.CascadeSection.SIZE) (map g.T.Sample.number l.coefficients)))) ≡ block_acts g.T.Sample.format
      (g.S.CascadeSection.block l.post_shift (map g.T.Sample.number l.coefficients));
  kept : flat_map g.S.Machine.kept l.sections.items ≡ (chained (map g.S.Machine.acts l.sections.items)).keeps [];
  quiet : (chained (map g.S.Machine.acts l.sections.items)).gives [] ≡ [];
}
