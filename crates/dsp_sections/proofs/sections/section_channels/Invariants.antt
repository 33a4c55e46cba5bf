use Rattle.std.proofs.Common.{◌≡◌, ◌+◌, ◌*◌, ◌<◌, ◌≤◌, ℕ, length, map}
use Rattle.std.specs.Simd.Lanes.{chunk}
use Rattle.dsp_defs.specs.Counts.{Rises}
use Rattle.dsp_sections.specs.Sections.{five_of, Follows, Stays}
use Rattle.dsp_sections.proofs.sections.section_channels.Given as goal

-- the registers hold what stands in the last two frames; so many outputs of the channels are written, and nothing
-- else is
abbrev pub invariant-loop-frame : goal.invariant-loop-frame
invariant-loop-frame g l = record {
  fit : g.T.SectionKernels.AreChannels l.x1 × g.T.SectionKernels.AreChannels l.x2 × g.T.SectionKernels.AreChannels l.y1
      × g.T.SectionKernels.AreChannels l.y2;
  x1 : g.T.SectionKernels.channels l.x1 ≡ chunk ((l.frame + 1) * l.row + l.first) g.row.N
      (map g.T.Sample.number l.inputs);
  x2 : g.T.SectionKernels.channels l.x2 ≡ chunk (l.frame * l.row + l.first) g.row.N (map g.T.Sample.number l.inputs);
  y1 : g.T.SectionKernels.channels l.y1 ≡ chunk ((l.frame + 1) * l.row + l.first) g.row.N
      (map g.T.Sample.number l.outputs);
  y2 : g.T.SectionKernels.channels l.y2 ≡ chunk (l.frame * l.row + l.first) g.row.N (map g.T.Sample.number l.outputs);
  size : length l.outputs ≡ length l.initial.outputs;
  follows : (i : ℕ) → l.first ≤ i → i < l.first + g.row.N
      → Follows g.T.Sample.format l.post_shift (five_of (map g.T.Sample.number l.five)) l.row
      (map g.T.Sample.number l.inputs) (map g.T.Sample.number l.outputs) l.frame i;
  past : (i : ℕ) → i < l.row → Stays l.row (map g.T.Sample.number l.initial.outputs) (map g.T.Sample.number l.outputs)
      2 i;
  before : (i : ℕ) → i < l.first → Stays l.row (map g.T.Sample.number l.initial.outputs)
      (map g.T.Sample.number l.outputs) (l.count + 2) i;
  steps : Rises l.initial.steps l.steps (l.frame * (5 * g.row.N)) (l.frame * 5);
}
