use Rattle.std.proofs.Common.{◌*◌, map}
use Rattle.dsp_defs.specs.Formats.{lanes}
use Rattle.dsp_lanes.specs.Turns.{RisesWithin, lane_turns}
use Rattle.dsp_bank.proofs.SectionsGo.{HaveGone, LaterStay}
use Rattle.dsp_bank.proofs.sections.run_sections.Given as goal

-- each channel has gone through the sections so far, and the others keep what they kept
abbrev pub invariant-loop-section : goal.invariant-loop-section
invariant-loop-section g l = record {
  gone : HaveGone g.T.Sample.format l.post_shift g.T.BiquadSample.SIZE (map g.T.Sample.number l.coefficients) l.sections
      l.row l.count l.section (map g.T.Sample.number l.initial.kept) (map g.T.Sample.number l.kept)
      (map g.T.Sample.number l.initial.frames) (map g.T.Sample.number l.frames);
  rest : LaterStay g.T.Sample.format l.post_shift g.T.BiquadSample.SIZE (map g.T.Sample.number l.coefficients)
      l.sections
      l.row l.count l.section (map g.T.Sample.number l.initial.kept) (map g.T.Sample.number l.kept);
  steps : RisesWithin l.initial.steps l.steps (l.section * (l.count * (5 * l.row)))
      (l.section * (l.count * (5 * lane_turns (lanes g.T.Sample.format) l.row)));
}
