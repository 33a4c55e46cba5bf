use Rattle.std.proofs.Common.{◌≡◌, ◌≤◌, ◌*◌, ◌%◌, ◌^◌, ℕ, ℤ, pos, ◌*ℤ◌, List, map, to_z, of_z}
use Rattle.std.proofs.Common.{w32, w64}
use Rattle.std.proofs.lemmas.Int.{SFits-int_wrap}
use Rattle.dsp_defs.specs.Parameters.{greatest_biquad_shift}
use Rattle.dsp_defs.specs.Signal.{sample}
use Rattle.dsp_defs.specs.declared.format.Fmt.{Fmt}
use Rattle.dsp_sections.specs.SectionWaves.{low, AreWords}
use Rattle.dsp_biquad.proofs.Packed.{number-is, number-wide, sample-is, sample-fits, passed}
use Rattle.dsp_biquad.proofs.Scaled.{is_scaled, shift-few, shifted_up}
use Rattle.dsp_biquad.proofs.section.section_in.Goals as goal

coefficient-is : (format : Fmt) (p : ℕ) (lanes : List ℤ) (lane : ℕ) (m : ℤ) → AreWords format lanes →
    p ≤ greatest_biquad_shift format → m ≡ low (map (to_z w64) (map (of_z w64) lanes)) lane
    → to_z w64 (of_z w64 m * 2 ^ p % 18446744073709551616) ≡ low lanes lane *ℤ pos (2 ^ p)
coefficient-is format p lanes lane m words few is =
    shifted_up m (low lanes lane) p (number-wide format lanes lane m words is) (number-is format lanes lane m words is)
    (SFits-int_wrap w32 (sample lanes lane)) (shift-few format p few)

pub number_in-requires-clause-lanes : goal.number_in-requires-clause-lanes
number_in-requires-clause-lanes g c = passed g.T.Sample.format c.args.lanes.now.b0 c.requires.whole.b0

pub number_in-requires-2-clause-lanes : goal.number_in-requires-2-clause-lanes
number_in-requires-2-clause-lanes g c = passed g.T.Sample.format c.args.lanes.now.b1 c.requires.whole.b1

pub number_in-requires-3-clause-lanes : goal.number_in-requires-3-clause-lanes
number_in-requires-3-clause-lanes g c = passed g.T.Sample.format c.args.lanes.now.b2 c.requires.whole.b2

pub number_in-requires-4-clause-lanes : goal.number_in-requires-4-clause-lanes
number_in-requires-4-clause-lanes g c = passed g.T.Sample.format c.args.lanes.now.a1 c.requires.whole.a1

pub number_in-requires-5-clause-lanes : goal.number_in-requires-5-clause-lanes
number_in-requires-5-clause-lanes g c = passed g.T.Sample.format c.args.lanes.now.a2 c.requires.whole.a2

pub number_in-requires-6-clause-lanes : goal.number_in-requires-6-clause-lanes
number_in-requires-6-clause-lanes g c = passed g.T.Sample.format c.args.lanes.now.x1 c.requires.whole.x1

pub number_in-requires-7-clause-lanes : goal.number_in-requires-7-clause-lanes
number_in-requires-7-clause-lanes g c = passed g.T.Sample.format c.args.lanes.now.x2 c.requires.whole.x2

pub number_in-requires-8-clause-lanes : goal.number_in-requires-8-clause-lanes
number_in-requires-8-clause-lanes g c = passed g.T.Sample.format c.args.lanes.now.y1 c.requires.whole.y1

pub number_in-requires-9-clause-lanes : goal.number_in-requires-9-clause-lanes
number_in-requires-9-clause-lanes g c = passed g.T.Sample.format c.args.lanes.now.y2 c.requires.whole.y2

pub returns-clause-b0 : goal.returns-clause-b0
returns-clause-b0 g c = coefficient-is g.T.Sample.format c.args.lanes.now.post_shift c.args.lanes.now.b0 c.args.lane
    c.number_in.result c.requires.whole.b0 c.requires.whole.shift c.number_in.ensures

pub returns-clause-b1 : goal.returns-clause-b1
returns-clause-b1 g c = coefficient-is g.T.Sample.format c.args.lanes.now.post_shift c.args.lanes.now.b1 c.args.lane
    c.number_in-2.result c.requires.whole.b1 c.requires.whole.shift c.number_in-2.ensures

pub returns-clause-b2 : goal.returns-clause-b2
returns-clause-b2 g c = coefficient-is g.T.Sample.format c.args.lanes.now.post_shift c.args.lanes.now.b2 c.args.lane
    c.number_in-3.result c.requires.whole.b2 c.requires.whole.shift c.number_in-3.ensures

pub returns-clause-a1 : goal.returns-clause-a1
returns-clause-a1 g c = coefficient-is g.T.Sample.format c.args.lanes.now.post_shift c.args.lanes.now.a1 c.args.lane
    c.number_in-4.result c.requires.whole.a1 c.requires.whole.shift c.number_in-4.ensures

pub returns-clause-a2 : goal.returns-clause-a2
returns-clause-a2 g c = coefficient-is g.T.Sample.format c.args.lanes.now.post_shift c.args.lanes.now.a2 c.args.lane
    c.number_in-5.result c.requires.whole.a2 c.requires.whole.shift c.number_in-5.ensures

pub returns-clause-x1 : goal.returns-clause-x1
returns-clause-x1 g c = sample-is g.T.Sample.format c.args.lanes.now.x1 c.args.lane c.number_in-6.result
    c.requires.whole.x1 c.number_in-6.ensures

pub returns-clause-x2 : goal.returns-clause-x2
returns-clause-x2 g c = sample-is g.T.Sample.format c.args.lanes.now.x2 c.args.lane c.number_in-7.result
    c.requires.whole.x2 c.number_in-7.ensures

pub returns-clause-y1 : goal.returns-clause-y1
returns-clause-y1 g c = sample-is g.T.Sample.format c.args.lanes.now.y1 c.args.lane c.number_in-8.result
    c.requires.whole.y1 c.number_in-8.ensures

pub returns-clause-y2 : goal.returns-clause-y2
returns-clause-y2 g c = sample-is g.T.Sample.format c.args.lanes.now.y2 c.args.lane c.number_in-9.result
    c.requires.whole.y2 c.number_in-9.ensures

pub invariant_of-result : goal.invariant_of-result
invariant_of-result g c =
    let format = g.T.Sample.format in
    let l = c.args.lanes.now in
    let w = c.requires.whole in
    let lane = c.args.lane in
    record {
      shift = w.shift;
      b0_fits = is_scaled format l.post_shift (low l.b0 lane) _ (w.b0.words lane)
          (coefficient-is format l.post_shift l.b0 lane c.number_in.result w.b0 w.shift c.number_in.ensures);
      b1_fits = is_scaled format l.post_shift (low l.b1 lane) _ (w.b1.words lane)
          (coefficient-is format l.post_shift l.b1 lane c.number_in-2.result w.b1 w.shift c.number_in-2.ensures);
      b2_fits = is_scaled format l.post_shift (low l.b2 lane) _ (w.b2.words lane)
          (coefficient-is format l.post_shift l.b2 lane c.number_in-3.result w.b2 w.shift c.number_in-3.ensures);
      a1_fits = is_scaled format l.post_shift (low l.a1 lane) _ (w.a1.words lane)
          (coefficient-is format l.post_shift l.a1 lane c.number_in-4.result w.a1 w.shift c.number_in-4.ensures);
      a2_fits = is_scaled format l.post_shift (low l.a2 lane) _ (w.a2.words lane)
          (coefficient-is format l.post_shift l.a2 lane c.number_in-5.result w.a2 w.shift c.number_in-5.ensures);
      x1_fits = sample-fits format l.x1 lane c.number_in-6.result w.x1 c.number_in-6.ensures;
      x2_fits = sample-fits format l.x2 lane c.number_in-7.result w.x2 c.number_in-7.ensures;
      y1_fits = sample-fits format l.y1 lane c.number_in-8.result w.y1 c.number_in-8.ensures;
      y2_fits = sample-fits format l.y2 lane c.number_in-9.result w.y2 c.number_in-9.ensures;
    }
