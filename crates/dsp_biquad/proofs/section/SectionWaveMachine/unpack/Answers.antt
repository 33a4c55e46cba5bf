use Rattle.std.proofs.Common.{◌∙◌, sym, [], ◌∷◌}
use Rattle.dsp_sections.specs.SectionWaves.{low}
use Rattle.dsp_biquad.proofs.Packed.{plain-acts, narrow, cast-is, cast-fits, passed}
use Rattle.dsp_biquad.proofs.section.SectionWaveMachine.unpack.Goals as goal

pub number_in-requires-clause-lanes : goal.number_in-requires-clause-lanes
number_in-requires-clause-lanes g c = passed g.T.Sample.format c.args.lanes.now.lanes.y1 c.requires.y1

pub overflow_cast-number_in : goal.overflow_cast-number_in
overflow_cast-number_in g c = narrow g.T.Sample.format c.args.lanes.now.lanes.y1 0 c.number_in.result
    c.requires.y1 c.number_in.ensures

pub of_number-requires : goal.of_number-requires
of_number-requires g c = cast-fits g.T.Sample.format c.args.lanes.now.lanes.y1 0 c.number_in.result
    c.requires.y1 c.number_in.ensures

pub number_in-requires-2-clause-lanes : goal.number_in-requires-2-clause-lanes
number_in-requires-2-clause-lanes g c = passed g.T.Sample.format c.args.lanes.now.lanes.y1 c.requires.y1

pub overflow_cast-number_in-2 : goal.overflow_cast-number_in-2
overflow_cast-number_in-2 g c = narrow g.T.Sample.format c.args.lanes.now.lanes.y1 1 c.number_in-2.result
    c.requires.y1 c.number_in-2.ensures

pub of_number-requires-2 : goal.of_number-requires-2
of_number-requires-2 g c = cast-fits g.T.Sample.format c.args.lanes.now.lanes.y1 1 c.number_in-2.result
    c.requires.y1 c.number_in-2.ensures

pub number_in-requires-3-clause-lanes : goal.number_in-requires-3-clause-lanes
number_in-requires-3-clause-lanes g c = passed g.T.Sample.format c.args.lanes.now.lanes.y1 c.requires.y1

pub overflow_cast-number_in-3 : goal.overflow_cast-number_in-3
overflow_cast-number_in-3 g c = narrow g.T.Sample.format c.args.lanes.now.lanes.y1 2 c.number_in-3.result
    c.requires.y1 c.number_in-3.ensures

pub of_number-requires-3 : goal.of_number-requires-3
of_number-requires-3 g c = cast-fits g.T.Sample.format c.args.lanes.now.lanes.y1 2 c.number_in-3.result
    c.requires.y1 c.number_in-3.ensures

pub returns : goal.returns
returns g c =
    let format = g.T.Sample.format in
    let l = c.args.lanes.now.lanes in
    let few = c.requires.shift in
    let first_acts = sym (plain-acts format l.post_shift few c.section_in.result.b0 c.section_in.result.b1
    c.section_in.result.b2 c.section_in.result.a1 c.section_in.result.a2 (low l.b0 0) (low l.b1 0) (low l.b2 0)
    (low l.a1 0) (low l.a2 0)
    c.section_in.ensures.b0 c.section_in.ensures.b1 c.section_in.ensures.b2 c.section_in.ensures.a1
    c.section_in.ensures.a2) in
    let second_acts = sym (plain-acts format l.post_shift few c.section_in-2.result.b0 c.section_in-2.result.b1
    c.section_in-2.result.b2 c.section_in-2.result.a1 c.section_in-2.result.a2 (low l.b0 1) (low l.b1 1)
    (low l.b2 1) (low l.a1 1) (low l.a2 1)
    c.section_in-2.ensures.b0 c.section_in-2.ensures.b1 c.section_in-2.ensures.b2 c.section_in-2.ensures.a1
    c.section_in-2.ensures.a2) in
    let third_acts = sym (plain-acts format l.post_shift few c.section_in-3.result.b0 c.section_in-3.result.b1
    c.section_in-3.result.b2 c.section_in-3.result.a1 c.section_in-3.result.a2 (low l.b0 2) (low l.b1 2)
    (low l.b2 2) (low l.a1 2) (low l.a2 2)
    c.section_in-3.ensures.b0 c.section_in-3.ensures.b1 c.section_in-3.ensures.b2 c.section_in-3.ensures.a1
    c.section_in-3.ensures.a2) in
    let fourth_acts = sym (plain-acts format l.post_shift few c.section_in-4.result.b0 c.section_in-4.result.b1
    c.section_in-4.result.b2 c.section_in-4.result.a1 c.section_in-4.result.a2 (low l.b0 3) (low l.b1 3)
    (low l.b2 3) (low l.a1 3) (low l.a2 3)
    c.section_in-4.ensures.b0 c.section_in-4.ensures.b1 c.section_in-4.ensures.b2 c.section_in-4.ensures.a1
    c.section_in-4.ensures.a2) in
    λ k. record {
      parts = record {
        first = record {
          acts = first_acts k;
          kept = c.section_in.ensures.x1 k ∷ c.section_in.ensures.x2 k ∷
              c.section_in.ensures.y1 k ∷ c.section_in.ensures.y2 k ∷ [];
        };
        second = record {
          acts = second_acts k;
          kept = c.section_in-2.ensures.x1 k ∷ c.section_in-2.ensures.x2 k ∷
              c.section_in-2.ensures.y1 k ∷ c.section_in-2.ensures.y2 k ∷ [];
        };
        third = record {
          acts = third_acts k;
          kept = c.section_in-3.ensures.x1 k ∷ c.section_in-3.ensures.x2 k ∷
              c.section_in-3.ensures.y1 k ∷ c.section_in-3.ensures.y2 k ∷ [];
        };
        fourth = record {
          acts = fourth_acts k;
          kept = c.section_in-4.ensures.x1 k ∷ c.section_in-4.ensures.x2 k ∷
              c.section_in-4.ensures.y1 k ∷ c.section_in-4.ensures.y2 k ∷ [];
        };
      };
      to_second = (c.of_number.ensures ∙ cast-is format l.y1 0 c.number_in.result c.requires.y1
          c.number_in.ensures) k;
      to_third = (c.of_number-2.ensures ∙ cast-is format l.y1 1 c.number_in-2.result c.requires.y1
          c.number_in-2.ensures) k;
      to_fourth = (c.of_number-3.ensures ∙ cast-is format l.y1 2 c.number_in-3.result c.requires.y1
          c.number_in-3.ensures) k;
    }
