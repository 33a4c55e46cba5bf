use Rattle.std.proofs.Common.{◌∙◌, [], ◌∷◌}
use Rattle.dsp_defs.specs.Numbers.{◌>>◌}
use Rattle.dsp_biquad.specs.Sections.{section_acts}
use Rattle.dsp_biquad.proofs.Packed.{four-words, low-first, low-second, low-third, low-fourth, plain-acts, moved}
use Rattle.dsp_biquad.proofs.Packed.{coefficients, numbers, same-bits}
use Rattle.dsp_biquad.proofs.Scaled.{shift-few}
use Rattle.dsp_biquad.proofs.section.SectionWaveMachine.pack.Goals as goal

pub plain_in_lanes-requires : goal.plain_in_lanes-requires
plain_in_lanes-requires g c = shift-few g.T.Sample.format c.args.machines.now.first.post_shift
    c.args.machines.now.first.shift

pub plain_in_lanes-requires-2 : goal.plain_in_lanes-requires-2
plain_in_lanes-requires-2 g c = shift-few g.T.Sample.format c.args.machines.now.first.post_shift
    c.args.machines.now.first.shift

pub plain_in_lanes-requires-3 : goal.plain_in_lanes-requires-3
plain_in_lanes-requires-3 g c = shift-few g.T.Sample.format c.args.machines.now.first.post_shift
    c.args.machines.now.first.shift

pub plain_in_lanes-requires-4 : goal.plain_in_lanes-requires-4
plain_in_lanes-requires-4 g c = shift-few g.T.Sample.format c.args.machines.now.first.post_shift
    c.args.machines.now.first.shift

pub plain_in_lanes-requires-5 : goal.plain_in_lanes-requires-5
plain_in_lanes-requires-5 g c = shift-few g.T.Sample.format c.args.machines.now.first.post_shift
    c.args.machines.now.first.shift

pub returns : goal.returns
returns g c =
    let format = g.T.Sample.format in
    let m = c.args.machines.now in
    let p = m.first.post_shift in
    let to = moved format p in
    let b0 = coefficients format p m.first.shift c.plain_in_lanes.result m.first.b0 m.second.b0 m.third.b0 m.fourth.b0
    m.first.b0_fits (to m.second.post_shift m.second.b0 c.if-b-p.false m.second.b0_fits)
    (to m.third.post_shift m.third.b0 c.if-c-p.false m.third.b0_fits)
    (to m.fourth.post_shift m.fourth.b0 c.if-d-p.false m.fourth.b0_fits) c.plain_in_lanes.ensures.fit
    c.plain_in_lanes.ensures.value in
    let b1 = coefficients format p m.first.shift c.plain_in_lanes-2.result m.first.b1 m.second.b1 m.third.b1 m.fourth.b1
    m.first.b1_fits (to m.second.post_shift m.second.b1 c.if-b-p.false m.second.b1_fits)
    (to m.third.post_shift m.third.b1 c.if-c-p.false m.third.b1_fits)
    (to m.fourth.post_shift m.fourth.b1 c.if-d-p.false m.fourth.b1_fits) c.plain_in_lanes-2.ensures.fit
    c.plain_in_lanes-2.ensures.value in
    let b2 = coefficients format p m.first.shift c.plain_in_lanes-3.result m.first.b2 m.second.b2 m.third.b2 m.fourth.b2
    m.first.b2_fits (to m.second.post_shift m.second.b2 c.if-b-p.false m.second.b2_fits)
    (to m.third.post_shift m.third.b2 c.if-c-p.false m.third.b2_fits)
    (to m.fourth.post_shift m.fourth.b2 c.if-d-p.false m.fourth.b2_fits) c.plain_in_lanes-3.ensures.fit
    c.plain_in_lanes-3.ensures.value in
    let a1 = coefficients format p m.first.shift c.plain_in_lanes-4.result m.first.a1 m.second.a1 m.third.a1 m.fourth.a1
    m.first.a1_fits (to m.second.post_shift m.second.a1 c.if-b-p.false m.second.a1_fits)
    (to m.third.post_shift m.third.a1 c.if-c-p.false m.third.a1_fits)
    (to m.fourth.post_shift m.fourth.a1 c.if-d-p.false m.fourth.a1_fits) c.plain_in_lanes-4.ensures.fit
    c.plain_in_lanes-4.ensures.value in
    let a2 = coefficients format p m.first.shift c.plain_in_lanes-5.result m.first.a2 m.second.a2 m.third.a2 m.fourth.a2
    m.first.a2_fits (to m.second.post_shift m.second.a2 c.if-b-p.false m.second.a2_fits)
    (to m.third.post_shift m.third.a2 c.if-c-p.false m.third.a2_fits)
    (to m.fourth.post_shift m.fourth.a2 c.if-d-p.false m.fourth.a2_fits) c.plain_in_lanes-5.ensures.fit
    c.plain_in_lanes-5.ensures.value in
    let x1 = numbers format c.in_lanes.result m.first.x1 m.second.x1 m.third.x1 m.fourth.x1
    m.first.x1_fits m.second.x1_fits m.third.x1_fits m.fourth.x1_fits c.in_lanes.ensures.fit c.in_lanes.ensures.value in
    let x2 = numbers format c.in_lanes-2.result m.first.x2 m.second.x2 m.third.x2 m.fourth.x2
    m.first.x2_fits m.second.x2_fits m.third.x2_fits m.fourth.x2_fits c.in_lanes-2.ensures.fit
    c.in_lanes-2.ensures.value in
    let y1 = numbers format c.in_lanes-3.result m.first.y1 m.second.y1 m.third.y1 m.fourth.y1
    m.first.y1_fits m.second.y1_fits m.third.y1_fits m.fourth.y1_fits c.in_lanes-3.ensures.fit
    c.in_lanes-3.ensures.value in
    let y2 = numbers format c.in_lanes-4.result m.first.y2 m.second.y2 m.third.y2 m.fourth.y2
    m.first.y2_fits m.second.y2_fits m.third.y2_fits m.fourth.y2_fits c.in_lanes-4.ensures.fit
    c.in_lanes-4.ensures.value in
    let second = same-bits format m.first.y1 c.from.result c.number.result _ m.first.y1_fits c.if-a-from.false
    c.number.ensures.fits c.from.ensures c.number.ensures.value in
    let third = same-bits format m.second.y1 c.from-else-a-from.result c.number-else-a-from.result _ m.second.y1_fits
    c.if-b-from.false c.number-else-a-from.ensures.fits c.from-else-a-from.ensures c.number-else-a-from.ensures.value in
    let fourth = same-bits format m.third.y1 c.from-else-b-from.result c.number-else-b-from.result _ m.third.y1_fits
    c.if-c-from.false c.number-else-b-from.ensures.fits c.from-else-b-from.ensures c.number-else-b-from.ensures.value in
    let first_acts = (λ k. section_acts format p (record {
      b0 = low-first format _ _ _ _ _ b0 k;
      b1 = low-first format _ _ _ _ _ b1 k;
      b2 =
          low-first format _ _ _ _ _ b2 k;
      a1 = low-first format _ _ _ _ _ a1 k;
      a2 = low-first format _ _ _ _ _ a2 k;
    }))
    ∙ plain-acts format p m.first.shift m.first.b0 m.first.b1 m.first.b2 m.first.a1 m.first.a2 (m.first.b0 >> p)
    (m.first.b1 >> p) (m.first.b2 >> p) (m.first.a1 >> p) (m.first.a2 >> p) m.first.b0_fits.1 m.first.b1_fits.1
    m.first.b2_fits.1 m.first.a1_fits.1 m.first.a2_fits.1 in
    let second_acts = (λ k. section_acts format p (record {
      b0 = low-second format _ _ _ _ _ b0 k;
      b1 = low-second format _ _ _ _ _ b1 k;
      b2 =
          low-second format _ _ _ _ _ b2 k;
      a1 = low-second format _ _ _ _ _ a1 k;
      a2 =
          low-second format _ _ _ _ _ a2 k;
    })) ∙ plain-acts format p m.first.shift m.second.b0 m.second.b1 m.second.b2
    m.second.a1 m.second.a2 (m.second.b0 >> p) (m.second.b1 >> p) (m.second.b2 >> p) (m.second.a1 >> p)
    (m.second.a2 >> p) (to m.second.post_shift m.second.b0 c.if-b-p.false m.second.b0_fits).1
    (to m.second.post_shift m.second.b1 c.if-b-p.false m.second.b1_fits).1
    (to m.second.post_shift m.second.b2 c.if-b-p.false m.second.b2_fits).1
    (to m.second.post_shift m.second.a1 c.if-b-p.false m.second.a1_fits).1
    (to m.second.post_shift m.second.a2 c.if-b-p.false m.second.a2_fits).1 in
    let third_acts = (λ k. section_acts format p (record {
      b0 = low-third format _ _ _ _ _ b0 k;
      b1 = low-third format _ _ _ _ _ b1 k;
      b2 =
          low-third format _ _ _ _ _ b2 k;
      a1 = low-third format _ _ _ _ _ a1 k;
      a2 = low-third format _ _ _ _ _ a2 k;
    }))
    ∙ plain-acts format p m.first.shift m.third.b0 m.third.b1 m.third.b2 m.third.a1 m.third.a2 (m.third.b0 >> p)
    (m.third.b1 >> p) (m.third.b2 >> p) (m.third.a1 >> p) (m.third.a2 >> p)
    (to m.third.post_shift m.third.b0 c.if-c-p.false m.third.b0_fits).1
    (to m.third.post_shift m.third.b1 c.if-c-p.false m.third.b1_fits).1
    (to m.third.post_shift m.third.b2 c.if-c-p.false m.third.b2_fits).1
    (to m.third.post_shift m.third.a1 c.if-c-p.false m.third.a1_fits).1
    (to m.third.post_shift m.third.a2 c.if-c-p.false m.third.a2_fits).1 in
    let fourth_acts = (λ k. section_acts format p (record {
      b0 = low-fourth format _ _ _ _ _ b0 k;
      b1 = low-fourth format _ _ _ _ _ b1 k;
      b2 =
          low-fourth format _ _ _ _ _ b2 k;
      a1 = low-fourth format _ _ _ _ _ a1 k;
      a2 =
          low-fourth format _ _ _ _ _ a2 k;
    })) ∙ plain-acts format p m.first.shift m.fourth.b0 m.fourth.b1 m.fourth.b2
    m.fourth.a1 m.fourth.a2 (m.fourth.b0 >> p) (m.fourth.b1 >> p) (m.fourth.b2 >> p) (m.fourth.a1 >> p)
    (m.fourth.a2 >> p) (to m.fourth.post_shift m.fourth.b0 c.if-d-p.false m.fourth.b0_fits).1
    (to m.fourth.post_shift m.fourth.b1 c.if-d-p.false m.fourth.b1_fits).1
    (to m.fourth.post_shift m.fourth.b2 c.if-d-p.false m.fourth.b2_fits).1
    (to m.fourth.post_shift m.fourth.a1 c.if-d-p.false m.fourth.a1_fits).1
    (to m.fourth.post_shift m.fourth.a2 c.if-d-p.false m.fourth.a2_fits).1 in
    record {
      wave =
          λ k. record {
            parts = record {
              first = record {
                acts = first_acts k;
                kept = low-first format _ _ _ _ _ x1 k ∷ low-first format _ _ _ _ _ x2 k
                    ∷ low-first format _ _ _ _ _ y1 k ∷ low-first format _ _ _ _ _ y2 k ∷ [];
              };
              second = record {
                acts = second_acts k;
                kept = low-second format _ _ _ _ _ x1 k ∷ low-second format _ _ _ _ _
                    x2 k ∷ low-second format _ _ _ _ _ y1 k ∷ low-second format _ _ _ _ _ y2 k ∷ [];
              };
              third = record {
                acts = third_acts k;
                kept = low-third format _ _ _ _ _ x1 k ∷ low-third format _ _ _ _ _ x2 k
                    ∷ low-third format _ _ _ _ _ y1 k ∷ low-third format _ _ _ _ _ y2 k ∷ [];
              };
              fourth = record {
                acts = fourth_acts k;
                kept = low-fourth format _ _ _ _ _ x1 k ∷ low-fourth format _ _ _ _ _
                    x2 k ∷ low-fourth format _ _ _ _ _ y1 k ∷ low-fourth format _ _ _ _ _ y2 k ∷ [];
              };
            };
            to_second = (low-first format _ _ _ _ _ y1 ∙ second) k;
            to_third = (low-second format _ _ _ _ _ y1 ∙ third) k;
            to_fourth = (low-third format _ _ _ _ _ y1 ∙ fourth) k;
          };
      whole =
          record {
            shift = m.first.shift;
            b0 = four-words format _ _ _ _ _ b0;
            b1 = four-words format _ _ _ _ _ b1;
            b2 = four-words format _ _ _ _ _ b2;
            a1 = four-words format _ _ _ _ _ a1;
            a2 = four-words format _ _ _ _ _ a2;
            x1 = four-words format _ _ _ _ _ x1;
            x2 = four-words format _ _ _ _ _ x2;
            y1 = four-words format _ _ _ _ _ y1;
            y2 = four-words format _ _ _ _ _ y2;
          };
    }
