use Rattle.std.proofs.Common.{◌∙◌, refl, [], ◌∷◌, w64}
use Rattle.dsp_sat.proofs.Words.{shift_down-is}
use Rattle.dsp_sections.proofs.FourSections.{back}
use Rattle.dsp_biquad.proofs.lane_numbers.plain_in_lanes.Goals as goal

pub returns-clause-value : goal.returns-clause-value
returns-clause-value c =
    let a = c.args in
    let p = a.post_shift in
    let first = shift_down-is w64 a.first a.first p p c.ranges.first refl refl in
    let second = shift_down-is w64 a.second a.second p p c.ranges.second refl refl in
    let third = shift_down-is w64 a.third a.third p p c.ranges.third refl refl in
    let fourth = shift_down-is w64 a.fourth a.fourth p p c.ranges.fourth refl refl in
    back c.in_lanes.result c.in_lanes.ensures.fit ∙ c.in_lanes.ensures.value ∙
    (λ i. first i ∷ second i ∷ third i ∷ fourth i ∷ [])
