use Rattle.dsp_sections.proofs.FourSections.{five_read}
use Rattle.dsp_sections.proofs.section_waves.sums_of_five.Goals as goal

pub returns-clause-value : goal.returns-clause-value
returns-clause-value c =
    let a = c.args in
    let r = c.requires in
    (five_read a.first a.second a.third a.fourth a.fifth r.four_1 r.four_2 r.four_3 r.four_4 r.four_5 r.fit_1 r.fit_2
    r.fit_3 r.fit_4 r.fit_5).0

pub returns-clause-fit : goal.returns-clause-fit
returns-clause-fit c =
    let a = c.args in
    let r = c.requires in
    (five_read a.first a.second a.third a.fourth a.fifth r.four_1 r.four_2 r.four_3 r.four_4 r.four_5 r.fit_1 r.fit_2
    r.fit_3 r.fit_4 r.fit_5).1
