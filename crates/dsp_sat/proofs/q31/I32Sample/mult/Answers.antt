use Rattle.dsp_sat.proofs.q31.I32Sample.mult.Goals as goal

pub returns-clause-steps : goal.returns-clause-steps
returns-clause-steps g c = c.high_word.ensures.steps
