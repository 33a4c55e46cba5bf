use Rattle.dsp_session.proofs.session.Session.end.Goals as goal

pub returns-clause-same : goal.returns-clause-same
returns-clause-same g c = rw (← c.self.view_is) c.end.ensures.same

pub returns-clause-given : goal.returns-clause-given
returns-clause-given g c = c.end.ensures.given

pub returns-clause-ends : goal.returns-clause-ends
returns-clause-ends g c = rw (← c.self.view_is) c.end.ensures.ends

pub returns-clause-within : goal.returns-clause-within
returns-clause-within g c = rw (← c.self.view_is) c.end.ensures.within
