use Rattle.std.proofs.Common.{◌∙◌}
use Rattle.dsp_chain.proofs.Links.{link-whole, link-live}
use Rattle.dsp_chain.proofs.link.Link.gives.Goals as goal

pub whole-requires-clause-rule : goal.whole-requires-clause-rule
whole-requires-clause-rule g c = c.self.invariant.is_rule

pub whole-requires-clause-given : goal.whole-requires-clause-given
whole-requires-clause-given g c = rw (link-whole c.self.invariant c.self.view_is c.args.frames) c.requires.given

pub live-requires-clause-rule : goal.live-requires-clause-rule
live-requires-clause-rule g c = c.self.invariant.is_rule

pub live-requires-clause-given : goal.live-requires-clause-given
live-requires-clause-given g c = rw (link-whole c.self.invariant c.self.view_is c.args.frames) c.requires.given

pub returns-in-Whole : goal.returns-in-Whole
returns-in-Whole g c = rw c.in-Whole.is (c.whole.ensures ∙ link-whole c.self.invariant c.self.view_is c.args.frames)

pub returns-in-Live : goal.returns-in-Live
returns-in-Live g c = rw c.in-Live.is (c.live.ensures ∙ link-live c.self.invariant c.self.view_is c.args.frames)
