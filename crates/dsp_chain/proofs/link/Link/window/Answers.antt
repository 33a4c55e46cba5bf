use Rattle.std.proofs.Common.{◌∙◌}
use Rattle.dsp_chain.proofs.Links.{link-window}
use Rattle.dsp_chain.proofs.link.Link.window.Goals as goal

pub window-requires-clause-rule : goal.window-requires-clause-rule
window-requires-clause-rule g c = c.self.invariant.is_rule

pub returns : goal.returns
returns g c = c.window.ensures ∙ link-window c.self.invariant c.self.view_is c.args.frames
