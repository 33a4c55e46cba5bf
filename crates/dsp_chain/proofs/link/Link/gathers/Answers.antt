use Rattle.std.proofs.Common.{◌∙◌}
use Rattle.dsp_chain.proofs.Links.{link-gathers}
use Rattle.dsp_chain.proofs.link.Link.gathers.Goals as goal

pub returns : goal.returns
returns g c = c.gathers.ensures ∙ link-gathers c.self.invariant c.self.view_is
