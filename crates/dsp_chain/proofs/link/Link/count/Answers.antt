use Rattle.std.proofs.Common.{◌∙◌}
use Rattle.dsp_chain.proofs.Links.{link-period, link-count}
use Rattle.dsp_chain.proofs.link.Link.count.Goals as goal

pub count-requires : goal.count-requires
count-requires g c = link-period c.self.invariant c.self.view_is

pub returns-clause-count : goal.returns-clause-count
returns-clause-count g c = c.count.ensures.count ∙ link-count c.self.invariant c.self.view_is c.args.frames c.requires
