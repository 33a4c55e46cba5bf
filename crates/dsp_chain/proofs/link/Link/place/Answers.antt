use Rattle.std.proofs.Common.{◌∙◌}
use Rattle.dsp_chain.proofs.Links.{link-period, link-place}
use Rattle.dsp_chain.proofs.link.Link.place.Goals as goal

pub place-requires : goal.place-requires
place-requires g c = link-period c.self.invariant c.self.view_is

pub returns : goal.returns
returns g c = c.place.ensures ∙ link-place c.self.invariant c.self.view_is c.args.frames c.requires
