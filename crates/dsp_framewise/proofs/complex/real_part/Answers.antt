use Rattle.std.proofs.Common.{rules}
use Rattle.dsp_framewise.proofs.complex.real_part.Goals as goal

pub difference-requires-clause-left : goal.difference-requires-clause-left
difference-requires-clause-left g c = search rules

pub difference-requires-clause-right : goal.difference-requires-clause-right
difference-requires-clause-right g c = search rules

pub returns-clause-value : goal.returns-clause-value
returns-clause-value g c = search rules

pub returns-clause-fits : goal.returns-clause-fits
returns-clause-fits g c = search rules

pub returns-clause-products : goal.returns-clause-products
returns-clause-products g c = search rules
