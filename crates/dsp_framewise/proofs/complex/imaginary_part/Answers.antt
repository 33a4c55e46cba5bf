use Rattle.std.proofs.Common.{rules}
use Rattle.dsp_framewise.proofs.complex.imaginary_part.Goals as goal

pub sum-requires-clause-left : goal.sum-requires-clause-left
sum-requires-clause-left g c = search rules

pub sum-requires-clause-right : goal.sum-requires-clause-right
sum-requires-clause-right g c = search rules

pub returns-clause-value : goal.returns-clause-value
returns-clause-value g c = search rules

pub returns-clause-fits : goal.returns-clause-fits
returns-clause-fits g c = search rules

pub returns-clause-products : goal.returns-clause-products
returns-clause-products g c = search rules
