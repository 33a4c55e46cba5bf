use Rattle.std.proofs.Common.{rules}
use Rattle.dsp_channelwise.proofs.ladder.ladder_step.Goals as goal

pub returns-clause-lower : goal.returns-clause-lower
returns-clause-lower g c = search rules

pub returns-clause-upper : goal.returns-clause-upper
returns-clause-upper g c = search rules

pub returns-clause-products : goal.returns-clause-products
returns-clause-products g c = search rules

pub difference-requires-clause-left : goal.difference-requires-clause-left
difference-requires-clause-left g c = search rules

pub difference-requires-clause-right : goal.difference-requires-clause-right
difference-requires-clause-right g c = search rules

pub sum-requires-clause-left : goal.sum-requires-clause-left
sum-requires-clause-left g c = search rules

pub sum-requires-clause-right : goal.sum-requires-clause-right
sum-requires-clause-right g c = search rules
