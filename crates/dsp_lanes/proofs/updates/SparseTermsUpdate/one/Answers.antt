use Rattle.std.proofs.Common.{rules}
use Rattle.std.proofs.lemmas.Int.{wraps}
use Rattle.dsp_lanes.proofs.updates.SparseTermsUpdate.one.Goals as goal

pub returns-clause-value : goal.returns-clause-value
returns-clause-value g c = search (rules, wraps, c.sparse_term.ensures.value)
