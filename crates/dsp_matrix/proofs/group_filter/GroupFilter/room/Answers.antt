use Rattle.dsp_matrix.proofs.GroupFilters.{room-exact}
use Rattle.dsp_matrix.proofs.group_filter.GroupFilter.room.Goals as goal

pub returns-clause-enough : goal.returns-clause-enough
returns-clause-enough g c =
    let block = g.W.GroupWork.block c.self.inside.work in
    let is = g.met.W.GroupWork.grouped block c.self.invariant.0 in
    rw (c.taken.ensures, c.given.ensures, ← c.self.view_is)
    (room-exact g.T.Sample.format block (g.W.GroupWork.group block) is c.args.n)
