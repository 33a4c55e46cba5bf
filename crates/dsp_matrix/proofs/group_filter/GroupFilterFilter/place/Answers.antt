use Rattle.std.proofs.Common.{◌≡◌, false, true, length, refl}
use Rattle.dsp_matrix.proofs.GroupFilters.{group-fits, fits-below, fits-each, fits-place}
use Rattle.dsp_matrix.proofs.group_filter.GroupFilterFilter.place.Goals as goal

pub returns-then-are_open-clause-fits : goal.returns-then-are_open-clause-fits
returns-then-are_open-clause-fits g c =
    let block = g.W.GroupWork.block c.self.inside.work in
    let is = g.met.W.GroupWork.grouped block c.self.invariant.0 in
    let few = c.if-are_open.ensures.0 refl in
    rw (← c.self.view_is) (group-fits g.T.Sample.format block (g.W.GroupWork.group block) is
    (length c.args.numbers.now) c.args.numbers.now few.0 refl few.1)

pub returns-then-are_open-clause-least : goal.returns-then-are_open-clause-least
returns-then-are_open-clause-least g c = λ n at.
    let block = g.W.GroupWork.block c.self.inside.work in
    let is = g.met.W.GroupWork.grouped block c.self.invariant.0 in
    rw (← c.self.view_is) (fits-place g.T.Sample.format block (g.W.GroupWork.group block) is n c.args.numbers.now
    (rw (← c.self.view_is) at at))

pub returns-else-are_open-clause-least : goal.returns-else-are_open-clause-least
returns-else-are_open-clause-least g c = λ n at.
    let block = g.W.GroupWork.block c.self.inside.work in
    let of = g.W.GroupWork.group block in
    let is = g.met.W.GroupWork.grouped block c.self.invariant.0 in
    let fits = rw (← c.self.view_is) at at in
    let numbers = c.args.numbers.now in
    let none : false ≡ true = c.if-are_open.ensures.1 (
      fits-below g.T.Sample.format block of is n numbers fits,
      fits-each g.T.Sample.format block of is n numbers fits,
    ) in
    cc
