use Rattle.std.proofs.Common.{length, ap, arith}
use Rattle.dsp_matrix.specs.Groups.{OpenState}
use Rattle.dsp_matrix.proofs.GroupFilters.{fits-below, fits-all}
use Rattle.dsp_matrix.proofs.group_filter.GroupFilter.restore.Goals as goal

pub restore-requires-clause-room : goal.restore-requires-clause-room
restore-requires-clause-room g c =
    let block = g.W.GroupWork.block c.self.inside.work in
    let is = g.met.W.GroupWork.grouped block c.self.invariant.0 in
    let fits = rw (← c.self.view_is) at c.requires.fits in
    let below = fits-below g.T.Sample.format block (g.W.GroupWork.group block) is fits.0 c.args.numbers.now fits.1 in
    omega (arith, below, c.self.invariant.1.0)

pub restore-requires-clause-samples : goal.restore-requires-clause-samples
restore-requires-clause-samples g c =
    let block = g.W.GroupWork.block c.self.inside.work in
    let is = g.met.W.GroupWork.grouped block c.self.invariant.0 in
    let fits = rw (← c.self.view_is) at c.requires.fits in
    fits-all g.T.Sample.format block (g.W.GroupWork.group block) is fits.0 c.args.numbers.now fits.1

pub invariant_of-self : goal.invariant_of-self
invariant_of-self g c =
    let block = g.W.GroupWork.block c.self.inside.work in
    let is = g.met.W.GroupWork.grouped block c.self.invariant.0 in
    let fits = rw (← c.self.view_is) at c.requires.fits in
    let below = fits-below g.T.Sample.format block (g.W.GroupWork.group block) is fits.0 c.args.numbers.now fits.1 in
    let size = ap (λ (o : OpenState). o.size) c.restore.ensures in
    let long = ap (λ (o : OpenState). length o.numbers) c.restore.ensures in (
      c.self.invariant.0,
      (
        omega (arith, size, c.self.invariant.1.0),
        omega (arith, size, long, below, c.self.invariant.1.0),
      ),
      c.self.invariant.2,
    )
