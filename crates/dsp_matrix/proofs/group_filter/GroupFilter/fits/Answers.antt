use Rattle.std.proofs.Common.{length, refl}
use Rattle.dsp_matrix.proofs.GroupFilters.{group-fits, fits-below, fits-each}
use Rattle.dsp_matrix.proofs.group_filter.GroupFilter.fits.Goals as goal

pub returns : goal.returns
returns g c =
    let format = g.T.Sample.format in
    let block = g.W.GroupWork.block c.self.inside.work in
    let of = g.W.GroupWork.group block in
    let is = g.met.W.GroupWork.grouped block c.self.invariant.0 in
    let numbers = c.args.numbers.now in
    rw (← c.self.view_is) (
      (λ yes. let few = c.are_open.ensures.0 yes in (
        length numbers,
        group-fits format block of is (length numbers) numbers few.0 refl few.1,
      )),
      (λ fits. c.are_open.ensures.1 (
        fits-below format block of is fits.0 numbers fits.1,
        fits-each format block of is fits.0 numbers fits.1,
      )),
    )
