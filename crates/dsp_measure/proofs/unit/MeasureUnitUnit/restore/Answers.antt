use Rattle.std.proofs.Common.{◌∙◌, ap, refl, length}
use Rattle.dsp_measure.proofs.MeasureUnits.{same-count, whole-row, state, is-measuring, measure-restores}
use Rattle.dsp_measure.proofs.unit.MeasureUnitUnit.restore.Goals as goal

pub copy_from_slice-requires : goal.copy_from_slice-requires
copy_from_slice-requires c =
    let u = c.self.inside in
    ap length c.as_mut_slice.ensures.value ∙ same-count u.measure u.format u.channels u.kept.items c.args.numbers.now
    c.self.invariant.fits (rw (← c.self.view_is) at c.requires.fits)

pub invariant_of-self : goal.invariant_of-self
invariant_of-self c =
    let u = c.self.inside in
    let kept = whole-row u.kept.len c.copy_from_slice.new.self u.kept.items
    (c.copy_from_slice.ensures.len ∙ c.as_mut_slice.ensures.len) in
    rw (kept, c.copy_from_slice.ensures.after) (record {
      enough = c.self.invariant.enough;
      narrow =
          c.self.invariant.narrow;
      few = c.self.invariant.few;
      fits = rw (← c.self.view_is) at c.requires.fits;
    })

pub returns : goal.returns
returns c =
    let u = c.self.inside in
    let kept = whole-row u.kept.len c.copy_from_slice.new.self u.kept.items
    (c.copy_from_slice.ensures.len ∙ c.as_mut_slice.ensures.len) in
    let running = rw (← c.self.view_is) at c.requires.running in
    let numbers = c.args.numbers.now in
    rw (← c.self.view_is, kept, c.copy_from_slice.ensures.after)
    (measure-restores u.measure (state u.measure u.format u.channels u.capacity u.kept.items u.ended)
    (state u.measure u.format u.channels u.capacity numbers u.ended) numbers
    (is-measuring u.measure u.format u.channels u.capacity u.kept.items u.ended running)
    (is-measuring u.measure u.format u.channels u.capacity numbers u.ended running)
    (record { block = refl; format = refl; channels = refl; capacity = refl; banked = refl }) refl)
