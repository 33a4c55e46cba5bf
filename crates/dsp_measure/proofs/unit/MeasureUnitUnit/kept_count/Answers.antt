use Rattle.std.proofs.Common.{◌≡◌, length, arith, rules, vec_len}
use Rattle.dsp_measure.proofs.MeasureUnits.{few-kept}
use Rattle.dsp_measure.proofs.unit.MeasureUnitUnit.kept_count.Goals as goal

pub returns-clause-few : goal.returns-clause-few
returns-clause-few c =
    let u = c.self.inside in
    let long : vec_len u.kept ≡ length u.kept.items = search rules in
    omega (
      arith,
      c.len.ensures,
      long,
      few-kept u.measure u.format u.channels u.kept.items c.self.invariant.enough
          c.self.invariant.narrow c.self.invariant.fits,
    )
