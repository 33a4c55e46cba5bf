use Rattle.std.proofs.Common.{◌≡◌, ap, refl, arith}
use Rattle.dsp_defs.specs.Shape.{Pace}
use Rattle.dsp_shape.proofs.FrameRules.{pace-rule}
use Rattle.dsp_shape.proofs.Paces.{pace_few}
use Rattle.dsp_shape.specs.FrameRule.{rule_of}
use Rattle.dsp_shape.proofs.lengths.Pace.after.Goals as goal

pub overflow_mul-result-3 : goal.overflow_mul-result-3
overflow_mul-result-3 c =
    let frames = c.self.inside.frames in
    let same : frames ≡ c.args.self.frames = ap (λ (pace : Pace). pace.frames) c.self.view_is in
    let few = pace_few (rule_of c.args.block.now) frames c.gcd.result c.requires.rule
    (omega (arith, same, c.requires.small.frames.1)) in
    rw (c.groups-taken.ensures, c.of.ensures) (omega (arith, few))

pub returns : goal.returns
returns c = rw (
  ← pace-rule c.args.self c.args.block.now,
  ← c.of.ensures,
  ← c.groups-taken.ensures,
  c.gcd.ensures.value,
  ← c.self.view_is,
) refl
