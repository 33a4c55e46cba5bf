use Rattle.std.proofs.Common.{◌≡◌}
use Rattle.dsp_defs.specs.Shape.{gcd}
use Rattle.std.proofs.lemmas.Nat.Gcd.{IsGcd-from_zero, IsGcd-from_mod, same_from_IsGcd}
use Rattle.dsp_defs.proofs.GcdLaws.{gcd-IsGcd}
use Rattle.dsp_defs.proofs.UnitLaws.{gcd_positive}
use Rattle.dsp_shape.proofs.lengths.gcd.Goals as goal

pub loop-b-preserved : goal.loop-b-preserved
loop-b-preserved c = λ g is. c.loop-b.invariant g (IsGcd-from_mod c.loop-b.a c.loop-b.b g is)

pub returns : goal.returns
returns c =
    let value : c.loop-b.a ≡ gcd c.args.a c.args.b = same_from_IsGcd c.args.a c.args.b c.loop-b.a _
    (c.loop-b.invariant c.loop-b.a (IsGcd-from_zero c.loop-b.a c.loop-b.b c.loop-b-test.false))
    (gcd-IsGcd c.args.a c.args.b) in
    record { value = value; some = λ h. rw value (gcd_positive c.args.a c.args.b h) }
