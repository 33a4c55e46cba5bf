use Rattle.std.proofs.Common.{◌≡◌, ap, sym, length, arith}
use Rattle.dsp_conv.specs.ConvState.{ConvState}
use Rattle.dsp_conv.specs.Extent.{zeros_behind}
use Rattle.dsp_conv.proofs.CallLemmas.{zeros-some}
use Rattle.dsp_conv.proofs.Inside.{inside}
use Rattle.dsp_conv.proofs.convolution.Convolution.zeros_behind.Goals as goal

pub returns-in-0-clause-value : goal.returns-in-0-clause-value
returns-in-0-clause-value g c =
    let place : c.self.inside.place ≡ c.args.self.now.place = ap (λ (s : ConvState). s.place) c.self.view_is in
    let none : c.args.self.now.place ≡ 0 = omega (arith, place) in
    ap (λ p. zeros_behind p (length c.args.self.now.taps)) (sym none)

pub returns-in_default : goal.returns-in_default
returns-in_default g c =
    let here = inside g.T.Sample.number c.self.inside.reversed c.self.inside.zeros c.self.invariant c.self.view_is in
    let place : c.self.inside.place ≡ c.args.self.now.place = ap (λ (s : ConvState). s.place) c.self.view_is in
    let zeros = zeros-some c.args.self.now.place (length c.args.self.now.taps) (omega (arith, place)) in
    record {
      value = omega (arith, here.is.long, here.zeros_long, c.len.ensures, zeros);
      few = omega (arith, here.zeros_long, c.len.ensures);
    }
