use Rattle.std.proofs.Common.{length, map, arith}
use Rattle.std.proofs.lemmas.List.{length-map}
use Rattle.dsp_conv.proofs.Inside.{inside}
use Rattle.dsp_conv.proofs.CallLemmas.{passed-past, took-none}
use Rattle.dsp_conv.proofs.convolution.Convolution.pass_over.Goals as goal

pub returns : goal.returns
returns g c =
    let number = g.T.Sample.number in
    let d = c.self.inside in
    let input = c.args.input.now in
    let here = inside number d.reversed d.zeros c.self.invariant c.self.view_is in
    let past = passed-past number d.window c.push_block.new.self input c.saturating_sub-from.result
    c.push_block.ensures.rolls c.self.invariant.filled
    (omega (arith, c.saturating_sub-from.ensures, c.len.ensures, here)) in
    took-none g.T.Sample.format (map number input) _ c.place_after-self-inside.result (length input) c.self.view_is
    here.is c.owe.ensures (length-map input number) past c.place_after-self-inside.ensures.place c.requires.none
