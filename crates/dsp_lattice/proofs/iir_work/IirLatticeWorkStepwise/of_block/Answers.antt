use Rattle.std.proofs.Common.{◌∙◌, ap, length, arith}
use Rattle.std.proofs.lemmas.List.{length-map}
use Rattle.dsp_lattice.proofs.iir_work.IirLatticeWorkStepwise.of_block.Goals as goal

pub new-requires-clause-few : goal.new-requires-clause-few
new-requires-clause-few g c =
    let of = rw c.in-LatticeIir.is at c.requires in
    let long = length-map c.in_ok-reflections.reflections.items g.T.Sample.number in
    let given = ap length (c.in_ok-reflections.ensures ∙ c.as_slice.ensures) in
    omega (arith, of.0.few, long, given)

pub new-requires-clause-ladder : goal.new-requires-clause-ladder
new-requires-clause-ladder g c =
    let of = rw c.in-LatticeIir.is at c.requires in
    let number = g.T.Sample.number in
    let given = ap length (c.in_ok-reflections.ensures ∙ c.as_slice.ensures) in
    let given' = ap length (c.in_ok-ladder.ensures ∙ c.as_slice-2.ensures) in
    omega (
      arith,
      of.1.one_more,
      length-map c.in_ok-reflections.reflections.items number,
      length-map c.in_ok-ladder.ladder.items number,
      given,
      given',
    )
