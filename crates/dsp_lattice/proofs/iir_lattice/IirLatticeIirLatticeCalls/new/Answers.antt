use Rattle.std.proofs.Common.{◌∙◌, ap, sym, subst, ℤ, List, length, map, arith}
use Rattle.std.proofs.lemmas.List.{length-map}
use Rattle.dsp_filter.proofs.Faults.{passed}
use Rattle.dsp_lattice.specs.LatticeState.{AreLadder, AreReflections, IirLatticeState}
use Rattle.dsp_lattice.specs.Making.{ladder_fault, reflections_fault}
use Rattle.dsp_lattice.proofs.LatticeMaking.{ladder-within, reflections-within}
use Rattle.dsp_lattice.proofs.iir_lattice.IirLatticeIirLatticeCalls.new.Goals as goal

pub of_work-requires-clause-block : goal.of_work-requires-clause-block
of_work-requires-clause-block g c =
    let T = g.T.Sample in
    let k = c.args.k.now in
    let v = c.args.v.now in
    let ks = map T.number k in
    let few = reflections-within (length k)
    (passed (reflections_fault (length k)) _ _ c.in_ok-check_reflections.ensures) in
    let more = ladder-within (length k) (length v) (passed (ladder_fault (length k) (length v)) _ _
    c.in_ok-check_ladder.ensures) in
    let k_is = ap (λ (w : IirLatticeState). w.k) c.in-Ok-new.ensures ∙ ap (map T.number) c.in-Ok.ensures.items in
    let v_is = ap (λ (w : IirLatticeState). w.v) c.in-Ok-new.ensures ∙
    ap (map T.number) c.in-Ok-from_slice.ensures.items in
    subst (λ (l : List ℤ). AreReflections T.format l × AreLadder T.format l c.in-Ok-new.work.v) (sym k_is)
    (subst (λ (l : List ℤ). AreReflections T.format ks × AreLadder T.format ks l) (sym v_is) (
      record { in_format = c.all_fit.ensures; few = omega (arith, few, length-map k T.number) },
      record {
        in_format = c.all_fit-2.ensures;
        one_more = omega (arith, more, length-map k T.number, length-map v T.number);
      },
    ))
