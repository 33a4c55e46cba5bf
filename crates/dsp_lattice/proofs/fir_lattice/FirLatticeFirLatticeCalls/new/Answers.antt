use Rattle.std.proofs.Common.{◌∙◌, ap, sym, subst, ℤ, List, length, map, arith}
use Rattle.std.proofs.lemmas.List.{length-map}
use Rattle.dsp_filter.proofs.Faults.{passed}
use Rattle.dsp_lattice.specs.LatticeState.{AreReflections, FirLatticeState}
use Rattle.dsp_lattice.specs.Making.{reflections_fault}
use Rattle.dsp_lattice.proofs.LatticeMaking.{reflections-within}
use Rattle.dsp_lattice.proofs.fir_lattice.FirLatticeFirLatticeCalls.new.Goals as goal

pub of_work-requires-clause-block : goal.of_work-requires-clause-block
of_work-requires-clause-block g c =
    let T = g.T.Sample in
    let k = c.args.k.now in
    let few = reflections-within (length k)
    (passed (reflections_fault (length k)) _ _ c.in_ok-check_reflections.ensures) in
    subst (λ (ks : List ℤ). AreReflections T.format ks)
    (sym (ap (λ (w : FirLatticeState). w.k) c.in-Ok-new.ensures ∙ ap (map T.number) c.in-Ok.ensures.items))
    (record { in_format = c.all_fit.ensures; few = omega (arith, few, length-map k T.number) })
