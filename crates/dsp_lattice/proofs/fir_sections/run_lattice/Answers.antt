use Rattle.std.proofs.Common.{◌≡◌, ◌∙◌, ap, sym, subst, List, ℤ, map, length}
use Rattle.std.specs.List.{zip}
use Rattle.std.proofs.lemmas.List.{length-map}
use Rattle.dsp_defs.specs.Kept.{lattice_kept}
use Rattle.dsp_defs.specs.Streaming.{GoesOn}
use Rattle.dsp_lattice.specs.LatticeState.{sections_give}
use Rattle.dsp_lattice.proofs.Sections.{lattice-whole}
use Rattle.dsp_lattice.proofs.fir_sections.run_lattice.Goals as goal

pub returns-clause-goes : goal.returns-clause-goes
returns-clause-goes g c =
    let number = g.T.Sample.number in
    let ks = map number c.args.coefficients.now in
    let xs = map number c.args.samples.now in
    let fs = map number c.run_sections.new.forward in
    let gs = map number c.run_sections.new.backward in
    let olds = map number c.args.states.now in
    let news = map number c.run_sections.new.states in
    let copied = ap (map number) c.copy_from_slice.ensures.after in
    let same : length gs ≡ length fs =
    length-map c.run_sections.new.backward number ∙ c.run_sections.auto.backward ∙
    ap length c.copy_from_slice.ensures.after ∙ sym c.run_sections.auto.forward ∙
    sym (length-map c.run_sections.new.forward number) in
    let goes = subst (λ (bs : List ℤ). GoesOn (sections_give ks) (lattice_kept ks) olds news (zip xs bs) (zip fs gs))
    copied c.run_sections.ensures.goes in
    lattice-whole ks olds news xs fs gs same goes
