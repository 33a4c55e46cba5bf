use Rattle.std.proofs.Common.{◌∙◌, ap, ◌∷◌, length, rules, w16, SFits}
use Rattle.std.proofs.lemmas.Int.{to_z-of_z}
use lib.Lanes.{zip2}
use Rattle.dsp_defs.specs.Signal.{sample}
use Rattle.dsp_sections.specs.Reflected.{reflected}
use Rattle.dsp_lattice.proofs.Sections.{section-runs}
use Rattle.dsp_lattice.proofs.lattice_sample.I16NarrowSample.run_section.Goals as goal

pub returns-clause-goes : goal.returns-clause-goes
returns-clause-goes g c =
    let fs = c.args.forward.now in
    let gs = c.args.backward.now in
    let k = to_z-of_z w16 c.args.k c.ranges.k in
    let before = to_z-of_z w16 c.args.before c.ranges.before in
    let fits : SFits w16 c.reflect.result = search rules in
    section-runs c.args.k c.args.before _ fs gs c.reflect.new.forward c.reflect.new.backward c.requires
    (c.reflect.ensures.forward ∙ (λ i. zip2 (λ f g. reflected (k i) g f) fs (before i ∷ gs)))
    (c.reflect.ensures.backward ∙ (λ i. zip2 (λ f g. reflected (k i) f g) fs (before i ∷ gs)))
    (to_z-of_z w16 c.reflect.result fits ∙ c.reflect.ensures.last ∙ ap (λ b. sample (b ∷ gs) (length fs)) before)
