use Rattle.std.proofs.Common.{◌∙◌, ap, sym, ◌*◌, length}
use Rattle.dsp_biquad.proofs.SectionNumbers.{kept-count}
use Rattle.dsp_biquad.proofs.cascade.CascadeStepwise.keep.Goals as goal

pub keep_sections-requires-clause-count : goal.keep_sections-requires-clause-count
keep_sections-requires-clause-count g c =
    let count = kept-count g.S.Machine.kept g.met.S.CascadeSection.four c.self.inside.sections.items in
    (rw (← c.self.view_is) at c.requires) ∙ count ∙ ap (λ l. length l * 4) (sym c.as_slice.ensures.value)
