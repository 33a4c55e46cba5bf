use Rattle.std.proofs.Common.{◌≡◌, ◌∙◌, ap, sym, subst, ℕ, ◌*◌, ◌≤◌, length, map, flat_map, take, drop, ◌++◌, rules}
use Rattle.dsp_defs.specs.Cost.{section_count}
use Rattle.dsp_defs.specs.Streaming.{chained}
use Rattle.dsp_defs.specs.Kept.{Each, IsOfKind}
use Rattle.dsp_filter.proofs.Units.{written-whole}
use Rattle.dsp_biquad.specs.Sections.{block_acts}
use Rattle.dsp_biquad.proofs.SectionNumbers.{kinds-count}
use Rattle.dsp_biquad.proofs.cascade.CascadeStepwise.restore.Goals as goal

pub restore_sections-requires-clause-count : goal.restore_sections-requires-clause-count
restore_sections-requires-clause-count g c =
    let laws = g.met.S.CascadeSection in
    let numbers = c.args.numbers.now in
    let coefficients = map g.T.Sample.number c.self.inside.coefficients.items in
    let each = rw (← c.self.view_is) at c.requires in
    let by_section = subst (λ ks. Each IsOfKind ks numbers) (laws.kinds_are c.self.inside.post_shift coefficients)
    each in
    kinds-count g.S.CascadeSection.kinds laws.four_kinds (section_count g.T.Sample.format coefficients) numbers
    by_section
    ∙ ap (λ n. n * 4) (sym (ap length c.as_mut_slice.ensures.value ∙ c.self.invariant.1))

same-count : (g : _) (c : goal.After-self-1 g) → length c.restore_sections.new.sections ≡ length
    c.self.inside.sections.items
same-count g c = c.restore_sections.auto.sections ∙ ap length c.as_mut_slice.ensures.value

-- the sections that the vector then has
written : (g : _) (c : goal.After-self-1 g) → take c.self.inside.sections.len
    (c.restore_sections.new.sections ++ drop (length c.restore_sections.new.sections) c.self.inside.sections.items) ≡
    c.restore_sections.new.sections
written g c =
    let size : c.self.inside.sections.len ≡ length c.self.inside.sections.items = search rules in
    written-whole c.self.inside.sections.len c.restore_sections.new.sections c.self.inside.sections.items
    (same-count g c ∙ sym size)

pub invariant_of-self : goal.invariant_of-self
invariant_of-self g c =
    let acts = g.S.Machine.acts in
    let numbers = map g.T.Sample.number c.self.inside.coefficients.items in
    let is = c.self.invariant in
    let all : chained (map acts c.restore_sections.new.sections) ≡ block_acts g.T.Sample.format
    (g.S.CascadeSection.block c.self.inside.post_shift numbers) =
    ap chained (c.restore_sections.ensures.acts ∙ ap (map acts) c.as_mut_slice.ensures.value) ∙ is.0 in
    subst (λ l. (chained (map acts l) ≡ block_acts g.T.Sample.format
    (g.S.CascadeSection.block c.self.inside.post_shift numbers)) ×
    (length l ≡ section_count g.T.Sample.format numbers) × (length l ≤ 64)) (sym (written g c))
    (all, same-count g c ∙ is.1, subst (λ (n : ℕ). n ≤ 64) (sym (same-count g c)) is.2)

pub returns-clause-kept : goal.returns-clause-kept
returns-clause-kept g c = ap (flat_map g.S.Machine.kept) (written g c) ∙ c.restore_sections.ensures.kept
