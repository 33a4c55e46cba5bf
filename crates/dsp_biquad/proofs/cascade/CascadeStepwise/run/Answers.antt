use Rattle.std.proofs.Common.{◌≡◌, ◌∙◌, ap, sym, subst, arith, ℕ, ◌*◌, ◌≤◌, length, map, rules, flat_map, take, drop}
use Rattle.std.proofs.Common.{◌++◌}
use Rattle.dsp_defs.specs.Cost.{section_count}
use Rattle.dsp_defs.specs.Counts.{Rises}
use Rattle.dsp_defs.specs.Streaming.{Behaviour, GoesOn, chained}
use Rattle.dsp_filter.proofs.Units.{written-whole}
use Rattle.dsp_biquad.specs.Sections.{block_acts}
use Rattle.dsp_biquad.proofs.SectionNumbers.{kept-count}
use Rattle.dsp_biquad.proofs.cascade.CascadeStepwise.run.Goals as goal

same-count : (g : _) (c : goal.After-samples-1 g) → length c.run_chain.new.machines ≡ length
    c.self.inside.sections.items
same-count g c = c.run_chain.auto.machines ∙ ap length c.as_mut_slice-sections.ensures.value

-- the sections that the vector then has
written : (g : _) (c : goal.After-samples-1 g) → take c.self.inside.sections.len
    (c.run_chain.new.machines ++ drop (length c.run_chain.new.machines) c.self.inside.sections.items) ≡
    c.run_chain.new.machines
written g c =
    let size : c.self.inside.sections.len ≡ length c.self.inside.sections.items = search rules in
    written-whole c.self.inside.sections.len c.run_chain.new.machines c.self.inside.sections.items
    (same-count g c ∙ sym size)

pub invariant_of-self : goal.invariant_of-self
invariant_of-self g c =
    let acts = g.S.Machine.acts in
    let numbers = map g.T.Sample.number c.self.inside.coefficients.items in
    let is = c.self.invariant in
    let all : chained (map acts c.run_chain.new.machines) ≡ block_acts g.T.Sample.format
    (g.S.CascadeSection.block c.self.inside.post_shift numbers) = c.run_chain.ensures.acts ∙
    ap (λ l. chained (map acts l)) c.as_mut_slice-sections.ensures.value ∙ is.0 in
    subst (λ l. (chained (map acts l) ≡ block_acts g.T.Sample.format
    (g.S.CascadeSection.block c.self.inside.post_shift numbers)) ×
    (length l ≡ section_count g.T.Sample.format numbers) × (length l ≤ 64)) (sym (written g c))
    (all, same-count g c ∙ is.1, subst (λ (n : ℕ). n ≤ 64) (sym (same-count g c)) is.2)

pub returns-clause-goes : goal.returns-clause-goes
returns-clause-goes g c =
    let acts = g.S.Machine.acts in
    let kept = g.S.Machine.kept in
    let old = c.self.inside.sections.items in
    let new = c.run_chain.new.machines in
    let x = map g.T.Sample.number c.args.samples.now in
    let y = map g.T.Sample.number c.run_chain.new.samples in
    let inner = subst (λ l. GoesOn (chained (map acts l)).gives (chained (map acts l)).keeps (flat_map kept l)
    (flat_map kept new) x y) c.as_mut_slice-sections.ensures.value c.run_chain.ensures.goes in
    let whole = subst (λ (b : Behaviour). GoesOn b.gives b.keeps (flat_map kept old) (flat_map kept new) x y)
    c.self.invariant.0 inner in
    let b = block_acts g.T.Sample.format (g.S.CascadeSection.block c.self.inside.post_shift
    (map g.T.Sample.number c.self.inside.coefficients.items)) in
    rw (← c.self.view_is) (subst (λ l. GoesOn b.gives b.keeps (flat_map kept old) (flat_map kept l) x y)
    (sym (written g c)) whole)

pub returns-clause-size : goal.returns-clause-size
returns-clause-size g c =
    let kept = g.S.Machine.kept in
    let four = g.met.S.CascadeSection.four in
    let old = c.self.inside.sections.items in
    let new = c.run_chain.new.machines in
    rw (← c.self.view_is) (ap (λ l. length (flat_map kept l)) (written g c) ∙ kept-count kept four new ∙
    ap (λ n. n * 4) (same-count g c) ∙ sym (kept-count kept four old))

pub returns-clause-steps : goal.returns-clause-steps
returns-clause-steps g c =
    let laws = g.met.S.CascadeSection in
    let p = c.self.inside.post_shift in
    let numbers = map g.T.Sample.number c.self.inside.coefficients.items in
    let count = section_count g.T.Sample.format numbers in
    let n = length c.args.samples.now in
    let same : length c.as_mut_slice-sections.result.now ≡ count = ap length c.as_mut_slice-sections.ensures.value ∙
    c.self.invariant.1 in
    let swap : count * 5 ≡ 5 * count = omega arith in
    let cost = (λ i. same i * laws.five i) ∙ swap ∙ ap (λ l. 5 * section_count g.T.Sample.format l)
    (sym (laws.numbers p numbers)) in
    rw (← c.self.view_is) (subst (λ k. Rises c.args.steps.now c.run_chain.new.steps (n * k) (n * k)) cost
    c.run_chain.ensures.steps)
