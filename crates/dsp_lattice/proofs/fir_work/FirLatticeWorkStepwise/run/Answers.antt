use Rattle.std.proofs.Common.{◌≡◌, ◌∙◌, ap, sym, subst, ℕ, ◌*◌, ◌+◌, ◌-◌, ◌≤◌, length, map, take, drop, arith, rules}
use Rattle.std.proofs.Common.{length-take-le, length-drop}
use Rattle.std.proofs.lemmas.List.{take_all, length-map}
use Rattle.dsp_defs.specs.Counts.{Rises}
use Rattle.dsp_defs.specs.Lattice.{lattice_fir}
use Rattle.dsp_filter.proofs.Units.{written-whole}
use Rattle.dsp_lattice.specs.LatticeState.{filter_kept}
use Rattle.dsp_lattice.proofs.Sections.{piece-more, piece-rest, piece-long}
use Rattle.dsp_lattice.proofs.fir_work.FirLatticeWorkStepwise.run.Goals as goal

pub loop-start-preserved : goal.loop-start-preserved
loop-start-preserved g c =
    let number = g.T.Sample.number in
    let given = c.as_slice-coefficients.result.now in
    let k = map number given in
    let start = c.loop-start.start in
    let size = c.min.result in
    let inputs = c.args.samples.now in
    let outputs = c.loop-start.samples in
    let piece = c.run_lattice.new.samples in
    let so_far = c.loop-start.invariant in
    let step : start + size - start ≡ size = omega arith in
    let same : length outputs ≡ length inputs = c.loop-start.auto.samples in
    let inside : start + size ≤ length inputs = omega (arith, c.min.ensures, same, so_far.within) in
    let part : length (take (start + size - start) (drop start outputs)) ≡ size =
    ap (λ n. length (take n (drop start outputs))) step ∙
    length-take-le size (drop start outputs) (omega (arith, inside, same, length-drop start outputs)) in
    let long : length piece ≡ size = c.run_lattice.auto.samples ∙ part in
    let goes = rw step at c.run_lattice.ensures.goes in
    let paid = subst (λ (n : ℕ). Rises c.loop-start.steps c.run_lattice.new.steps (length given * (n * 2))
    (length given * (n * 2))) part c.run_lattice.ensures.steps in
    rw step
    (record {
      goes = piece-more number inputs outputs piece start size inside same long so_far.rest (lattice_fir k)
          (filter_kept k) (map number c.as_mut_slice-states.result.now) (map number c.loop-start.states)
          (map number c.run_lattice.new.states) so_far.goes goes;
      rest = piece-rest number inputs outputs piece start size inside same long so_far.rest;
      within = omega (arith, inside, piece-long number inputs outputs piece start size inside same long so_far.rest);
      steps = record {
        multiplies_rise = omega (arith, so_far.steps, paid);
        turns_rise =
            omega (arith, so_far.steps, paid);
      };
    })

pub invariant_of-self : goal.invariant_of-self
invariant_of-self g c =
    let states = c.self.inside.states in
    let backward = c.self.inside.backward in
    let states_size : states.len ≡ length states.items = search rules in
    let backward_size : backward.len ≡ length backward.items = search rules in
    let same = c.loop-start.auto.states ∙ ap length c.as_mut_slice-states.ensures.value in
    let same' = c.loop-start.auto.backward ∙ ap length c.as_mut_slice-backward.ensures.value in (
      ap length (written-whole states.len c.loop-start.states states.items (same ∙ sym states_size)) ∙ same ∙
          c.self.invariant.0,
      ap length (written-whole backward.len c.loop-start.backward backward.items (same' ∙ sym backward_size)) ∙
          same' ∙ c.self.invariant.1,
      c.self.invariant.2,
    )

pub returns-clause-goes : goal.returns-clause-goes
returns-clause-goes g c =
    let start = c.loop-start.start in
    let old = c.self.inside.states in
    let size : old.len ≡ length old.items = search rules in
    let written = written-whole old.len c.loop-start.states old.items
    (c.loop-start.auto.states ∙ ap length c.as_mut_slice-states.ensures.value ∙ sym size) in
    let inputs = take_all start c.args.samples.now (omega arith) in
    let outputs = take_all start c.loop-start.samples (omega arith) in
    let k = c.as_slice-coefficients.ensures.value in
    let first = c.as_mut_slice-states.ensures.value in
    rw (← c.self.view_is, written) (rw (inputs, outputs, k, first) at c.loop-start.invariant.goes)

pub returns-clause-size : goal.returns-clause-size
returns-clause-size g c =
    let number = g.T.Sample.number in
    let old = c.self.inside.states in
    let new = c.loop-start.states in
    let size : old.len ≡ length old.items = search rules in
    let same = c.loop-start.auto.states ∙ ap length c.as_mut_slice-states.ensures.value in
    let written = written-whole old.len new old.items (same ∙ sym size) in
    rw (← c.self.view_is, written) (length-map new number ∙ same ∙ sym (length-map old.items number))

pub returns-clause-steps : goal.returns-clause-steps
returns-clause-steps g c =
    let start = c.loop-start.start in
    let given = c.as_slice-coefficients.result.now in
    let items = c.self.inside.coefficients.items in
    let n = length c.args.samples.now in
    let done : start ≡ n = omega arith in
    let turned : length given * (n * 2) ≡ n * (2 * length given) = omega arith in
    let long = ap length c.as_slice-coefficients.ensures.value ∙ sym (length-map items g.T.Sample.number) in
    rw (← c.self.view_is)
    (subst (λ (m : ℕ). Rises c.args.steps.now c.loop-start.steps m m)
    (ap (λ s. length given * (s * 2)) done ∙ turned ∙ ap (λ m. n * (2 * m)) long) c.loop-start.invariant.steps)
