use Rattle.std.proofs.Common.{◌≡◌, ◌∙◌, ap, ap₂, sym, subst, ℕ, ◌+◌, ◌-◌, ◌*◌, get_or, length, map, drop, reverse}
use Rattle.std.proofs.Common.{arith, rules, length-drop}
use Rattle.std.proofs.lemmas.List.{take_all, length-map, length-reverse}
use Rattle.dsp_defs.specs.Counts.{Rises}
use Rattle.dsp_defs.specs.Lattice.{lattice_iir}
use Rattle.dsp_defs.specs.Kept.{ladder_kept}
use Rattle.dsp_unit.proofs.GoingOn.{goes-more, rest-stays}
use Rattle.dsp_filter.proofs.Units.{written-whole}
use Rattle.dsp_lattice.proofs.Ladders.{ladder-step}
use Rattle.dsp_lattice.proofs.iir_work.IirLatticeWorkStepwise.run.Goals as goal

pub loop-sample-preserved : goal.loop-sample-preserved
loop-sample-preserved g c =
    let T = g.T.Sample in
    let number = T.number in
    let k = map number c.as_slice-reflections.result.now in
    let v = map number c.as_slice-ladder.result.now in
    let first = map number c.as_mut_slice-backward.result.now in
    let old = map number c.loop-sample.backward in
    let new = map number c.ladder_step.new.backward in
    let inputs = c.args.samples.now in
    let outputs = c.loop-sample.samples in
    let i = c.loop-sample.sample-index in
    let item = c.sample-item.result in
    let x = get_or outputs i item in
    let y = c.ladder_step.result in
    let so_far = c.loop-sample.invariant in
    let step = ladder-step T.format k v old new (number x) (number y) c.ladder_step.ensures.backward
    c.ladder_step.ensures.value in
    record {
      goes = goes-more inputs outputs i item (omega arith) (omega arith) so_far.rest number (lattice_iir T.format k v)
          (ladder_kept T.format k) (reverse (drop 1 first)) (reverse (drop 1 old)) (reverse (drop 1 new)) y so_far.goes
          step;
      rest = rest-stays inputs outputs i item (omega arith) (omega arith) so_far.rest y;
      steps = record {
        multiplies_rise = omega (arith, so_far.steps, c.ladder_step.ensures.steps);
        turns_rise =
            omega (arith, so_far.steps, c.ladder_step.ensures.steps);
      };
    }

pub returns-clause-goes : goal.returns-clause-goes
returns-clause-goes g c =
    let i = c.loop-sample.sample-index in
    let old = c.self.inside.backward in
    let new = c.loop-sample.backward in
    let size : old.len ≡ length old.items = search rules in
    let same : length new ≡ old.len = c.loop-sample.auto.backward ∙ ap length c.as_mut_slice-backward.ensures.value ∙
    sym size in
    let written = written-whole old.len new old.items same in
    let inputs = take_all i c.args.samples.now (omega arith) in
    let outputs = take_all i c.loop-sample.samples (omega arith) in
    let k = c.as_slice-reflections.ensures.value in
    let v = c.as_slice-ladder.ensures.value in
    let first = c.as_mut_slice-backward.ensures.value in
    rw (← c.self.view_is, written) (rw (inputs, outputs, k, v, first) at c.loop-sample.invariant.goes)

pub returns-clause-size : goal.returns-clause-size
returns-clause-size g c =
    let number = g.T.Sample.number in
    let old = c.self.inside.backward in
    let new = c.loop-sample.backward in
    let size : old.len ≡ length old.items = search rules in
    let same : length new ≡ length old.items = c.loop-sample.auto.backward ∙
    ap length c.as_mut_slice-backward.ensures.value in
    let written = written-whole old.len new old.items (same ∙ sym size) in
    let values = length-map new number ∙ same ∙ sym (length-map old.items number) in
    rw (← c.self.view_is, written)
    (length-reverse (drop 1 (map number new)) ∙ length-drop 1 (map number new) ∙ ap (λ n. n - 1) values ∙
    sym (length-drop 1 (map number old.items)) ∙ sym (length-reverse (drop 1 (map number old.items))))

pub returns-clause-steps : goal.returns-clause-steps
returns-clause-steps g c =
    let items = c.self.inside.reflections.items in
    let done : c.loop-sample.sample-index ≡ length c.args.samples.now = omega arith in
    let long = ap length c.as_slice-reflections.ensures.value ∙ sym (length-map items g.T.Sample.number) in
    rw (← c.self.view_is)
    (subst (λ (m : ℕ). Rises c.args.steps.now c.loop-sample.steps m m) (ap₂ (λ a b. a * (3 * b + 1)) done long)
    c.loop-sample.invariant.steps)

pub invariant_of-self : goal.invariant_of-self
invariant_of-self g c =
    let old = c.self.inside.backward in
    let size : old.len ≡ length old.items = search rules in
    let same = c.loop-sample.auto.backward ∙ ap length c.as_mut_slice-backward.ensures.value in (
      c.self.invariant.0,
      ap length (written-whole old.len c.loop-sample.backward old.items (same ∙ sym size)) ∙ same ∙
          c.self.invariant.1,
      c.self.invariant.2,
      c.self.invariant.3,
    )
