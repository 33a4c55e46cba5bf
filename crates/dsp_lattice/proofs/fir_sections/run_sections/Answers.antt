use Rattle.std.proofs.Common.{◌≡◌, ◌∙◌, refl, sym, arith, take, length, map, length-take-le}
use Rattle.std.specs.List.{zip}
use Rattle.std.proofs.lemmas.List.{take_all, length-map}
use Rattle.dsp_unit.proofs.GoingOn.{rest-stays}
use Rattle.dsp_lattice.proofs.Sections.{one-section-more, read-more, written-more}
use Rattle.dsp_lattice.proofs.fir_sections.run_sections.Goals as goal

pub loop-m-preserved : goal.loop-m-preserved
loop-m-preserved g c =
    let number = g.T.Sample.number in
    let m = c.loop-m.m in
    let ks = c.args.coefficients.now in
    let olds = c.args.states.now in
    let states = c.loop-m.states in
    let k = c.index-coefficients-m.result in
    let b = c.index-states-m.result in
    let so_far = c.loop-m.invariant in
    let size : length (map number (take m olds)) ≡ length (map number (take m ks)) =
    length-map (take m olds) number ∙ length-take-le m olds (omega arith) ∙
    sym (length-map (take m ks) number ∙ length-take-le m ks (omega arith)) in
    let more = one-section-more (map number (take m ks)) (number k) (map number (take m olds))
    (map number (take m states)) (number b) (number c.run_section.result)
    (zip (map number c.args.forward.now) (map number c.args.backward.now))
    (zip (map number c.loop-m.forward) (map number c.loop-m.backward))
    (zip (map number c.run_section.new.forward) (map number c.run_section.new.backward)) size so_far.goes
    c.run_section.ensures.goes in
    record {
      goes = rw (
        read-more number m ks ks k (omega arith) refl c.index-coefficients-m.is,
        read-more number m olds states b (omega arith) so_far.states c.index-states-m.is,
        written-more number m states c.run_section.result (omega arith),
      ) more;
      states = rest-stays olds states m b (omega arith) (omega arith) so_far.states c.run_section.result;
      steps = record {
        multiplies_rise = omega (arith, so_far.steps, c.run_section.ensures.steps);
        turns_rise = omega (arith, so_far.steps, c.run_section.ensures.steps);
      };
    }

pub returns-clause-goes : goal.returns-clause-goes
returns-clause-goes g c =
    let m = c.loop-m.m in
    let ks = take_all m c.args.coefficients.now (omega arith) in
    let olds = take_all m c.args.states.now (omega arith) in
    let news = take_all m c.loop-m.states (omega arith) in
    rw (ks, olds, news) at c.loop-m.invariant.goes
