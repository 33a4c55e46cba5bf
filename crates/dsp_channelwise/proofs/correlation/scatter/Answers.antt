use Rattle.std.proofs.Common.{◌∙◌, ◌+ℤ◌, ◌*ℤ◌, arith, take_all}
use Rattle.std.specs.Int.{w32}
use Rattle.std.proofs.lemmas.Int.{to_z-of_z}
use Rattle.dsp_defs.specs.Signal.{delayed, sample}
use Rattle.dsp_exact.proofs.Exact.{exact, exact_fits}
use Rattle.dsp_channelwise.proofs.Scattered.{held, scatter-begins, scatter-more}
use Rattle.dsp_channelwise.proofs.correlation.scatter.Goals as goal

pub loop-j-init : goal.loop-j-init
loop-j-init g c = record { scattered = scatter-begins c.args.sums.now c.args.at _; products = omega arith }

pub overflow_add-sums : goal.overflow_add-sums
overflow_add-sums g c =
    let small = held c.args.sums.now c.loop-j.sums c.args.b.now c.args.at c.loop-j.j _ c.loop-j.invariant.scattered
    c.loop-j-test.true c.requires.room c.requires.inside c.requires.small in
    grind (arith, exact_fits)

pub loop-j-preserved : goal.loop-j-preserved
loop-j-preserved g c =
    let small = held c.args.sums.now c.loop-j.sums c.args.b.now c.args.at c.loop-j.j _ c.loop-j.invariant.scattered
    c.loop-j-test.true c.requires.room c.requires.inside c.requires.small in
    record {
      scattered = scatter-more c.args.sums.now c.loop-j.sums c.args.b.now c.args.at c.loop-j.j _
          c.loop-j.invariant.scattered c.loop-j-test.true c.requires.room c.requires.inside _ (grind (arith, exact))
          (grind (arith, exact));
      products = omega arith;
    }

pub returns-clause-values : goal.returns-clause-values
returns-clause-values g c n inside =
    c.loop-j.invariant.scattered.values n inside
    ∙ (λ i. sample c.args.sums.now n +ℤ to_z-of_z w32 c.args.a c.ranges.a i *ℤ delayed
    (take_all c.loop-j.j c.args.b.now c.loop-j-test.false i) c.args.at n)

pub returns-clause-small : goal.returns-clause-small
returns-clause-small g c = c.loop-j.invariant.scattered.small
