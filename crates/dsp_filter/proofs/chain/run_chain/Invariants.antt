use Rattle.std.proofs.Common.{◌-◌, length}
use Rattle.dsp_filter.proofs.Chains.{HaveRun}
use Rattle.dsp_filter.proofs.chain.run_chain.Given as goal

abbrev pub invariant-fours : goal.invariant-fours
invariant-fours g l = HaveRun g.M.Machine.acts g.M.Machine.kept g.T.Sample.number g.M.Machine.price l.initial.machines
    l.machines l.at l.initial.samples l.samples l.initial.steps l.steps

abbrev pub decreases-fours : goal.decreases-fours
decreases-fours g l = length l.machines - l.at

abbrev pub invariant-pairs : goal.invariant-pairs
invariant-pairs g l = HaveRun g.M.Machine.acts g.M.Machine.kept g.T.Sample.number g.M.Machine.price l.fn.machines
    l.machines l.at l.fn.samples l.samples l.fn.steps l.steps

abbrev pub decreases-pairs : goal.decreases-pairs
decreases-pairs g l = length l.machines - l.at
