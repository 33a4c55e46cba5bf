use Rattle.std.proofs.Common.{drop}
use Rattle.dsp_check.proofs.Evaluations.{Evaluates}
use Rattle.dsp_check.proofs.evaluating.evaluate.Given as goal

-- the blocks that are left give of the signal here what the script gives of the whole signal
abbrev pub invariant-loop-block : goal.invariant-loop-block
invariant-loop-block g l = Evaluates l.script l.signal l.initial.steps.multiplies l.flow
    (drop l.block-index l.block-items) l.y l.steps.multiplies
