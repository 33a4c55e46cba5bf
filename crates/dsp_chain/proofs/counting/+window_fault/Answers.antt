use Rattle.std.proofs.Common.{ap, subst, arith, length}
use Rattle.dsp_unit.specs.Line.{AllFew, blocks_of}
use Rattle.dsp_shape.proofs.FewFrames.{few_first}
use Rattle.dsp_chain.proofs.counting.+window_fault.Goals as goal

pub window-requires : goal.window-requires
window-requires g t c =
    (subst (λ us. AllFew (blocks_of us) c.args.frames) c.in-Some.ensures.cases.0 c.requires).0

pub gives-requires-clause-taken : goal.gives-requires-clause-taken
gives-requires-clause-taken g t c =
    (subst (λ us. AllFew (blocks_of us) c.args.frames) c.in-Some.ensures.cases.0 c.requires).0

pub gives-requires-clause-given : goal.gives-requires-clause-given
gives-requires-clause-given g t c =
    let few = subst (λ us. AllFew (blocks_of us) c.args.frames) c.in-Some.ensures.cases.0 c.requires in
    few_first (blocks_of c.in-Some.behind.now) _ few.1

pub window_fault-requires : goal.window_fault-requires
window_fault-requires g t c κs within =
    let few = subst (λ us. AllFew (blocks_of us) c.args.frames) c.in-Some.ensures.cases.0 c.requires in (
      omega (arith, ap length c.in-Some.ensures.cases.0, c.decreases),
      (within, rw c.gives.ensures few.1),
    )
