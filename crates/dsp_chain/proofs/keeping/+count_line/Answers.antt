use Rattle.std.proofs.Common.{◌∙◌, ap, sym, subst, arith, length}
use Rattle.dsp_defs.specs.Kept.{kept_count_of_chain}
use Rattle.dsp_unit.specs.Line.{InLine, AllFew, blocks_of}
use Rattle.dsp_shape.proofs.FewFrames.{few_first}
use Rattle.dsp_chain.specs.declared.signal.Signal.TheVariants.{Live}
use Rattle.dsp_chain.proofs.FrameCounts.{few-after}
use Rattle.dsp_chain.proofs.KeptCounts.{counts-more}
use Rattle.dsp_chain.proofs.Room.{no-units}
use Rattle.dsp_chain.proofs.keeping.+count_line.Goals as goal

pub count-requires : goal.count-requires
count-requires g t c =
    (subst (λ us. AllFew (blocks_of us) c.args.frames) c.in-Some.ensures.cases.0 c.requires.frames).0

pub gives-requires-clause-taken : goal.gives-requires-clause-taken
gives-requires-clause-taken g t c =
    (subst (λ us. AllFew (blocks_of us) c.args.frames) c.in-Some.ensures.cases.0 c.requires.frames).0

pub gives-requires-clause-given : goal.gives-requires-clause-given
gives-requires-clause-given g t c =
    let few = subst (λ us. AllFew (blocks_of us) c.args.frames) c.in-Some.ensures.cases.0 c.requires.frames in
    few_first (blocks_of c.in-Some.behind.now) _ few.1

pub count_line-requires : goal.count_line-requires
count_line-requires g t c κs within =
    let size = ap length c.in-Some.ensures.cases.0 in
    let few = subst (λ us. AllFew (blocks_of us) c.args.frames) c.in-Some.ensures.cases.0 c.requires.frames in (
      omega (arith, size, c.decreases),
      (
        within,
        (
          rw c.gives.ensures (few-after Live c.in-Some.link.now.block (blocks_of c.in-Some.behind.now) c.args.frames
              few),
          omega (arith, size, c.requires.few),
        ),
      ),
    )

pub returns-in_default-clause-count : goal.returns-in_default-clause-count
returns-in_default-clause-count g t c = λ p line. ap (λ us. kept_count_of_chain p.format p.channels (blocks_of us)
    c.args.frames) (sym (no-units c.args.links.now c.in_default.ensures.cases))

pub returns-clause-count : goal.returns-clause-count
returns-clause-count g t c = λ p line.
    let e = c.in-Some.ensures.cases.0 in
    counts-more p c.in-Some.link.now c.in-Some.behind.now c.args.frames _ _ (subst (InLine p) e line)
    c.count.ensures.count
    (λ q behind. c.count_line.ensures.count q behind ∙ ap (kept_count_of_chain q.format q.channels
    (blocks_of c.in-Some.behind.now)) c.gives.ensures)
    ∙ ap (λ us. kept_count_of_chain p.format p.channels (blocks_of us) c.args.frames) (sym e)
