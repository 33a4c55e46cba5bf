use Rattle.std.proofs.Common.{◌∙◌, ap, sym, subst, arith, length}
use Rattle.dsp_defs.specs.Shape.{frames_at_correlate}
use Rattle.dsp_unit.specs.Line.{AllFew, blocks_of}
use Rattle.dsp_shape.proofs.FewFrames.{few_first}
use Rattle.dsp_chain.specs.Counting.{frames_of}
use Rattle.dsp_chain.proofs.FrameCounts.{few-after, gathered-here, gathered-later}
use Rattle.dsp_chain.proofs.Room.{no-units}
use Rattle.dsp_chain.proofs.counting.+gathered.Goals as goal

pub gives-requires-clause-taken : goal.gives-requires-clause-taken
gives-requires-clause-taken g t c =
    (subst (λ us. AllFew (blocks_of us) c.args.frames) c.in-Some.ensures.cases.0 c.requires).0

pub gives-requires-clause-given : goal.gives-requires-clause-given
gives-requires-clause-given g t c =
    let few = subst (λ us. AllFew (blocks_of us) c.args.frames) c.in-Some.ensures.cases.0 c.requires in
    few_first (blocks_of c.in-Some.behind.now) _ few.1

pub gathered-requires : goal.gathered-requires
gathered-requires g t c κs within =
    let few = subst (λ us. AllFew (blocks_of us) c.args.frames) c.in-Some.ensures.cases.0 c.requires in (
      omega (arith, ap length c.in-Some.ensures.cases.0, c.decreases),
      (
        within,
        rw c.gives.ensures (few-after c.args.signal c.in-Some.link.now.block
            (blocks_of c.in-Some.behind.now) c.args.frames few),
      ),
    )

pub returns-in_default : goal.returns-in_default
returns-in_default g t c = ap (λ us. frames_at_correlate (frames_of c.args.signal) (blocks_of us) c.args.frames)
    (sym (no-units c.args.links.now c.in_default.ensures.cases))

pub returns-then-gathers : goal.returns-then-gathers
returns-then-gathers g t c =
    let gives = frames_of c.args.signal in
    let here = gathered-here gives c.in-Some.link.now.block (blocks_of c.in-Some.behind.now) c.args.frames
    (sym c.gathers.ensures ∙ c.if-gathers.true) in
    sym (ap (λ us. frames_at_correlate gives (blocks_of us) c.args.frames) c.in-Some.ensures.cases.0 ∙ here)

pub returns : goal.returns
returns g t c =
    let gives = frames_of c.args.signal in
    let blocks = blocks_of c.in-Some.behind.now in
    let later = gathered-later gives c.in-Some.link.now.block blocks c.args.frames
    (sym c.gathers.ensures ∙ c.if-gathers.false) in
    c.gathered.ensures ∙ ap (frames_at_correlate gives blocks) c.gives.ensures ∙ sym
    (ap (λ us. frames_at_correlate gives (blocks_of us) c.args.frames) c.in-Some.ensures.cases.0 ∙ later)
