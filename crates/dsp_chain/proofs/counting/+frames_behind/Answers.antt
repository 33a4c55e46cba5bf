use Rattle.std.proofs.Common.{◌∙◌, ap, sym, subst, arith, length}
use Rattle.dsp_defs.specs.Shape.{frames_behind}
use Rattle.dsp_unit.specs.Line.{AllFew, blocks_of}
use Rattle.dsp_shape.proofs.FewFrames.{few_first}
use Rattle.dsp_chain.specs.Counting.{frames_of}
use Rattle.dsp_chain.proofs.FrameCounts.{few-after}
use Rattle.dsp_chain.proofs.Room.{no-units}
use Rattle.dsp_chain.proofs.counting.+frames_behind.Goals as goal

pub gives-requires-clause-taken : goal.gives-requires-clause-taken
gives-requires-clause-taken g t c =
    (subst (λ us. AllFew (blocks_of us) c.args.frames) c.in-Some.ensures.cases.0 c.requires).0

pub gives-requires-clause-given : goal.gives-requires-clause-given
gives-requires-clause-given g t c =
    let few = subst (λ us. AllFew (blocks_of us) c.args.frames) c.in-Some.ensures.cases.0 c.requires in
    few_first (blocks_of c.in-Some.behind.now) _ few.1

pub frames_behind-requires : goal.frames_behind-requires
frames_behind-requires g t c κs within =
    let few = subst (λ us. AllFew (blocks_of us) c.args.frames) c.in-Some.ensures.cases.0 c.requires in (
      omega (arith, ap length c.in-Some.ensures.cases.0, c.decreases),
      (
        within,
        rw c.gives.ensures (few-after c.args.signal c.in-Some.link.now.block
            (blocks_of c.in-Some.behind.now) c.args.frames few),
      ),
    )

pub returns-in_default : goal.returns-in_default
returns-in_default g t c = ap (λ us. frames_behind (frames_of c.args.signal) (blocks_of us) c.args.frames)
    (sym (no-units c.args.links.now c.in_default.ensures.cases))

pub returns : goal.returns
returns g t c =
    let gives = frames_of c.args.signal in
    c.frames_behind.ensures ∙ ap (frames_behind gives (blocks_of c.in-Some.behind.now)) c.gives.ensures ∙ sym
    (ap (λ us. frames_behind gives (blocks_of us) c.args.frames) c.in-Some.ensures.cases.0)
