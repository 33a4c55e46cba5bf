use Rattle.std.proofs.Common.{◌∙◌, ap, sym, subst, length, arith, ◌++◌}
use Rattle.std.proofs.lemmas.List.{take-append-drop}
use Rattle.dsp_unit.specs.Unit.{UnitState, Restores}
use Rattle.dsp_unit.specs.Line.{AllRun, AllFew, blocks_of}
use Rattle.dsp_shape.proofs.FewFrames.{few_first}
use Rattle.dsp_chain.specs.declared.signal.Signal.TheVariants.{Live}
use Rattle.dsp_chain.proofs.FrameCounts.{few-after}
use Rattle.dsp_defs.specs.Kept.{FitsAfter}
use Rattle.dsp_chain.specs.Restored.{FitsUnits, AllRestores}
use Rattle.dsp_chain.proofs.Links.{link-again}
use Rattle.dsp_chain.proofs.KeptLines.{cut}
use Rattle.dsp_chain.proofs.Room.{no-units}
use Rattle.dsp_chain.proofs.keeping.+restore_line.Goals as goal

pub count-count-requires : goal.count-count-requires
count-count-requires g t c =
    (subst (λ us. AllFew (blocks_of us) c.args.frames) c.in-Some.ensures.cases.0 c.requires.frames).0

pub overflow_cast-count : goal.overflow_cast-count
overflow_cast-count g t c =
    let cuts = cut c.in-Some.link.now c.in-Some.behind.now c.args.frames c.count-count.result c.args.numbers.now
    c.count-count.ensures.count (subst (λ us. FitsUnits us c.args.frames c.args.numbers.now)
    c.in-Some.ensures.cases.0 c.requires.fits) in
    omega (arith, cuts.within)

pub split_at-requires : goal.split_at-requires
split_at-requires g t c =
    let cuts = cut c.in-Some.link.now c.in-Some.behind.now c.args.frames c.count-count.result c.args.numbers.now
    c.count-count.ensures.count (subst (λ us. FitsUnits us c.args.frames c.args.numbers.now)
    c.in-Some.ensures.cases.0 c.requires.fits) in
    cuts.within

pub restore-requires-clause-fits : goal.restore-requires-clause-fits
restore-requires-clause-fits g t c =
    let cuts = cut c.in-Some.link.now c.in-Some.behind.now c.args.frames c.count-count.result c.args.numbers.now
    c.count-count.ensures.count (subst (λ us. FitsUnits us c.args.frames c.args.numbers.now)
    c.in-Some.ensures.cases.0 c.requires.fits) in
    let here = subst (FitsAfter c.in-Some.link.now.format c.in-Some.link.now.channels c.in-Some.link.now.block
    c.args.frames) (sym c.split_at.ensures.front) cuts.here in (
      c.args.frames,
      subst (λ (u : UnitState). FitsAfter u.format u.channels u.block c.args.frames
          c.split_at.result.0.now) (sym c.link.view_is) here,
    )

pub gives-given-requires-clause-given : goal.gives-given-requires-clause-given
gives-given-requires-clause-given g t c =
    let few = subst (λ us. AllFew (blocks_of us) c.args.frames) c.in-Some.ensures.cases.0 c.requires.frames in
    few_first (blocks_of c.in-Some.behind.now) _ few.1

pub restore_line-requires : goal.restore_line-requires
restore_line-requires g t c κs within =
    let cuts = cut c.in-Some.link.now c.in-Some.behind.now c.args.frames c.count-count.result c.args.numbers.now
    c.count-count.ensures.count (subst (λ us. FitsUnits us c.args.frames c.args.numbers.now)
    c.in-Some.ensures.cases.0 c.requires.fits) in
    let behind = subst (FitsUnits c.in-Some.behind.now _) (sym c.split_at.ensures.back) cuts.behind in
    let few = subst (λ us. AllFew (blocks_of us) c.args.frames) c.in-Some.ensures.cases.0 c.requires.frames in
    let runs : AllRun c.in-Some.behind.now = (subst AllRun c.in-Some.ensures.cases.0 c.requires.running).1 in (
      omega (arith, ap length c.in-Some.ensures.cases.0, c.decreases),
      (
        within,
        (
          runs,
          (
            rw c.gives-given.ensures (few-after Live c.in-Some.link.now.block (blocks_of c.in-Some.behind.now)
                c.args.frames few),
            rw c.gives-given.ensures behind,
          ),
        ),
      ),
    )

pub returns : goal.returns
returns g t c =
    let cuts = cut c.in-Some.link.now c.in-Some.behind.now c.args.frames c.count-count.result c.args.numbers.now
    c.count-count.ensures.count (subst (λ us. FitsUnits us c.args.frames c.args.numbers.now)
    c.in-Some.ensures.cases.0 c.requires.fits) in
    let here = subst (FitsAfter c.in-Some.link.now.format c.in-Some.link.now.channels c.in-Some.link.now.block
    c.args.frames) (sym c.split_at.ensures.front) cuts.here in
    let one : Restores c.in-Some.link.now (g.S.Unit.unit c.restore.new.self) c.split_at.result.0.now =
    subst (λ (u : UnitState). Restores u (g.S.Unit.unit c.restore.new.self) c.split_at.result.0.now) c.link.view_is
    c.restore.ensures in
    let behind : AllRestores c.in-Some.behind.now c.restore_line.new.links _ c.split_at.result.1.now =
    subst (λ n. AllRestores c.in-Some.behind.now c.restore_line.new.links n c.split_at.result.1.now)
    c.gives-given.ensures c.restore_line.ensures in
    let split = sym (take-append-drop c.count-count.result c.args.numbers.now) ∙
    (λ i. sym c.split_at.ensures.front i ++ sym c.split_at.ensures.back i) in
    rw c.in-Some.ensures.cases.0 (c.split_at.result.0.now, c.split_at.result.1.now, split, here, one, behind)

pub gives-given-requires-clause-taken : goal.gives-given-requires-clause-taken
gives-given-requires-clause-taken g t c =
    (subst (λ us. AllFew (blocks_of us) c.args.frames) c.in-Some.ensures.cases.0 c.requires.frames).0

pub invariant_of-link : goal.invariant_of-link
invariant_of-link g t c = link-again _ _ _ _ _ c.restore.ensures.made c.link.invariant

pub returns-in_default : goal.returns-in_default
returns-in_default g t c =
    let none = no-units c.args.links.now c.in_default.ensures.cases in
    subst (λ us. AllRestores us us c.args.frames c.args.numbers.now) (sym none)
    (subst (λ us. FitsUnits us c.args.frames c.args.numbers.now) none c.requires.fits)
