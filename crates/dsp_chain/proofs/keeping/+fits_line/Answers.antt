use Rattle.std.proofs.Common.{◌≡◌, ◌∙◌, ap, sym, subst, true, false, length, arith, Some}
use Rattle.dsp_defs.specs.Kept.{place_of}
use Rattle.dsp_chain.specs.Restored.{FitsUnits}
use Rattle.dsp_unit.specs.Line.{AllFew, blocks_of}
use Rattle.dsp_shape.proofs.FewFrames.{few_first}
use Rattle.dsp_chain.specs.declared.signal.Signal.TheVariants.{Live}
use Rattle.dsp_chain.proofs.FrameCounts.{few-after}
use Rattle.dsp_chain.proofs.KeptLines.{cut, told, no-numbers}
use Rattle.dsp_chain.proofs.Room.{no-units}
use Rattle.dsp_chain.proofs.keeping.+fits_line.Goals as goal

never : false ≡ true → ⊥
never e = cc

pub count-count-requires : goal.count-count-requires
count-count-requires g t c =
    (subst (λ us. AllFew (blocks_of us) c.args.frames) c.in-Some.ensures.cases.0 c.requires).0

pub returns-then-count-numbers : goal.returns-then-count-numbers
returns-then-count-numbers g t c =
    let short : FitsUnits c.args.links.now c.args.frames c.args.numbers.now → ⊥ =
    λ fits.
    let cuts = cut c.in-Some.link.now c.in-Some.behind.now c.args.frames c.count-count.result c.args.numbers.now
    c.count-count.ensures.count (subst (λ us. FitsUnits us c.args.frames c.args.numbers.now)
    c.in-Some.ensures.cases.0 fits) in
    omega (arith, c.if-count-numbers.true, cuts.within) in
    (λ e. absurd (never e), λ fits. absurd (short fits))

pub returns-in_default-place : goal.returns-in_default-place
returns-in_default-place g t c =
    let tells = told _ c.in-Some.link.now c.in-Some.behind.now c.args.frames c.count-count.result
    c.args.numbers.now c.split_at.result.0.now c.split_at.result.1.now c.place.result
    c.link.view_is c.count-count.ensures.count c.split_at.ensures.front c.split_at.ensures.back
    c.place.ensures.fits c.place.ensures.least in
    let none : FitsUnits c.args.links.now c.args.frames c.args.numbers.now → ⊥ =
    λ fits. c.in_default-place.not-Some _ (tells.finds (subst (λ us. FitsUnits us c.args.frames c.args.numbers.now)
    c.in-Some.ensures.cases.0 fits)) in
    (λ e. absurd (never e), λ fits. absurd (none fits))

pub returns-then-place : goal.returns-then-place
returns-then-place g t c =
    let tells = told _ c.in-Some.link.now c.in-Some.behind.now c.args.frames c.count-count.result
    c.args.numbers.now c.split_at.result.0.now c.split_at.result.1.now c.place.result
    c.link.view_is c.count-count.ensures.count c.split_at.ensures.front c.split_at.ensures.back
    c.place.ensures.fits c.place.ensures.least in
    let other : FitsUnits c.args.links.now c.args.frames c.args.numbers.now → ⊥ =
    λ fits.
    let found : Some c.in-Some-place.place ≡ Some (place_of c.in-Some.link.now.block c.args.frames) =
    sym c.in-Some-place.is ∙ tells.finds (subst (λ us. FitsUnits us c.args.frames c.args.numbers.now)
    c.in-Some.ensures.cases.0 fits) in
    let same : c.in-Some-place.place ≡ place_of c.in-Some.link.now.block c.args.frames = cc found in
    c.if-place.true (same ∙ sym c.place-2.ensures) in
    (λ e. absurd (never e), λ fits. absurd (other fits))

pub gives-requires-clause-given : goal.gives-requires-clause-given
gives-requires-clause-given g t c =
    let few = subst (λ us. AllFew (blocks_of us) c.args.frames) c.in-Some.ensures.cases.0 c.requires in
    few_first (blocks_of c.in-Some.behind.now) _ few.1

pub fits_line-requires : goal.fits_line-requires
fits_line-requires g t c κs within =
    let few = subst (λ us. AllFew (blocks_of us) c.args.frames) c.in-Some.ensures.cases.0 c.requires in (
      omega (arith, ap length c.in-Some.ensures.cases.0, c.decreases),
      (
        within,
        rw c.gives.ensures (few-after Live c.in-Some.link.now.block (blocks_of c.in-Some.behind.now)
            c.args.frames few),
      ),
    )

pub returns : goal.returns
returns g t c =
    let tells = told _ c.in-Some.link.now c.in-Some.behind.now c.args.frames c.count-count.result
    c.args.numbers.now c.split_at.result.0.now c.split_at.result.1.now c.place.result
    c.link.view_is c.count-count.ensures.count c.split_at.ensures.front c.split_at.ensures.back
    c.place.ensures.fits c.place.ensures.least in
    let live = c.gives.ensures in
    let place = c.in-Some-place.is ∙ ap Some (c.if-place.false ∙ c.place-2.ensures) in (
      λ yes. subst (λ us. FitsUnits us c.args.frames c.args.numbers.now) (sym c.in-Some.ensures.cases.0)
          (tells.both place (subst (λ n. FitsUnits c.in-Some.behind.now n c.split_at.result.1.now) live
          (c.fits_line.ensures.0 yes))),
      λ fits. c.fits_line.ensures.1 (subst (λ n. FitsUnits c.in-Some.behind.now n c.split_at.result.1.now)
          (sym live) (tells.behind (subst (λ us. FitsUnits us c.args.frames c.args.numbers.now)
          c.in-Some.ensures.cases.0 fits))),
    )

pub gives-requires-clause-taken : goal.gives-requires-clause-taken
gives-requires-clause-taken g t c =
    (subst (λ us. AllFew (blocks_of us) c.args.frames) c.in-Some.ensures.cases.0 c.requires).0

pub place-requires-2 : goal.place-requires-2
place-requires-2 g t c =
    (subst (λ us. AllFew (blocks_of us) c.args.frames) c.in-Some.ensures.cases.0 c.requires).0

pub returns-in_default : goal.returns-in_default
returns-in_default g t c =
    let none = no-units c.args.links.now c.in_default.ensures.cases in
    let empty = no-numbers c.args.numbers.now c.is_empty.result c.is_empty.ensures in (
      λ yes. subst (λ us. FitsUnits us c.args.frames c.args.numbers.now) (sym none) (empty.0 yes),
      λ fits. empty.1 (subst (λ us. FitsUnits us c.args.frames c.args.numbers.now) none fits),
    )
