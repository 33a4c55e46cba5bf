use Rattle.std.proofs.Common.{◌∙◌, ap, rules, ◌*◌, ◌<◌, drop, Some, SFits, to_z-of_z}
use mir.Syntax.{w64}
use Rattle.dsp_defs.specs.Signal.{sample}
use Rattle.dsp_defs.specs.declared.measure.Measure.TheVariants as Measures
use Rattle.dsp_defs.specs.Kept.{kept_extreme}
use Rattle.dsp_measure.proofs.MeasureResults.{value-at, power-room, max-room, min-room, max-keeps, min-keeps}
use Rattle.dsp_measure.proofs.results.result_of.Goals as goal

pub bounds-kept-index : goal.bounds-kept-index
bounds-kept-index c =
    let kept = rw c.in-Power.is at c.requires.kept in
    power-room c.args.format c.args.channels c.args.index c.args.kept.now (rw c.in-Power.is at c.requires.inside)
    kept.0 kept.1

pub extreme_of-requires-clause-room : goal.extreme_of-requires-clause-room
extreme_of-requires-clause-room c =
    let kept = rw c.in-Max.is at c.requires.kept in
    max-room c.args.format c.args.channels c.args.index c.args.kept.now (rw c.in-Max.is at c.requires.inside) kept.0
    kept.1

pub extreme_of-requires-clause-kept : goal.extreme_of-requires-clause-kept
extreme_of-requires-clause-kept c =
    let kept = rw c.in-Max.is at c.requires.kept in (
      kept.0,
      max-keeps c.args.format c.args.channels c.args.index c.args.kept.now
          (rw c.in-Max.is at c.requires.inside) kept.0 kept.1,
    )

pub extreme_of-requires-in-Min-clause-room : goal.extreme_of-requires-in-Min-clause-room
extreme_of-requires-in-Min-clause-room c =
    let kept = rw c.in-Min.is at c.requires.kept in
    min-room c.args.format c.args.channels c.args.index c.args.kept.now (rw c.in-Min.is at c.requires.inside) kept.0
    kept.1

pub extreme_of-requires-in-Min-clause-kept : goal.extreme_of-requires-in-Min-clause-kept
extreme_of-requires-in-Min-clause-kept c =
    let kept = rw c.in-Min.is at c.requires.kept in (
      kept.0,
      min-keeps c.args.format c.args.channels c.args.index c.args.kept.now
          (rw c.in-Min.is at c.requires.inside) kept.0 kept.1,
    )

pub returns-in-Power : goal.returns-in-Power
returns-in-Power c =
    let inside : c.args.index < c.args.channels = rw c.in-Power.is at c.requires.inside in
    let fits : SFits w64 (sample c.args.kept.now c.args.index) = search rules in
    rw (c.in-Power.is, to_z-of_z fits) (value-at (λ p. Measures.Power c.args.number p (sample c.args.kept.now p))
    c.args.channels c.args.index inside)

pub returns-in-Max : goal.returns-in-Max
returns-in-Max c =
    let inside : c.args.index < c.args.channels = rw c.in-Max.is at c.requires.inside in
    rw c.in-Max.is
    (ap (λ f. Some (Measures.Max c.args.number c.args.index f)) c.extreme_of.ensures
    ∙ value-at (λ p. Measures.Max c.args.number p (kept_extreme (drop (4 * p) c.args.kept.now))) c.args.channels
    c.args.index inside)

pub returns-in-Min : goal.returns-in-Min
returns-in-Min c =
    let inside : c.args.index < c.args.channels = rw c.in-Min.is at c.requires.inside in
    rw c.in-Min.is
    (ap (λ f. Some (Measures.Min c.args.number c.args.index f)) c.extreme_of-in-Min.ensures
    ∙ value-at (λ p. Measures.Min c.args.number p (kept_extreme (drop (4 * p) c.args.kept.now))) c.args.channels
    c.args.index inside)
