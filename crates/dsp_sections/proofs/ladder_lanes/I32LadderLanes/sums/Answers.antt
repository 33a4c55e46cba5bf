use Rattle.std.proofs.Common.{◌∙◌, ◌+ℤ◌, refl, sym, ap, ap₂, length, w32}
use Rattle.std.proofs.lemmas.Simd.{length-zip2}
use lib.Lanes.{zip2}
use Rattle.dsp_defs.specs.Numbers.{saturate}
use Rattle.dsp_lanes.proofs.LaneOps.{ints_of_bits}
use Rattle.dsp_sections.proofs.LadderLanes.{lanes_fit}
use Rattle.dsp_sections.proofs.LadderSections.{sums-turned}
use Rattle.dsp_sections.proofs.ladder_lanes.I32LadderLanes.sums.Goals as goal

pub saturating_sum-requires-clause-values : goal.saturating_sum-requires-clause-values
saturating_sum-requires-clause-values c = (lanes_fit w32 4 _ c.args.b refl c.requires.fit_b).0

pub saturating_sum-requires-clause-changes : goal.saturating_sum-requires-clause-changes
saturating_sum-requires-clause-changes c = (lanes_fit w32 4 _ c.args.a refl c.requires.fit_a).0

pub returns-clause-value : goal.returns-clause-value
returns-clause-value c =
    ints_of_bits w32 c.saturating_sum.result c.saturating_sum.ensures.fit
    ∙ c.saturating_sum.ensures.sums
    ∙ ap₂ (zip2 (λ x y. saturate 32 (x +ℤ y))) (ints_of_bits w32 c.args.b c.requires.fit_b.0)
    (ints_of_bits w32 c.args.a c.requires.fit_a.0)
    ∙ sums-turned 32 c.args.b c.args.a

pub returns-clause-fit : goal.returns-clause-fit
returns-clause-fit c =
    let a = lanes_fit w32 4 _ c.args.a refl c.requires.fit_a in
    let b = lanes_fit w32 4 _ c.args.b refl c.requires.fit_b in
    lanes_fit w32 4 _ c.saturating_sum.result refl (
      c.saturating_sum.ensures.fit,
      ap length c.saturating_sum.ensures.sums ∙
          length-zip2 (λ x y. saturate 32 (x +ℤ y)) _ _ (b.1 ∙ sym a.1) ∙ b.1,
    )
