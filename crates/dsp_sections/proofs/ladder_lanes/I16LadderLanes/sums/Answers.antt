use Rattle.std.proofs.Common.{◌∙◌, ◌+ℤ◌, refl, sym, ap, ap₂, length, w16}
use Rattle.std.proofs.lemmas.Simd.{length-zip2}
use lib.Lanes.{zip2}
use Rattle.dsp_defs.specs.Numbers.{saturate}
use Rattle.dsp_lanes.proofs.LaneOps.{ints_of_bits}
use Rattle.dsp_sections.proofs.LadderLanes.{lanes_fit}
use Rattle.dsp_sections.proofs.ladder_lanes.I16LadderLanes.sums.Goals as goal

pub saturated_sums-requires-clause-fit_x : goal.saturated_sums-requires-clause-fit_x
saturated_sums-requires-clause-fit_x c = (lanes_fit w16 8 _ c.args.a refl c.requires.fit_a).0

pub saturated_sums-requires-clause-fit_y : goal.saturated_sums-requires-clause-fit_y
saturated_sums-requires-clause-fit_y c = (lanes_fit w16 8 _ c.args.b refl c.requires.fit_b).0

pub returns-clause-value : goal.returns-clause-value
returns-clause-value c =
    ints_of_bits w16 c.saturated_sums.result c.saturated_sums.ensures.fit
    ∙ c.saturated_sums.ensures.value
    ∙ ap₂ (zip2 (λ x y. saturate 16 (x +ℤ y))) (ints_of_bits w16 c.args.a c.requires.fit_a.0)
    (ints_of_bits w16 c.args.b c.requires.fit_b.0)

pub returns-clause-fit : goal.returns-clause-fit
returns-clause-fit c =
    let a = lanes_fit w16 8 _ c.args.a refl c.requires.fit_a in
    let b = lanes_fit w16 8 _ c.args.b refl c.requires.fit_b in
    lanes_fit w16 8 _ c.saturated_sums.result refl (
      c.saturated_sums.ensures.fit,
      ap length c.saturated_sums.ensures.value ∙
          length-zip2 (λ x y. saturate 16 (x +ℤ y)) _ _ (a.1 ∙ sym b.1) ∙ a.1,
    )
