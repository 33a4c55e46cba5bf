use Rattle.std.proofs.Common.{◌≡◌, ◌∙◌, ap, ℕ, zero, suc, ◌<◌, ℤ, pos, List, [], ◌∷◌, length, get_or, SFits, to_z}
use Rattle.std.proofs.Common.{of_z, w32, w64, arith}
use Rattle.std.specs.Int.{int_wrap}
use Rattle.std.proofs.lemmas.Int.{to_z-of_z}
use Rattle.std.proofs.lemmas.Simd.{Each1-get_or}
use Rattle.dsp_defs.specs.Signal.{sample}
use Rattle.dsp_sections.proofs.FourSections.{back}
use Rattle.dsp_biquad.proofs.lane_numbers.number_in.Goals as goal

lane-read : (xs : List ℤ) (i : ℕ) (v : ℤ) → i < length xs → v ≡ get_or xs i v → v ≡ sample xs i
lane-read [] i v h is = absurd (omega (arith, h))
lane-read (x ∷ xs) zero v h is = is
lane-read (x ∷ xs) (suc i) v h is = lane-read xs i v (omega (arith, h)) is

pub returns : goal.returns
returns c =
    let lanes = c.args.lanes in
    let lane = c.args.lane in
    let f = c.requires.lanes.1 in
    let v = c.index.result.now in
    let inside : lane < length lanes = omega (arith, c.requires.lanes.0, c.requires.inside) in
    let here = lane-read lanes lane v inside (c.index.ensures ∙ ap (λ (l : List ℤ). get_or l lane v) (back lanes f)) in
    to_z-of_z w64 c.from.result (record { sfits = c.from.type_inv }) ∙ c.from.ensures
    ∙ to_z-of_z w32 c.low_word.result (record { sfits = c.low_word.type_inv }) ∙ c.low_word.ensures
    ∙ ap (λ x. int_wrap w32 (to_z w64 (of_z w64 x))) here
    ∙ ap (int_wrap w32) (to_z-of_z w64 (sample lanes lane) (Each1-get_or (SFits w64) lanes lane (pos 0) inside f))
