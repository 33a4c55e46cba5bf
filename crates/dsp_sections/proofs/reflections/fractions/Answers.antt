use Rattle.std.proofs.Common.{◌≡◌, ◌∙◌, ap, sym, subst, List, ℕ, ℤ, ◌*ℤ◌, ◌<ℤ◌, ◌≤ℤ◌, pos, map, rules, arith, w16}
use Rattle.std.proofs.Common.{SFits, to_z}
use Rattle.std.proofs.lemmas.Int.{ints, to_z-of_z}
use Rattle.std.specs.Simd.Lanes.{Each1}
use Rattle.dsp_lanes.proofs.LaneOps.{bits_of, ints_of_bits}
use Rattle.dsp_lanes.proofs.LaneSums.{lanes_read}
use Rattle.dsp_defs.specs.Numbers.{floor_shift}
use Rattle.dsp_lanes.proofs.Fractions.{added_read, lessened_read, same_fractions, whole_above, whole_below, whole_none}
use Rattle.dsp_sections.proofs.reflections.fractions.Goals.{then-whole-gt0, else-whole-gt0, then-whole-lt0}
use Rattle.dsp_sections.proofs.reflections.fractions.Goals.{else-whole-lt0}
use Rattle.dsp_sections.proofs.reflections.fractions.Given.{Over}
use Rattle.dsp_sections.proofs.reflections.fractions.Goals as goal

pub high_words-high-requires-clause-fit : goal.high_words-high-requires-clause-fit
high_words-high-requires-clause-fit g c = subst (λ (l : List ℤ). Each1 (SFits w16) l)
    (sym (ints_of_bits w16 c.args.samples c.requires.fit)) c.requires.fit

abbrev Are : ℤ → List ℤ → List ℕ → Type 0
Are k xs lanes = (map (to_z w16) lanes ≡ map (λ x. floor_shift (k *ℤ x) 15) xs)
    × Each1 (SFits w16) (map (to_z w16) lanes)

-- in each of the three cases the lanes are those of the fractions
read : (g : Over) (c : goal.Joined-whole-gt0 g) → Are c.args.k c.args.samples c.if-whole-gt0.result
read g c =
    let k = c.args.k in
    let xs = c.args.samples in
    let u = c.folded-factor.result.0 in
    let s = c.folded-factor.result.1 in
    let fits_u : SFits w16 u = search rules in
    let fits_s : SFits w16 s = search rules in
    let s_is = to_z-of_z w16 s fits_s in
    let double = c.folded-factor.ensures.double ∙ ap (λ z. pos 2 *ℤ z) (to_z-of_z w16 k c.ranges.k) in
    let high = c.high_words-high.result in
    let words : high ≡ map (λ x. floor_shift (x *ℤ u) 16) xs =
    c.high_words-high.ensures.value ∙ (λ i. map (λ x. floor_shift (x *ℤ to_z-of_z w16 u fits_u i) 16)
    (ints_of_bits w16 xs c.requires.fit i)) in
    let fit = c.high_words-high.ensures.fit in
    elim c.if-whole-gt0.branch [
      | then-whole-gt0 w ↦
          let above : pos 0 <ℤ s = omega (arith, ints, rw s_is at w.if-whole-gt0.true) in
          subst (Are k xs) (sym w.result-is) (added_read k u c.ranges.k c.requires.apart
          (whole_above k u s double fits_u c.ranges.k above) high xs words fit c.requires.fit)
      | else-whole-gt0 w ↦
          let not_above : s ≤ℤ pos 0 = omega (arith, ints, rw s_is at w.if-whole-gt0.false) in
          elim w.if-whole-lt0.branch [
            | then-whole-lt0 w' ↦
                let below : s <ℤ pos 0 = omega (arith, ints, rw s_is at w'.if-whole-lt0.true) in
                subst (Are k xs) (sym (w.result-is ∙ w'.result-is))
                (lessened_read k u c.ranges.k c.requires.apart (whole_below k u s double fits_u c.ranges.k below)
                high xs words fit c.requires.fit)
            | else-whole-lt0 w' ↦
                let not_below : pos 0 ≤ℤ s = omega (arith, ints, rw s_is at w'.if-whole-lt0.false) in
                let same = words ∙ same_fractions k u c.ranges.k c.requires.apart
                (whole_none k u s double fits_u c.ranges.k not_below not_above) xs c.requires.fit in
                subst (Are k xs) (sym (w.result-is ∙ w'.result-is))
                (lanes_read w16 (bits_of w16 high) _ (ap (bits_of w16) same)
                (subst (λ (l : List ℤ). Each1 (SFits w16) l) same fit))
          ]
    ]

pub returns-clause-value : goal.returns-clause-value
returns-clause-value g c = (read g c).0

pub returns-clause-fit : goal.returns-clause-fit
returns-clause-fit g c = (read g c).1
