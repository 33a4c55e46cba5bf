use Rattle.std.proofs.Common.{◌∙◌, ◌∷◌, ◌+ℤ◌, ◌*ℤ◌, ℤ, List, ap, sym, subst, length, map, w16}
use Rattle.std.proofs.lemmas.Int.{to_z-of_z}
use Rattle.std.proofs.lemmas.Simd.{length-chunk}
use lib.Lanes.{chunk, put_chunk, zip2, Each1}
use mir.Val.{SFits}
use Rattle.dsp_defs.specs.Numbers.{floor_shift, saturate}
use Rattle.dsp_defs.specs.Signal.{sample}
use Rattle.dsp_lanes.proofs.LaneOps.{ints_of_bits, group_fits}
use Rattle.dsp_sections.proofs.ReflectedGroups.{before_chunk, forward-is, backward-is}
use Rattle.dsp_sections.proofs.reflections.reflect_group.Goals as goal

pub saturated_sums-requires-clause-long_y : goal.saturated_sums-requires-clause-long_y
saturated_sums-requires-clause-long_y g c =
    ap length (ints_of_bits w16 (chunk c.args.at 8 c.args.forward.now)
    (group_fits w16 c.args.at 8 c.args.forward.now c.q15_fit.ensures c.requires.forward)) ∙
    length-chunk c.args.at 8 c.args.forward.now c.requires.forward

pub saturated_sums-requires-clause-fit_y : goal.saturated_sums-requires-clause-fit_y
saturated_sums-requires-clause-fit_y g c =
    let fits = group_fits w16 c.args.at 8 c.args.forward.now c.q15_fit.ensures c.requires.forward in
    subst (λ (xs : List ℤ). Each1 (SFits w16) xs) (sym (ints_of_bits w16 (chunk c.args.at 8 c.args.forward.now) fits))
    fits

pub fractions-requires-2-clause-long : goal.fractions-requires-2-clause-long
fractions-requires-2-clause-long g c =
    ap length (ints_of_bits w16 (chunk c.args.at 8 c.args.forward.now)
    (group_fits w16 c.args.at 8 c.args.forward.now c.q15_fit.ensures c.requires.forward)) ∙
    length-chunk c.args.at 8 c.args.forward.now c.requires.forward

pub fractions-requires-2-clause-fit : goal.fractions-requires-2-clause-fit
fractions-requires-2-clause-fit g c =
    let fits = group_fits w16 c.args.at 8 c.args.forward.now c.q15_fit.ensures c.requires.forward in
    subst (λ (xs : List ℤ). Each1 (SFits w16) xs) (sym (ints_of_bits w16 (chunk c.args.at 8 c.args.forward.now) fits))
    fits

pub saturated_sums-requires-2-clause-fit_x : goal.saturated_sums-requires-2-clause-fit_x
saturated_sums-requires-2-clause-fit_x g c =
    let fits = c.fractions-2.ensures.fit in
    subst (λ (xs : List ℤ). Each1 (SFits w16) xs) (sym (ints_of_bits w16 c.fractions-2.result fits)) fits

pub returns-clause-forward : goal.returns-clause-forward
returns-clause-forward g c =
    let at = c.args.at in
    let gs = c.args.backward.now in
    let f8 = chunk at 8 c.args.forward.now in
    let fits_f = group_fits w16 at 8 c.args.forward.now c.q15_fit.ensures c.requires.forward in
    let before = before_chunk c.args.before at gs (c.requires.fit, c.requires.long) c.requires.backward
    c.q15_fit-2.ensures in
    let products = c.fractions.ensures.value ∙ (λ i. map
    (λ x. floor_shift (to_z-of_z w16 c.args.k c.ranges.k i *ℤ x) 15) (before i)) in
    ap (put_chunk at c.args.forward.now)
    (ints_of_bits w16 c.saturated_sums.result c.saturated_sums.ensures.fit
    ∙ c.saturated_sums.ensures.value
    ∙ (λ i. zip2 (λ a b. saturate 16 (a +ℤ b)) ((ints_of_bits w16 c.fractions.result c.fractions.ensures.fit ∙
    products) i) (ints_of_bits w16 f8 fits_f i))
    ∙ forward-is c.args.k f8 (sample c.args.before 7 ∷ chunk at 7 gs))

pub returns-clause-backward : goal.returns-clause-backward
returns-clause-backward g c =
    let at = c.args.at in
    let gs = c.args.backward.now in
    let f8 = chunk at 8 c.args.forward.now in
    let fits_f = group_fits w16 at 8 c.args.forward.now c.q15_fit.ensures c.requires.forward in
    let before = before_chunk c.args.before at gs (c.requires.fit, c.requires.long) c.requires.backward
    c.q15_fit-2.ensures in
    let products = c.fractions-2.ensures.value ∙ (λ i. map
    (λ x. floor_shift (to_z-of_z w16 c.args.k c.ranges.k i *ℤ x) 15) (ints_of_bits w16 f8 fits_f i)) in
    ap (put_chunk at c.args.backward.now)
    (ints_of_bits w16 c.saturated_sums-2.result c.saturated_sums-2.ensures.fit
    ∙ c.saturated_sums-2.ensures.value
    ∙ (λ i. zip2 (λ a b. saturate 16 (a +ℤ b)) ((ints_of_bits w16 c.fractions-2.result c.fractions-2.ensures.fit ∙
    products) i) (before i))
    ∙ backward-is c.args.k f8 (sample c.args.before 7 ∷ chunk at 7 gs))

pub returns-clause-value : goal.returns-clause-value
returns-clause-value g c =
    ints_of_bits w16 (chunk c.args.at 8 c.args.backward.now)
    (group_fits w16 c.args.at 8 c.args.backward.now c.q15_fit-2.ensures c.requires.backward)

pub returns-clause-fit : goal.returns-clause-fit
returns-clause-fit g c =
    let fits = group_fits w16 c.args.at 8 c.args.backward.now c.q15_fit-2.ensures c.requires.backward in
    subst (λ (xs : List ℤ). Each1 (SFits w16) xs)
    (sym (ints_of_bits w16 (chunk c.args.at 8 c.args.backward.now) fits)) fits
