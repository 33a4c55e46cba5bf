use Rattle.std.proofs.Common.{◌≡◌, ◌∙◌, ap, rules, arith, ℤ, ◌+ℤ◌, SFits, to_z, of_z}
use Rattle.std.specs.Int.{w64}
use Rattle.std.proofs.lemmas.Int.{ints, to_z-of_z, int_wrap-add_left}
use Rattle.dsp_defs.specs.Numbers.{wrap}
use Rattle.dsp_biquad.proofs.closing.wrapped_five.Goals as goal

-- wrapping on the way changes nothing
wrapped-way : (first second third fourth fifth past total : ℤ) → SFits w64 first → SFits w64 second →
    SFits w64 third → SFits w64 fourth → SFits w64 fifth → SFits w64 past → SFits w64 total →
    past ≡ wrap w64 (to_z w64 (of_z w64 second) +ℤ to_z w64 (of_z w64 third) +ℤ to_z w64 (of_z w64 fifth)) →
    total ≡ wrap w64 (to_z w64 (of_z w64 first) +ℤ to_z w64 (of_z w64 past) +ℤ to_z w64 (of_z w64 fourth)) →
    to_z w64 (of_z w64 total) ≡ wrap w64 (first +ℤ second +ℤ third +ℤ (fourth +ℤ fifth))
wrapped-way first second third fourth fifth past total f1 f2 f3 f4 f5 f6 f7 inner whole =
    let outer : to_z w64 (of_z w64 first) +ℤ to_z w64 (of_z w64 past) +ℤ to_z w64 (of_z w64 fourth) ≡ past +ℤ
    (first +ℤ fourth) = omega (arith, ints) in
    let sum : to_z w64 (of_z w64 second) +ℤ to_z w64 (of_z w64 third) +ℤ to_z w64 (of_z w64 fifth) ≡ second +ℤ third
    +ℤ fifth = omega (arith, ints) in
    let order : second +ℤ third +ℤ fifth +ℤ (first +ℤ fourth) ≡ first +ℤ second +ℤ third +ℤ (fourth +ℤ fifth) =
    omega (arith, ints) in
    to_z-of_z w64 total f7 ∙ whole ∙ ap (wrap w64) outer ∙
    ap (λ v. wrap w64 (v +ℤ (first +ℤ fourth))) (inner ∙ ap (wrap w64) sum)
    ∙ int_wrap-add_left w64 (second +ℤ third +ℤ fifth) (first +ℤ fourth) ∙ ap (wrap w64) order

pub returns-clause-paired : goal.returns-clause-paired
returns-clause-paired c =
    wrapped-way c.args.first c.args.second c.args.third c.args.fourth c.args.fifth c.wrapped_sum-past.result
    c.wrapped_sum.result c.ranges.first c.ranges.second c.ranges.third c.ranges.fourth c.ranges.fifth (search rules)
    (search rules)
    c.wrapped_sum-past.ensures c.wrapped_sum.ensures

pub returns-clause-in_turn : goal.returns-clause-in_turn
returns-clause-in_turn c =
    let paired : c.args.first +ℤ c.args.second +ℤ c.args.third +ℤ (c.args.fourth +ℤ c.args.fifth) ≡ c.args.first +ℤ
    c.args.second +ℤ c.args.third +ℤ c.args.fourth +ℤ c.args.fifth = omega (arith, ints) in
    wrapped-way c.args.first c.args.second c.args.third c.args.fourth c.args.fifth c.wrapped_sum-past.result
    c.wrapped_sum.result c.ranges.first c.ranges.second c.ranges.third c.ranges.fourth c.ranges.fifth (search rules)
    (search rules)
    c.wrapped_sum-past.ensures c.wrapped_sum.ensures
    ∙ ap (wrap w64) paired
