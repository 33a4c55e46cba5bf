use Rattle.std.proofs.Common.{◌∙◌, ◌∷◌, ap, refl, sym, map, take, arith, w16}
use lib.Lanes.{zip2}
use mir.Val.{to_z}
use Rattle.dsp_defs.specs.Signal.{sample}
use Rattle.dsp_lanes.proofs.LaneOps.{ints_of_bits}
use Rattle.dsp_sections.proofs.LadderLanes.{lanes_fit, guessed_eight, guess_of_eight}
use Rattle.dsp_sections.proofs.LadderSections.{lower, found-right}
use Rattle.dsp_sections.proofs.ladder_lanes.I16LadderLanes.guess.Goals as goal

pub behind-requires-clause-fit_front : goal.behind-requires-clause-fit_front
behind-requires-clause-fit_front c = lanes_fit w16 8 _ c.args.front refl c.requires.fit_front

pub behind-requires-clause-fit_values : goal.behind-requires-clause-fit_values
behind-requires-clause-fit_values c = guess_of_eight w16 c.args.front c.args.products c.requires.fit_products.1

pub lowered-next-requires-clause-fit_products : goal.lowered-next-requires-clause-fit_products
lowered-next-requires-clause-fit_products c = lanes_fit w16 8 _ c.args.products refl c.requires.fit_products

pub are_same-requires-clause-long_b : goal.are_same-requires-clause-long_b
are_same-requires-clause-long_b c = (guess_of_eight w16 c.args.front c.args.products c.requires.fit_products.1).1

pub are_same-requires-clause-fit_a : goal.are_same-requires-clause-fit_a
are_same-requires-clause-fit_a c = (lanes_fit w16 8 _ c.lowered-next.result refl c.lowered-next.ensures.fit).0

pub are_same-requires-clause-fit_b : goal.are_same-requires-clause-fit_b
are_same-requires-clause-fit_b c = (guess_of_eight w16 c.args.front c.args.products c.requires.fit_products.1).0

pub returns-clause-fit : goal.returns-clause-fit
returns-clause-fit c = guess_of_eight w16 c.args.front c.args.products c.requires.fit_products.1

pub returns-clause-right : goal.returns-clause-right
returns-clause-right c h =
    let vs = map (to_z w16) (guessed_eight w16 c.args.front c.args.products) in
    let ps = c.args.products in
    let f = sample c.args.front 7 in
    let front = ints_of_bits w16 c.args.front c.requires.fit_front.0 in
    let given = ints_of_bits w16 c.behind.result c.behind.ensures.fit.0 ∙ c.behind.ensures.value ∙
    ap (λ fs. sample fs 7 ∷ take 7 vs) front in
    let next = c.lowered-next.ensures.value ∙ (λ i. zip2 (lower 16) (given i)
    (ints_of_bits w16 ps c.requires.fit_products.0 i)) in
    let stays = sym (ints_of_bits w16 c.lowered-next.result c.lowered-next.ensures.fit.0) ∙ c.are_same.ensures h in
    found-right 16 f ps 8 (omega arith) c.requires.fit_products.1 vs
    (guess_of_eight w16 c.args.front ps c.requires.fit_products.1).1 (sym stays ∙ next)
