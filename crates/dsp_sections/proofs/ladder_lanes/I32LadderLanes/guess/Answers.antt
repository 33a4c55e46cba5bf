use Rattle.std.proofs.Common.{◌∙◌, ◌∷◌, ap, refl, sym, map, take, pos, w32}
use lib.Lanes.{zip2}
use lib.Signed.{lt_z}
use mir.Val.{to_z}
use Rattle.dsp_defs.specs.Signal.{sample}
use Rattle.dsp_lanes.proofs.LaneOps.{ints_of_bits}
use Rattle.dsp_lanes.proofs.LaneSums.{lanes_read}
use Rattle.dsp_sections.proofs.LadderLanes.{lanes_fit}
use Rattle.dsp_sections.proofs.LadderWords.{guessed_four, guessed_are, guess_right}
use Rattle.dsp_sections.proofs.ladder_lanes.I32LadderLanes.guess.Goals as goal

pub behind-requires-clause-fit_front : goal.behind-requires-clause-fit_front
behind-requires-clause-fit_front c = lanes_fit w32 4 _ c.args.front refl c.requires.fit_front

pub behind-requires-clause-fit_values : goal.behind-requires-clause-fit_values
behind-requires-clause-fit_values c =
    let made = guessed_are c.args.front c.args.products c.requires.fit_front c.requires.fit_products in
    lanes_fit w32 4 _ _ made.0 made.1

pub returns-clause-fit : goal.returns-clause-fit
returns-clause-fit c =
    let made = guessed_are c.args.front c.args.products c.requires.fit_front c.requires.fit_products in
    lanes_fit w32 4 _ _ made.0 made.1

pub stay_in_words-requires-clause-long_differences : goal.stay_in_words-requires-clause-long_differences
stay_in_words-requires-clause-long_differences c =
    let made = guessed_are c.args.front c.args.products c.requires.fit_front c.requires.fit_products in
    (lanes_fit w32 4 _ _ made.0 made.1).1

pub stay_in_words-requires-clause-fit_taken : goal.stay_in_words-requires-clause-fit_taken
stay_in_words-requires-clause-fit_taken c = (lanes_fit w32 4 _ c.args.products refl c.requires.fit_products).0

pub returns-clause-right : goal.returns-clause-right
returns-clause-right c h =
    let made = guessed_are c.args.front c.args.products c.requires.fit_front c.requires.fit_products in
    let vs = map (to_z w32) (guessed_four c.args.front c.args.products) in
    let front = ints_of_bits w32 c.args.front c.requires.fit_front.0 in
    guess_right c.args.front c.args.products vs c.behind.result c.requires.fit_front c.requires.fit_products
    (lanes_read w32 _ _ made.0 made.1.0).0
    (c.behind.ensures.value ∙ ap (λ fs. sample fs 3 ∷ take 3 vs) front)
    (ap (zip2 lt_z vs) (sym (ints_of_bits w32 c.behind.result c.behind.ensures.fit.0)) ∙ c.stay_in_words.ensures h ∙
    ap (map (lt_z (pos 0))) (ints_of_bits w32 c.args.products c.requires.fit_products.0))
