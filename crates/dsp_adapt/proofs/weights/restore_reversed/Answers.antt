use Rattle.std.proofs.Common.{◌≡◌, ◌-◌, ◌∙◌, ap, refl, sym, pos, length, map, take, arith, SFits, FitsSigned, take_all}
use Rattle.std.proofs.lemmas.List.{length-map, map-set}
use Rattle.std.proofs.lemmas.List.Elements.{All-get_or}
use Rattle.dsp_defs.specs.Formats.{word}
use Rattle.dsp_defs.specs.Signal.{sample, values}
use Rattle.dsp_lanes.proofs.LaneRows.{rows-one}
use Rattle.dsp_filter.proofs.Slices.{narrow-word}
use Rattle.dsp_adapt.proofs.LmsSteps.{reversed-is}
use Rattle.dsp_adapt.proofs.weights.restore_reversed.Goals as goal

pub loop-k-preserved : goal.loop-k-preserved
loop-k-preserved g c =
    let T = g.T.Sample in
    let k = c.loop-k.k in
    let weights = c.loop-k.weights in
    let numbers = c.args.numbers.now in
    let place = length numbers - 1 - k in
    let long = length-map weights T.number in
    let fits : SFits (word T.format) (sample numbers place) =
    All-get_or (FitsSigned (word T.format)) numbers place (pos 0) (omega arith) c.requires.samples in
    ap (take _) (map-set T.number weights k c.of_number.result)
    ∙ rows-one (λ j. sample numbers (length numbers - 1 - j)) k _ (map T.number weights) (T.number c.of_number.result)
    refl (omega arith) c.loop-k.invariant
    (c.of_number.ensures ∙ narrow-word T.format (sample numbers place) fits)

pub returns : goal.returns
returns g c =
    let number = g.T.Sample.number in
    let weights = c.loop-k.weights in
    let numbers = c.args.numbers.now in
    let long : length (map number weights) ≡ length numbers =
    omega (arith, length-map weights number, c.requires.same) in
    let all : c.loop-k.k ≡ length numbers = omega arith in
    sym (take_all (length numbers) (map number weights) (omega (arith, long)))
    ∙ ap (λ n. take n (map number weights)) (sym all)
    ∙ c.loop-k.invariant
    ∙ ap (λ n. values n (λ k. sample numbers (length numbers - 1 - k))) all
    ∙ reversed-is numbers
