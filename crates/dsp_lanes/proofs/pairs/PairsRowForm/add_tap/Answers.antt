use Rattle.std.proofs.Common.{◌≡◌, ◌+◌, ◌≤◌, ◌∙◌, arith, length, map, w32}
use Rattle.std.proofs.lemmas.List.{length-map}
use mir.Val.{SFits}
use Rattle.dsp_defs.specs.Signal.{sample}
use Rattle.dsp_defs.proofs.SumLemmas.{sample-map}
use Rattle.dsp_lanes.proofs.PairSums.{tap_added, tap_fits}
use Rattle.dsp_lanes.proofs.pairs.PairsRowForm.add_tap.Goals as goal

pub returns-clause-sums : goal.returns-clause-sums
returns-clause-sums g c =
    let number = g.T.Sample.number in
    let window = map number c.args.window.now in
    let fit = c.requires.fit in
    let t = c.number.result in
    let tap = sample (map number c.args.taps.now) c.args.j in
    let is : t ≡ tap = c.number.ensures.value ∙ sample-map number c.args.taps.now c.args.j c.index-taps-j.result
    c.requires.tap c.index-taps-j.is in
    let long_w = length-map c.args.window.now number in
    let room : c.args.at + 8 ≤ length window = omega (arith, long_w) in
    let fit_t : SFits w32 t = record { sfits = c.number.type_inv } in
    tap_added c.args.at c.args.sums.even c.args.sums.odd c.eight.result window t tap c.eight.ensures.values is room
    fit.2 fit.3 fit.0 fit.1 c.eight.ensures.fit fit_t

pub returns-clause-fit : goal.returns-clause-fit
returns-clause-fit g c =
    let window = map g.T.Sample.number c.args.window.now in
    let fit = c.requires.fit in
    let long_w = length-map c.args.window.now g.T.Sample.number in
    let room : c.args.at + 8 ≤ length window = omega (arith, long_w) in
    let fit_t : SFits w32 c.number.result = record { sfits = c.number.type_inv } in
    tap_fits c.args.at c.args.sums.even c.args.sums.odd c.eight.result window c.number.result c.eight.ensures.values
    room fit.2 fit.3 fit.0 fit.1 c.eight.ensures.fit fit_t
