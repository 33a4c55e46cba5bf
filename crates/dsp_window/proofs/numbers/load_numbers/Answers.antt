use Rattle.std.proofs.Common.{◌≡◌, ◌≢◌, ◌∙◌, ap, sym, ◌<◌, ◌≤◌, ℤ, pos, length, arith, map, take, below_more, SFits}
use Rattle.std.proofs.Common.{FitsSigned, length-take}
use Rattle.std.specs.Int.{w32, w64}
use Rattle.std.proofs.lemmas.Int.{to_z-of_z}
use Rattle.std.proofs.lemmas.List.{length-map, take-map, get_or-take}
use Rattle.std.proofs.lemmas.List.Elements.{All-get_or}
use Rattle.dsp_defs.specs.Formats.{word}
use Rattle.dsp_defs.specs.Signal.{sample}
use Rattle.dsp_defs.proofs.SumLemmas.{sample-map-set_other, sample-map-set_same}
use Rattle.dsp_defs.proofs.SumLemmas.{same_numbers}
use Rattle.dsp_window.proofs.numbers.load_numbers.Goals as goal
use Rattle.dsp_sat.proofs.WideProducts.{word-in-32}

pub loop-k-preserved : goal.loop-k-preserved
loop-k-preserved g c =
    let T = g.T.Sample in
    let k = c.loop-k.k in
    let window = c.loop-k.samples in
    let numbers = c.args.numbers.now in
    let given = c.of_number.ensures in
    let below : k < length numbers = omega arith in
    let within : k < length window = omega arith in
    let fits : SFits w32 (sample numbers k) =
    word-in-32 T.format (sample numbers k) (All-get_or (FitsSigned (word T.format)) numbers k (pos 0) below
    c.requires.samples) in
    let wide : SFits w64 (sample numbers k) = record { sfits = omega (arith, fits.sfits) } in
    below_more _ k
    (λ i before.
    let other : i ≢ k = omega arith in
    sample-map-set_other T.number window k i c.of_number.result other ∙ c.loop-k.invariant i before)
    (sample-map-set_same T.number window k c.of_number.result within ∙ given ∙ simp to_z-of_z)

pub returns : goal.returns
returns g c =
    let number = g.T.Sample.number in
    let window = c.loop-k.samples in
    let numbers = c.args.numbers.now in
    let count = length numbers in
    let room : count ≤ length window = omega arith in
    let len : length (map number (take count window)) ≡ count =
    length-map (take count window) number ∙ (omega (arith, length-take count window)) in
    same_numbers (map number (take count window)) numbers len
    (λ i within.
    let below : i < count = omega arith in
    ap (λ l. sample l i) (sym (take-map number count window))
    ∙ get_or-take count (map number window) i (pos 0) below
    ∙ c.loop-k.invariant i (omega arith))
