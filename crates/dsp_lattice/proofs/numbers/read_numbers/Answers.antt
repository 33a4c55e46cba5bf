use Rattle.std.proofs.Common.{◌≢◌, ◌∙◌, ◌<◌, ℤ, pos, length, arith, map, below_more, SFits, FitsSigned}
use Rattle.std.specs.Int.{w32, w64}
use Rattle.std.proofs.lemmas.Int.{to_z-of_z}
use Rattle.std.proofs.lemmas.List.{length-map}
use Rattle.std.proofs.lemmas.List.Elements.{All-get_or}
use Rattle.dsp_defs.specs.Formats.{word}
use Rattle.dsp_defs.specs.Signal.{sample}
use Rattle.dsp_defs.proofs.SumLemmas.{sample-map-set_other, sample-map-set_same}
use Rattle.dsp_defs.proofs.SumLemmas.{same_numbers}
use Rattle.dsp_lattice.proofs.numbers.read_numbers.Goals as goal
use Rattle.dsp_sat.proofs.WideProducts.{word-in-32}

pub loop-k-preserved : goal.loop-k-preserved
loop-k-preserved g c =
    let T = g.T.Sample in
    let k = c.loop-k.k in
    let window = c.loop-k.samples in
    let numbers = c.args.numbers.now in
    let given = c.of_number.ensures in
    let below : k < length numbers = omega arith in
    let within : k < length window = omega arith in
    let fits : SFits w32 (sample numbers k) =
    word-in-32 T.format (sample numbers k) (All-get_or (FitsSigned (word T.format)) numbers k (pos 0) below
    c.requires.samples) in
    let wide : SFits w64 (sample numbers k) = record { sfits = omega (arith, fits.sfits) } in
    below_more _ k
    (λ i before.
    let other : i ≢ k = omega arith in
    sample-map-set_other T.number window k i c.of_number.result other ∙ c.loop-k.invariant i before)
    (sample-map-set_same T.number window k c.of_number.result within ∙ given ∙ simp to_z-of_z)

pub returns : goal.returns
returns g c =
    let number = g.T.Sample.number in
    let samples = c.loop-k.samples in
    let numbers = c.args.numbers.now in
    same_numbers (map number samples) numbers (omega (arith, length-map samples number))
    (λ i within. c.loop-k.invariant i (omega (arith, within, length-map samples number)))
