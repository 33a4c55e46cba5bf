use Rattle.std.proofs.Common.{◌∙◌, ◌+◌, sym, take_all, arith}
use Rattle.dsp_defs.specs.Signal.{sample}
use Rattle.dsp_lanes.specs.Pairs.{repeated}
use Rattle.dsp_lanes.proofs.PairSums.{pairs_are}
use Rattle.dsp_lanes.proofs.matrix_rows.pair_products.Goals as goal
use Rattle.std.proofs.lemmas.List.{map-id}

pub returns : goal.returns
returns c =
    let rows = c.args.rows.now in
    let elements = c.args.elements in
    let j = c.args.j in
    pairs_are rows elements elements c.pair.result j 0 (omega (arith, c.requires.long))
    (sym (take_all 8 elements (omega (arith, c.requires.long))))
    (c.pair.ensures.values ∙ (λ i. repeated (sample (map-id rows i) j) (sample (map-id rows i) (j + 1))))
    c.requires.fit c.pair.ensures.fit
