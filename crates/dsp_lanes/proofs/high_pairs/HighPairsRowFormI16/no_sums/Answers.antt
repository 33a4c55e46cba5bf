use Rattle.dsp_lanes.specs.Pairs.{in_turn}
use Rattle.dsp_lanes.proofs.HighSums.{none_yet}
use Rattle.dsp_lanes.proofs.high_pairs.HighPairsRowFormI16.no_sums.Goals as goal

pub returns-clause-sums : goal.returns-clause-sums
returns-clause-sums c =
    let even = none_yet c.no_high_sums.result.low c.no_high_sums.result.high c.no_high_sums.ensures.low
    c.no_high_sums.ensures.high in
    let odd = none_yet c.no_high_sums-2.result.low c.no_high_sums-2.result.high c.no_high_sums-2.ensures.low
    c.no_high_sums-2.ensures.high in
    (λ i. in_turn (even.1 i) (odd.1 i))

pub returns-clause-fit : goal.returns-clause-fit
returns-clause-fit c =
    let even = none_yet c.no_high_sums.result.low c.no_high_sums.result.high c.no_high_sums.ensures.low
    c.no_high_sums.ensures.high in
    let odd = none_yet c.no_high_sums-2.result.low c.no_high_sums-2.result.high c.no_high_sums-2.ensures.low
    c.no_high_sums-2.ensures.high in
    (even.0, odd.0)
