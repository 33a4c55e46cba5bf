use Rattle.std.proofs.Common.{◌≡◌, ◌∙◌, ap, sym, arith, length, map, ◌+ℤ◌, ◌*ℤ◌}
use Rattle.std.proofs.lemmas.List.{length-map}
use Rattle.std.proofs.lemmas.Simd.{length-chunk, length-zip2}
use Rattle.std.specs.Int.{int_wrap}
use lib.Lanes.{zip2, chunk}
use Rattle.dsp_defs.specs.Formats.{accumulator}
use Rattle.dsp_lanes.specs.Regrouped.{list_sum}
use Rattle.dsp_lanes.proofs.LaneRows.{list_sum-wraps, products-chunk}
use Rattle.dsp_lanes.proofs.plain.PlainDotForm.add_products.Goals as goal

pub returns-clause-sums : goal.returns-clause-sums
returns-clause-sums g c =
    let T = g.T.Sample in
    let at = c.args.at in
    let n = g.row.L in
    let w = accumulator T.format in
    let taps = map T.number c.args.taps.now in
    let window = map T.number c.args.window.now in
    let lanes = g.T.LaneKernels.lanes c.args.sums in
    let long_t = length-map c.args.taps.now T.number in
    let long_w = length-map c.args.window.now T.number in
    let part_t : length (chunk at n taps) ≡ n = length-chunk at n taps (omega arith) in
    let part_w : length (chunk at n window) ≡ n = length-chunk at n window (omega arith) in
    let ps = zip2 (λ t x. t *ℤ x) (chunk at n taps) (chunk at n window) in
    let long : length ps ≡ n = length-zip2 (λ t x. t *ℤ x) (chunk at n taps) (chunk at n window) (omega arith) ∙
    part_t in
    ap (λ l. int_wrap w (list_sum l)) c.add_products.ensures.sums
    ∙ list_sum-wraps w lanes ps (c.requires.fit.1 ∙ sym long)
    ∙ ap (λ z. int_wrap w (list_sum lanes +ℤ z)) (products-chunk at n taps window (omega arith) (omega arith))

pub returns-clause-fit : goal.returns-clause-fit
returns-clause-fit g c =
    let T = g.T.Sample in
    let at = c.args.at in
    let n = g.row.L in
    let w = accumulator T.format in
    let taps = map T.number c.args.taps.now in
    let window = map T.number c.args.window.now in
    let lanes = g.T.LaneKernels.lanes c.args.sums in
    let long_t = length-map c.args.taps.now T.number in
    let long_w = length-map c.args.window.now T.number in
    let part_t : length (chunk at n taps) ≡ n = length-chunk at n taps (omega arith) in
    let part_w : length (chunk at n window) ≡ n = length-chunk at n window (omega arith) in
    let ps = zip2 (λ t x. t *ℤ x) (chunk at n taps) (chunk at n window) in
    let long : length ps ≡ n = length-zip2 (λ t x. t *ℤ x) (chunk at n taps) (chunk at n window) (omega arith) ∙
    part_t in
    let same = c.requires.fit.1 in (
      c.add_products.ensures.fit,
      ap length c.add_products.ensures.sums ∙
          length-zip2 (λ s p. int_wrap w (s +ℤ p)) lanes ps (omega (arith, same, long)) ∙ same,
    )
