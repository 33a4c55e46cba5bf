use Rattle.std.proofs.Common.{◌≡◌, ◌∙◌, sym, ℕ, pos, length, map, arith}
use Rattle.std.proofs.lemmas.List.{length-map}
use Rattle.std.proofs.lemmas.List.FromFn.{length-map-range_with_len, get_or-map-range_with_len}
use Rattle.std.proofs.lemmas.Simd.{get_or-zip2, length-zip2}
use lib.Lanes.{zip2}
use Rattle.dsp_defs.specs.Adaptive.{weight_after}
use Rattle.dsp_defs.specs.Signal.{sample, values}
use Rattle.dsp_defs.proofs.SumLemmas.{same_numbers}
use Rattle.dsp_lanes.proofs.weights.update_weights.Goals as goal

pub returns-clause-weights : goal.returns-clause-weights
returns-clause-weights g c =
    let number = g.T.Sample.number in
    let weights = map number c.args.weights.now in
    let window = map number c.args.window.now in
    let next = weight_after g.T.Sample.format (number c.args.alpha) in
    let n = length c.args.weights.now in
    let long_weights : length weights ≡ n = length-map c.args.weights.now number in
    let long_window : length window ≡ n = length-map c.args.window.now number ∙ c.requires in
    let long : length (zip2 next weights window) ≡ n = length-zip2 next weights window
    (long_weights ∙ sym long_window) ∙ long_weights in
    let at = λ (j : ℕ). next (sample weights j) (sample window j) in
    c.update_each.ensures.slots
    ∙ same_numbers (zip2 next weights window) (values n at) (long ∙ sym (length-map-range_with_len at 0 n))
    (λ i h. get_or-zip2 next weights window i (pos 0) (pos 0) (pos 0) (omega (arith, h, long, long_weights))
    (omega (arith, h, long, long_window))
    ∙ sym (get_or-map-range_with_len at 0 n i i (pos 0) (omega (arith, h, long)) (omega arith)))
