use Rattle.std.proofs.Common.{◌^◌, ◌∙◌, ap, length, sym, w32, w64}
use Rattle.std.specs.Int.{int_wrap, saturate_to_bits}
use lib.Signed.{shr_z}
use Rattle.dsp_lanes.specs.Rows.{row}
use Rattle.dsp_lanes.proofs.PairSums.{narrow_wraps}
use Rattle.dsp_lanes.proofs.pair_samples.I16PairSample.closes.Goals as goal
use Rattle.std.proofs.lemmas.List.{map-id}

pub returns : goal.returns
returns c p =
    let taps = c.args._taps.now in
    let window = c.args.window.now in
    (λ i. saturate_to_bits 15 (shr_z (int_wrap w32 (row (map-id taps i) (map-id window i) (length taps) p))
    (2 ^ 15)))
    ∙ ap (λ z. saturate_to_bits 15 (shr_z z (2 ^ 15))) (narrow_wraps taps window p c.requires c.q15_fit.ensures)
    ∙ (λ i. saturate_to_bits 15 (shr_z (int_wrap w64 (row (sym (map-id taps) i) (sym (map-id window) i)
    (length taps) p)) (2 ^ 15)))
