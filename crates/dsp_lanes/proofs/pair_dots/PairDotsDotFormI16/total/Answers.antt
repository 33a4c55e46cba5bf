use Rattle.std.proofs.Common.{◌∙◌, ◌+◌, ◌%◌, ◌^◌, ◌+ℤ◌, ap, arith, pos, w64}
use Rattle.std.proofs.lemmas.Int.{ints, SFits-int_wrap, int_wrap-add_left, wrapping_add_is}
use Rattle.std.specs.Int.{int_wrap}
use lib.IntN.{+ℤ_idl}
use mir.Val.{to_z, of_z}
use Rattle.dsp_lanes.specs.Regrouped.{list_sum}
use Rattle.dsp_lanes.proofs.LaneSums.{reduces}
use Rattle.dsp_lanes.proofs.pair_dots.PairDotsDotFormI16.total.Goals as goal

pub returns : goal.returns
returns c =
    let less = c.args.sums.less in
    let count = c.args.sums.pairs in
    let fit = c.requires in
    let all = pos 0 +ℤ list_sum less in
    ap (λ n. to_z w64 ((n + of_z w64 count) % 2 ^ 64)) (reduces w64 (pos 0) less (omega (arith, ints)) fit.0)
    ∙ wrapping_add_is w64 (int_wrap w64 all) count (SFits-int_wrap w64 all) fit.2
    ∙ int_wrap-add_left w64 all count
    ∙ ap (λ z. int_wrap w64 (z +ℤ count)) (+ℤ_idl (list_sum less))
