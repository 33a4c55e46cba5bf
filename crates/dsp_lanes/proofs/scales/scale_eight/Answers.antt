use Rattle.std.proofs.Common.{◌^◌, ◌≡◌, ◌∙◌, ap, length, map, arith, w32}
use Rattle.std.proofs.lemmas.Int.{ints, to_z-of_z}
use Rattle.std.proofs.lemmas.List.{length-map}
use Rattle.std.proofs.lemmas.Simd.{length-chunk}
use Rattle.std.specs.Prelude.{pos, ◌+ℤ◌, ◌*ℤ◌}
use lib.Lanes.{chunk, put_chunk}
use lib.Signed.{shr_z}
use mir.Val.{to_z}
use Rattle.dsp_defs.specs.Elementwise.{shift_in}
use Rattle.dsp_lanes.proofs.LaneOps.{bits_of, group_fits, ints_of_bits}
use Rattle.dsp_lanes.proofs.Moves.{scaled_are, next_is}
use Rattle.dsp_lanes.proofs.WordViews.{read_fit, read_long}
use Rattle.dsp_lanes.proofs.scales.scale_eight.Goals as goal

pub high_products-high-requires-clause-fit : goal.high_products-high-requires-clause-fit
high_products-high-requires-clause-fit c =
    let a = c.args.a.now in
    read_fit w32 (chunk c.args.at 8 a) (group_fits w32 c.args.at 8 a c.q31_fit.ensures c.requires.input)

pub high_products-high-requires-clause-long : goal.high_products-high-requires-clause-long
high_products-high-requires-clause-long c =
    read_long w32 8 (chunk c.args.at 8 c.args.a.now) (length-chunk c.args.at 8 c.args.a.now c.requires.input)

pub moved-requires : goal.moved-requires
moved-requires c =
    let next = next_is c.args.places c.ranges.places c.requires.places in
    let high = c.high_products-high.result in
    let xs = chunk c.args.at 8 c.args.a.now in
    let long : length (map (to_z w32) (bits_of w32 high)) ≡ 8 =
    read_long w32 8 high (ap length c.high_products-high.ensures.words ∙ length-map (map (to_z w32) (bits_of w32 xs)) _
    ∙ read_long w32 8 xs (length-chunk c.args.at 8 c.args.a.now c.requires.input)) in (
      omega arith,
      (
        (omega (arith, ints, next, c.requires.places), omega (arith, ints, next, c.requires.places)),
        (long, read_fit w32 high c.high_products-high.ensures.fit),
      ),
    )

pub returns : goal.returns
returns c =
    let s = c.args.places in
    let t = c.args.factor in
    let a = c.args.a.now in
    let xs = chunk c.args.at 8 a in
    let high = c.high_products-high.result in
    let fit = group_fits w32 c.args.at 8 a c.q31_fit.ensures c.requires.input in
    let next = next_is s c.ranges.places c.requires.places in
    ap (put_chunk c.args.at c.args.out.now) (scaled_are (s +ℤ pos 1) t xs high c.moved.result fit c.ranges.factor
    (c.high_products-high.ensures.words ∙ (λ i. map (λ x. shr_z (x *ℤ to_z-of_z w32 t c.ranges.factor i) (2 ^ 32))
    (ints_of_bits w32 xs fit i)))
    (c.moved.ensures ∙ (λ i. map (λ h. shift_in 32 h (next i))
    (ints_of_bits w32 high c.high_products-high.ensures.fit i))))
