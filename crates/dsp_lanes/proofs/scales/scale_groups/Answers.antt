use Rattle.std.proofs.Common.{◌≡◌, ◌+◌, ◌*◌, ◌∙◌, ap, sym, length, map, arith, w32, ◌++◌}
use Rattle.std.proofs.lemmas.Int.{to_z-of_z}
use Rattle.std.proofs.lemmas.List.{length-map, map-append}
use Rattle.std.proofs.lemmas.Simd.{length-chunk}
use lib.Lanes.{chunk, put_chunk}
use Rattle.dsp_defs.specs.Elementwise.{scale}
use Rattle.dsp_lanes.proofs.Groups.{chunk-append, put_chunk-append}
use Rattle.dsp_lanes.proofs.scales.scale_groups.Goals as goal

pub returns : goal.returns
returns g c =
    let N = g.T.Sample.number in
    let n = g.row.L in
    let at = c.args.at in
    let f = scale g.T.Sample.format (N c.args.factor) c.args.places in
    let a = map N c.args.a.now in
    let out = map N c.args.out.now in
    let long_a = length-map c.args.a.now N in
    let long_out = length-map c.args.out.now N in
    let first = map f (chunk at n a) in
    let long : length first ≡ n = length-map (chunk at n a) f ∙ length-chunk at n a (omega arith) in
    let second = map f (chunk (at + n) n a) in
    let long_2 : length second ≡ n = length-map (chunk (at + n) n a) f ∙ length-chunk (at + n) n a (omega arith) in
    let both : 2 * n ≡ n + n = omega arith in
    let joined : map f (chunk at (2 * n) a) ≡ first ++ second = ap (λ k. map f (chunk at k a)) both ∙
    ap (map f) (chunk-append at n n a) ∙ map-append f (chunk at n a) (chunk (at + n) n a) in
    let same = to_z-of_z w32 c.args.places c.ranges.places in
    let g1 : map N c.scale_group.new.out ≡ put_chunk at out first = c.scale_group.ensures ∙
    (λ i. put_chunk at out (map (scale g.T.Sample.format (N c.args.factor) (same i)) (chunk at n a))) in
    c.scale_group-2.ensures
    ∙ (λ i. put_chunk (at + n) (g1 i) (map (scale g.T.Sample.format (N c.args.factor) (same i)) (chunk (at + n) n a)))
    ∙ ap (λ k. put_chunk (at + k) (put_chunk at out first) second) (sym long)
    ∙ sym (put_chunk-append at out first second (omega arith))
    ∙ ap (put_chunk at out) (sym joined)
