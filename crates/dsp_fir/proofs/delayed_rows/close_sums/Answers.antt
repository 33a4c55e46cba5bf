use Rattle.std.proofs.Common.{◌∙◌, ap, refl, map, take, pos, arith, w32}
use Rattle.std.proofs.lemmas.Int.{to_z-of_z}
use Rattle.std.proofs.lemmas.List.{length-map, map-set}
use Rattle.dsp_defs.specs.Signal.{sample}
use Rattle.dsp_defs.specs.Sums.{sparse_close}
use Rattle.dsp_lanes.proofs.LaneRows.{rows-one}
use Rattle.dsp_fir.proofs.delayed_rows.close_sums.Goals as goal

pub loop-i-preserved : goal.loop-i-preserved
loop-i-preserved g c =
    let T = g.T.Sample in
    let i = c.loop-i.i in
    let out = c.loop-i.out in
    let sums = c.args.sums.now in
    let long = length-map out T.number in
    ap (take _) (map-set T.number out i c.sparse_close.result)
    ∙ rows-one (λ k. sparse_close T.format (sample sums k)) i _ (map T.number out)
    (T.number c.sparse_close.result) refl (omega arith) c.loop-i.invariant
    (c.sparse_close.ensures
    ∙ ap (sparse_close T.format) (to_z-of_z w32 (sample sums i) (c.q31_fit.ensures i (pos 0) (omega arith))))
