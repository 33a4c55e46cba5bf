use Rattle.std.proofs.Common.{◌*◌, arith, length, map}
use Rattle.std.proofs.lemmas.List.{length-map}
use Rattle.dsp_defs.specs.Formats.{close}
use Rattle.dsp_lanes.specs.Rows.{row}
use Rattle.dsp_lanes.proofs.LaneRows.{rows-double}
use Rattle.dsp_lanes.proofs.kernels.FilterKernels.quad_group.Goals as goal

pub returns-clause-out : goal.returns-clause-out
returns-clause-out g c =
    let T = g.Self.Sample in
    let taps = map T.number c.args.taps.now in
    let window = map T.number c.args.window.now in
    let out = map T.number c.args.out.now in
    let n = g.row.L in
    let long = length-map c.args.out.now T.number in
    rows-double (λ i. close T.format (row taps window (length c.args.taps.now) i)) c.args.at (2 * n) (4 * n) out _ _
    (omega arith) (omega (arith, c.requires.room, long)) c.double_group.ensures.out c.double_group-2.ensures.out
