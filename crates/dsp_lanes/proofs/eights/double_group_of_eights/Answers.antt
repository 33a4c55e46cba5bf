use Rattle.std.proofs.Common.{◌≡◌, ◌+◌, ◌*◌, ◌∙◌, ap, arith, length, map}
use lib.Lanes.{put_chunk}
use Rattle.dsp_defs.specs.Formats.{close}
use Rattle.dsp_defs.specs.Signal.{values}
use Rattle.dsp_lanes.specs.Rows.{row}
use Rattle.dsp_lanes.proofs.eights.double_group_of_eights.Goals as goal

pub returns-then-this-eq8-clause-out : goal.returns-then-this-eq8-clause-out
returns-then-this-eq8-clause-out g c =
    let number = g.T.Sample.number in
    let taps = map number c.args.taps.now in
    let window = map number c.args.window.now in
    let n = g.F.RowForm.size in
    let eight = c.requires.eight in
    let whole : n + n ≡ 2 * g.row.L = omega (arith, eight) in
    c.row_group-then-this-eq8.ensures.out
    ∙ ap (λ n. put_chunk c.args.at (map number c.args.out.now)
    (values n (λ i. close g.T.Sample.format (row taps window (length c.args.taps.now) (c.args.at + i))))) whole

pub returns-then-this-eq16-clause-out : goal.returns-then-this-eq16-clause-out
returns-then-this-eq16-clause-out g c =
    let number = g.T.Sample.number in
    let taps = map number c.args.taps.now in
    let window = map number c.args.window.now in
    let n = g.F.RowForm.size in
    let eight = c.requires.eight in
    let whole : (n + n) + (n + n) ≡ 2 * g.row.L = omega (arith, eight) in
    c.row_group-then-this-eq16.ensures.out
    ∙ ap (λ n. put_chunk c.args.at (map number c.args.out.now)
    (values n (λ i. close g.T.Sample.format (row taps window (length c.args.taps.now) (c.args.at + i))))) whole
