use Rattle.std.proofs.Common.{map, length}
use Rattle.dsp_defs.proofs.FormatLemmas.{close-wrap}
use Rattle.dsp_lanes.specs.Rows.{row}
use Rattle.dsp_lanes.proofs.plain.PlainRowForm.closes.Goals as goal

pub returns : goal.returns
returns g c p =
    let number = g.T.Sample.number in
    close-wrap g.T.Sample.format (row (map number c.args._taps.now) (map number c.args._window.now)
    (length c.args._taps.now) p)
