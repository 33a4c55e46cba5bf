use Rattle.std.proofs.Common.{length}
use Rattle.dsp_rate.proofs.ChannelLemmas.{room-enough}
use Rattle.dsp_rate.proofs.decimate.Decimate.has_room.Goals as goal

pub returns : goal.returns
returns g c =
    let d = c.args.self.now in
    room-enough (length c.args.input.now) d.block d.factor (length c.args.output.now) c.requires.block c.requires.room
