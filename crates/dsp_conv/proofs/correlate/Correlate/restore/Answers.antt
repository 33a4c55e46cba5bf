use Rattle.std.proofs.Common.{length}
use Rattle.dsp_defs.specs.Formats.{word}
use Rattle.dsp_unit.proofs.ChannelKept.{fit-words}
use Rattle.dsp_conv.proofs.correlate.Correlate.restore.Goals as goal

pub restore-requires-clause-samples : goal.restore-requires-clause-samples
restore-requires-clause-samples g c = fit-words (word g.T.Sample.format) (length c.args.numbers.now)
    c.args.numbers.now c.requires.samples
