use Rattle.std.proofs.Common.{ap, sym, length}
use Rattle.dsp_filter.proofs.each_channel.EachChannelUnit.measures.Goals as goal

pub returns : goal.returns
returns g c =
    rw (← c.self.view_is) (sym (ap length (c.self.invariant.0.by_channel.no_measures _ 0 _)))
