use Rattle.std.proofs.Common.{ap, sym}
use Rattle.std.specs.List.{slice_get}
use Rattle.dsp_filter.proofs.each_channel.EachChannelUnit.measure.Goals as goal

pub returns : goal.returns
returns g c =
    rw (← c.self.view_is) (sym (ap (λ ms. slice_get ms c.args._index)
    (c.self.invariant.0.by_channel.no_measures _ c.args._number _)))
