use Rattle.std.proofs.Common.{arith}
use Rattle.dsp_fir.specs.Laws.{windowed}
use Rattle.dsp_fir.proofs.window_filter.WindowFilterFilter.kept_count.Goals as goal

pub returns-clause-few : goal.returns-clause-few
returns-clause-few g c =
    let few = (windowed g.T.Sample.format _ c.self.invariant.0).few in
    omega (arith, few, c.self.invariant.1)
