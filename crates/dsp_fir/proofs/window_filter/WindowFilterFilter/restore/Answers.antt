use Rattle.std.proofs.Common.{subst}
use Rattle.dsp_fir.specs.Laws.{windowed}
use Rattle.dsp_fir.specs.WindowState.{WindowState, IsWindowBlock}
use Rattle.dsp_fir.proofs.ChannelLemmas.{channel-restored}
use Rattle.dsp_fir.proofs.window_filter.WindowFilterFilter.restore.Goals as goal

pub returns : goal.returns
returns g c =
    let T = g.T.Sample in
    let is = subst (λ (s : WindowState). IsWindowBlock T.format s.block) c.self.view_is
    (windowed T.format _ c.self.invariant.0) in
    channel-restored T.format c.args.self.now c.restore.new.self is c.args.numbers.now c.requires.running
    c.restore.ensures
