use Rattle.std.proofs.Common.{◌≡◌, ◌∙◌, sym, subst, length}
use Rattle.dsp_window.proofs.Rolls.{length-last_samples}
use Rattle.dsp_fir.specs.Laws.{windowed}
use Rattle.dsp_fir.specs.WindowState.{WindowState, IsWindowBlock, past_count}
use Rattle.dsp_fir.proofs.ChannelLemmas.{fits-channel}
use Rattle.dsp_fir.proofs.window_filter.WindowFilter.fits_if_kept.Goals as goal

pub returns : goal.returns
returns g c =
    let T = g.T.Sample in
    let old = c.args.self.now in
    let is = subst (λ (s : WindowState). IsWindowBlock T.format s.block) c.self.view_is
    (windowed T.format _ c.self.invariant.0) in
    let fits = fits-channel T.format old.block is c.requires.0 c.args.numbers.now c.requires.1 in
    let window = c.self.inside.window in
    let long = length-last_samples window.past window.samples c.self.invariant.3 ∙ c.self.invariant.2 ∙
    c.self.invariant.1 in
    let size = subst (λ (s : WindowState). length s.past ≡ past_count s.block) c.self.view_is long in
    record { count = fits.0 ∙ sym size; samples = fits.1 }
