use Rattle.std.proofs.Common.{◌∙◌, ap, sym, subst, map, pos}
use Rattle.std.specs.Prelude.{IfOk}
use Rattle.dsp_defs.specs.declared.script.Block.{Block}
use Rattle.dsp_defs.specs.declared.script.Block.TheVariants.{Fir, Sparse}
use Rattle.dsp_unit.specs.Filter.{IsNewFilter}
use Rattle.dsp_fir.specs.WindowState.{DelayState, channel_state}
use Rattle.dsp_fir.proofs.window_filter.WindowFilterFilter.of_block.Goals as goal

pub returns-in_ok-taps-in-Fir : goal.returns-in_ok-taps-in-Fir
returns-in_ok-taps-in-Fir g c =
    let T = g.T.Sample in
    let same = ap Fir (c.in_ok-taps-in-Fir.ensures ∙ c.as_slice.ensures) ∙ sym c.in-Fir.is in
    subst (λ (b : Block). IfOk c.of_taps.result (λ f. IsNewFilter b T.format c.args.capacity
    (channel_state T.format f))) same c.of_taps.ensures.fresh

pub returns-in_ok-delays-in-Sparse-2 : goal.returns-in_ok-delays-in-Sparse-2
returns-in_ok-delays-in-Sparse-2 g c =
    let T = g.T.Sample in
    let delays = ap (λ (d : DelayState). map pos d.delays) c.in_ok-delays-in-Sparse-2.ensures ∙
    c.in_ok-delays-in-Sparse.ensures ∙ c.as_slice-in-Sparse-2.ensures in
    let same = (λ i. Sparse ((c.in_ok-taps-in-Sparse.ensures ∙ c.as_slice-in-Sparse.ensures) i) (delays i)) ∙
    sym c.in-Sparse.is in
    subst (λ (b : Block). IfOk c.of_taps-in-Sparse.result
    (λ f. IsNewFilter b T.format c.args.capacity (channel_state T.format f))) same c.of_taps-in-Sparse.ensures.fresh
