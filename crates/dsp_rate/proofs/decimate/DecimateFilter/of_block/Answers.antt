use Rattle.std.proofs.Common.{◌≡◌, ◌∙◌, ap, sym, subst, map}
use Rattle.dsp_unit.specs.Filter.{IsNewFilter}
use Rattle.dsp_defs.specs.declared.script.Block.{Block}
use Rattle.dsp_defs.specs.declared.script.Block.TheVariants as Blocks
use Rattle.dsp_rate.specs.DecimateState.{DecimateState, decimate_channel}
use Rattle.dsp_rate.proofs.ChannelLemmas.{new-channel}
use Rattle.dsp_rate.proofs.decimate.DecimateFilter.of_block.Goals as goal

pub returns-in-Ok : goal.returns-in-Ok
returns-in-Ok g c =
    let T = g.T.Sample in
    let factor = c.in-Decimate.factor in
    let given = map T.number c.deref.result.now in
    let taps : given ≡ c.in-Decimate.taps = ap (map T.number) c.deref.ensures.value ∙ c.in_ok-taps.ensures ∙
    c.as_slice.ensures in
    subst (λ (b : Block). IsNewFilter b T.format c.args.capacity (decimate_channel T.format c.in-Ok.filter))
    (ap (Blocks.Decimate factor) taps ∙ sym c.in-Decimate.is)
    (subst (λ (d : DecimateState). IsNewFilter (Blocks.Decimate factor given) T.format c.args.capacity
    (decimate_channel T.format d)) (sym c.in-Ok.ensures.made)
    (new-channel T.format factor given c.args.capacity))
