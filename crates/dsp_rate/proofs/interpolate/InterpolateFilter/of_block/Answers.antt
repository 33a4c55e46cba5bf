use Rattle.std.proofs.Common.{◌≡◌, ◌∙◌, ap, sym, subst, map}
use Rattle.dsp_unit.specs.Filter.{IsNewFilter}
use Rattle.dsp_defs.specs.declared.script.Block.{Block}
use Rattle.dsp_defs.specs.declared.script.Block.TheVariants as Blocks
use Rattle.dsp_rate.specs.InterpolateState.{InterpolateState, interpolate_channel}
use Rattle.dsp_rate.proofs.InterpolateFilters.{new-interpolate}
use Rattle.dsp_rate.proofs.interpolate.InterpolateFilter.of_block.Goals as goal

pub returns-in-Ok : goal.returns-in-Ok
returns-in-Ok g c =
    let T = g.T.Sample in
    let factor = c.in-Interpolate.factor in
    let given = map T.number c.deref.result.now in
    let taps : given ≡ c.in-Interpolate.taps = ap (map T.number) c.deref.ensures.value ∙ c.in_ok-taps.ensures ∙
    c.as_slice.ensures in
    subst (λ (b : Block). IsNewFilter b T.format c.args.capacity (interpolate_channel T.format c.in-Ok.filter))
    (ap (Blocks.Interpolate factor) taps ∙ sym c.in-Interpolate.is)
    (subst (λ (f : InterpolateState). IsNewFilter (Blocks.Interpolate factor given) T.format c.args.capacity
    (interpolate_channel T.format f)) (sym c.in-Ok.ensures.made)
    (new-interpolate T.format factor given c.args.capacity))
