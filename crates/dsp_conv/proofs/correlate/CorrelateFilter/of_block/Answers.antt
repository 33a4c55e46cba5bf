use Rattle.std.proofs.Common.{◌≡◌, ◌∙◌, ap, sym, subst, length, map, arith}
use Rattle.std.proofs.lemmas.List.{length-map}
use Rattle.std.proofs.lemmas.Result.{IfOk-weaker}
use Rattle.dsp_defs.specs.declared.script.Block.{Block}
use Rattle.dsp_defs.specs.declared.script.Block.TheVariants as Blocks
use Rattle.dsp_unit.specs.Filter.{IsNewFilter}
use Rattle.dsp_conv.specs.CorrelateState.{CorrelateState, correlate_channel, new_correlate}
use Rattle.dsp_conv.specs.ByChannel.{taps_of}
use Rattle.dsp_conv.proofs.CorrelateFilters.{block-is, new-channel}
use Rattle.dsp_conv.proofs.correlate.CorrelateFilter.of_block.Goals as goal

pub of_taps-requires : goal.of_taps-requires
of_taps-requires g c =
    let number = g.T.Sample.number in
    let are = (block-is g.T.Sample.format c.args.block.now c.requires.block).1 in
    let taps : length c.deref.result.now ≡ length (taps_of c.args.block.now) =
    ap length c.deref.ensures.value ∙ sym (length-map c.in_ok-taps.taps.items number) ∙
    ap length (c.in_ok-taps.ensures ∙ c.taps_of.ensures) in
    record { some = omega (arith, taps, are.0); few = omega (arith, taps, are.1); block = c.requires.some }

pub returns : goal.returns
returns g c =
    let T = g.T.Sample in
    let capacity = c.args.capacity in
    let taps = map T.number c.deref.result.now in
    let given : taps ≡ taps_of c.args.block.now = ap (map T.number) c.deref.ensures.value ∙ c.in_ok-taps.ensures ∙
    c.taps_of.ensures in
    let is = ap Blocks.Correlate given ∙ (block-is T.format c.args.block.now c.requires.block).0 in
    IfOk-weaker c.of_taps.result _ _
    (λ f made. subst (λ (s : CorrelateState). IsNewFilter c.args.block.now T.format capacity
    (correlate_channel T.format s)) (sym made)
    (subst (λ (b : Block). IsNewFilter b T.format capacity
    (correlate_channel T.format (record (new_correlate taps) { block = capacity }))) is
    (new-channel T.format taps capacity)))
    c.of_taps.ensures
