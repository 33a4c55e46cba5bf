use Rattle.std.proofs.Common.{◌∙◌, ◌-◌, ap, map, length}
use Rattle.std.proofs.lemmas.List.{length-map}
use Rattle.dsp_defs.specs.declared.script.Block.TheVariants.{Fir}
use Rattle.dsp_fir.specs.WindowState.{new_filter}
use Rattle.dsp_fir.proofs.fir.WindowFilter+T+L+Dense.new.Goals as goal

pub returns-clause-made : goal.returns-clause-made
returns-clause-made g c =
    let number = g.T.Sample.number in
    let taps = c.args.taps.now in
    let items = ap (map number) c.in-Ok.ensures.items in
    c.in-Ok-of_taps.ensures.made
    ∙ (λ i. new_filter (Fir (items i)) (length (items i) - 1) c.args.block)
    ∙ ap (λ n. new_filter (Fir (map number taps)) (n - 1) c.args.block) (length-map taps number)
