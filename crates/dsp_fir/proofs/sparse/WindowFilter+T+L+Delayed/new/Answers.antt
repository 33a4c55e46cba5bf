use Rattle.std.proofs.Common.{◌≡◌, ◌∙◌, ap, map, pos}
use Rattle.dsp_defs.specs.Kept.{greatest}
use Rattle.dsp_defs.specs.declared.script.Block.TheVariants.{Sparse}
use Rattle.dsp_fir.specs.WindowState.{DelayState, new_filter}
use Rattle.dsp_fir.proofs.DelayLemmas.{greatest-named}
use Rattle.dsp_fir.proofs.sparse.WindowFilter+T+L+Delayed.new.Goals as goal

pub returns-clause-made : goal.returns-clause-made
returns-clause-made g c =
    let number = g.T.Sample.number in
    let ds = c.args.delays.now in
    let named : c.in-Ok-new.delays.delays ≡ ds = ap (λ (d : DelayState). d.delays) c.in-Ok-new.ensures ∙
    c.in-Ok-from_slice.ensures.items in
    c.in-Ok-of_taps.ensures.made
    ∙ (λ i. new_filter (Sparse (map number (c.in-Ok.ensures.items i)) (map pos (named i)))
    (greatest (map pos (named i))) c.args.block)
    ∙ ap (λ p. new_filter (Sparse (map number c.args.taps.now) (map pos ds)) p c.args.block) (greatest-named ds)
