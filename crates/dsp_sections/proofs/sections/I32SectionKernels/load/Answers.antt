use Rattle.std.proofs.Common.{◌∙◌, ap, sym, w32}
use lib.Lanes.{chunk}
use Rattle.std.proofs.lemmas.Simd.{length-chunk}
use Rattle.std.proofs.lemmas.List.{map-id}
use Rattle.dsp_lanes.proofs.LaneOps.{group_fits}
use Rattle.dsp_sections.proofs.SectionLanes.{masked_read}
use Rattle.dsp_sections.proofs.sections.I32SectionKernels.load.Goals as goal

pub returns-clause-value : goal.returns-clause-value
returns-clause-value g c =
    let l = g.row.L in
    let xs = chunk c.args.at l c.args.samples.now in
    let f = group_fits w32 c.args.at l c.args.samples.now c.q31_fit.ensures c.requires.inside in
    (masked_read l xs (length-chunk c.args.at l c.args.samples.now c.requires.inside) f).0
    ∙ ap (λ s. chunk c.args.at l s) (sym (map-id c.args.samples.now))

pub returns-clause-fit : goal.returns-clause-fit
returns-clause-fit g c =
    let l = g.row.L in
    let xs = chunk c.args.at l c.args.samples.now in
    (masked_read l xs (length-chunk c.args.at l c.args.samples.now c.requires.inside)
    (group_fits w32 c.args.at l c.args.samples.now c.q31_fit.ensures c.requires.inside)).1
