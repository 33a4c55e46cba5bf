use Rattle.std.proofs.Common.{◌∙◌, ap, sym, subst, List, ℤ, w16}
use lib.Lanes.{chunk, Each1}
use mir.Val.{SFits}
use Rattle.dsp_lanes.proofs.LaneOps.{ints_of_bits, group_fits}
use Rattle.dsp_sections.proofs.sections.I16SectionKernels.load.Goals as goal
use Rattle.std.proofs.lemmas.List.{map-id}

pub returns-clause-value : goal.returns-clause-value
returns-clause-value g c =
    ints_of_bits w16 (chunk c.args.at g.row.L c.args.samples.now)
    (group_fits w16 c.args.at g.row.L c.args.samples.now c.q15_fit.ensures c.requires.inside)
    ∙ ap (λ l. chunk c.args.at g.row.L l) (sym (map-id c.args.samples.now))

pub returns-clause-fit : goal.returns-clause-fit
returns-clause-fit g c =
    let xs = chunk c.args.at g.row.L c.args.samples.now in
    let fit = group_fits w16 c.args.at g.row.L c.args.samples.now c.q15_fit.ensures c.requires.inside in
    subst (λ (l : List ℤ). Each1 (SFits w16) l) (sym (ints_of_bits w16 xs fit)) fit
