use Rattle.std.proofs.Common.{◌∙◌, ap, sym, subst}
use Rattle.dsp_defs.specs.Kept.{kept_count_of_chain}
use Rattle.dsp_unit.specs.Line.{Place, InLine, blocks_of}
use Rattle.dsp_chain.proofs.chain.Chain.kept_count_of.Goals as goal

pub count_line-requires-clause-frames : goal.count_line-requires-clause-frames
count_line-requires-clause-frames g c =
    rw c.deref.ensures.value (c.self.invariant.is.few_frames c.args.frames c.requires)

pub returns : goal.returns
returns g c =
    let p : Place = record {
      format = c.self.inside.format;
      channels = c.self.inside.channels;
      capacity = c.self.inside.capacity;
    } in
    let links = c.deref.ensures.value in
    rw (← c.self.view_is) (c.count_line.ensures.count p (subst (InLine p) (sym links) c.self.invariant.is.line)
    ∙ ap (λ us. kept_count_of_chain p.format p.channels (blocks_of us) c.args.frames) links)
