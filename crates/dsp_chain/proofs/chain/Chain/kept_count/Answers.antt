use Rattle.std.proofs.Common.{◌∙◌, ap, length}
use Rattle.dsp_unit.specs.Line.{Place}
use Rattle.dsp_chain.specs.Restored.{kept_by}
use Rattle.dsp_chain.proofs.KeptCounts.{counted-kept}
use Rattle.dsp_chain.proofs.Room.{few-units}
use Rattle.dsp_chain.proofs.chain.Chain.kept_count.Goals as goal

pub count_kept-requires : goal.count_kept-requires
count_kept-requires g c =
    record { few = rw c.deref.ensures.value (few-units c.self.inside.links.items c.self.invariant.is.few_blocks) }

pub returns-clause-frames : goal.returns-clause-frames
returns-clause-frames g c =
    let is = c.self.invariant.is in
    let links = c.self.inside.links.items in
    let p : Place = record {
      format = c.self.inside.format;
      channels = c.self.inside.channels;
      capacity =
          c.self.inside.capacity;
    } in
    rw (← c.self.view_is) (λ running. c.count_kept.ensures.count ∙
    ap (λ us. length (kept_by us)) c.deref.ensures.value ∙
    counted-kept p links c.self.inside.frames is.line (is.counts running))
