use Rattle.std.proofs.Common.{◌∙◌, ap}
use Rattle.dsp_unit.specs.Line.{Place}
use Rattle.dsp_chain.specs.Restored.{kept_by}
use Rattle.dsp_chain.proofs.KeptCounts.{stands-kept}
use Rattle.dsp_unit.proofs.TailLaws.{count-runs}
use Rattle.dsp_chain.proofs.chain.Chain.keep.Goals as goal

pub keep_line-requires-clause-running : goal.keep_line-requires-clause-running
keep_line-requires-clause-running g c =
    let running = rw (← c.self.view_is) at c.requires.running in
    rw c.deref.ensures.value (count-runs c.self.inside.links.items c.self.inside.frames
    (c.self.invariant.is.counts running))

pub returns-clause-stands : goal.returns-clause-stands
returns-clause-stands g c =
    let is = c.self.invariant.is in
    let links = c.self.inside.links.items in
    let p : Place = record {
      format = c.self.inside.format;
      channels = c.self.inside.channels;
      capacity =
          c.self.inside.capacity;
    } in
    rw (← c.self.view_is) (λ x stands. c.keep_line.ensures ∙ ap kept_by c.deref.ensures.value ∙
    stands-kept p links x is.line stands.units)
