use Rattle.std.proofs.Common.{◌∙◌, ap, length}
use Rattle.dsp_unit.specs.Line.{Place, measured_by}
use Rattle.dsp_chain.proofs.Measured.{each-few, line-measures}
use Rattle.dsp_chain.proofs.Room.{few-units}
use Rattle.dsp_chain.proofs.chain.Chain.measures.Goals as goal

pub count_measures-requires-clause-few : goal.count_measures-requires-clause-few
count_measures-requires-clause-few g c =
    rw c.deref.ensures.value (few-units c.self.inside.links.items c.self.invariant.is.few_blocks)

pub count_measures-requires-clause-each : goal.count_measures-requires-clause-each
count_measures-requires-clause-each g c =
    let p : Place = record {
      format = c.self.inside.format;
      channels = c.self.inside.channels;
      capacity =
          c.self.inside.capacity;
    } in
    rw c.deref.ensures.value (each-few p c.self.inside.links.items c.self.invariant.is.line
    c.self.invariant.is.few_channels)

pub returns-clause-stays : goal.returns-clause-stays
returns-clause-stays g c =
    let p : Place = record {
      format = c.self.inside.format;
      channels = c.self.inside.channels;
      capacity =
          c.self.inside.capacity;
    } in
    rw (← c.self.view_is) (c.count_measures.ensures.count ∙
    ap (λ us. length (measured_by 1 us)) c.deref.ensures.value ∙
    line-measures 1 p c.self.inside.links.items c.self.invariant.is.line)
