use Rattle.std.proofs.Common.{◌≡◌, ◌∙◌, ap, sym, length, map, rules}
use Rattle.std.proofs.lemmas.List.{length-map}
use Rattle.dsp_defs.specs.Formats.{word}
use Rattle.dsp_defs.specs.Kept.{IsOfKind}
use Rattle.dsp_unit.proofs.ChannelKept.{length-words, fit-words}
use Rattle.dsp_filter.proofs.Units.{written-whole}
use Rattle.dsp_lattice.proofs.fir_work.FirLatticeWorkStepwise.restore.Goals as goal

pub read_numbers-requires-clause-length : goal.read_numbers-requires-clause-length
read_numbers-requires-clause-length g c =
    let T = g.T.Sample in
    let work = c.self.inside in
    let each = rw (← c.self.view_is) at c.requires in
    length-words IsOfKind (word T.format) (length (map T.number work.coefficients.items)) c.args.numbers.now each
    ∙ length-map work.coefficients.items T.number ∙ sym c.self.invariant.0 ∙
    sym (ap length c.as_mut_slice.ensures.value)

pub read_numbers-requires-clause-samples : goal.read_numbers-requires-clause-samples
read_numbers-requires-clause-samples g c =
    let T = g.T.Sample in
    let each = rw (← c.self.view_is) at c.requires in
    fit-words (word T.format) (length (map T.number c.self.inside.coefficients.items)) c.args.numbers.now each

pub invariant_of-self : goal.invariant_of-self
invariant_of-self g c =
    let old = c.self.inside.states in
    let size : old.len ≡ length old.items = search rules in
    let same = c.read_numbers.auto.samples ∙ ap length c.as_mut_slice.ensures.value in (
      ap length (written-whole old.len c.read_numbers.new.samples old.items (same ∙ sym size)) ∙ same ∙
          c.self.invariant.0,
      c.self.invariant.1,
      c.self.invariant.2,
    )

pub returns-clause-kept : goal.returns-clause-kept
returns-clause-kept g c =
    let old = c.self.inside.states in
    let size : old.len ≡ length old.items = search rules in
    let same = c.read_numbers.auto.samples ∙ ap length c.as_mut_slice.ensures.value in
    ap (map g.T.Sample.number) (written-whole old.len c.read_numbers.new.samples old.items (same ∙ sym size)) ∙
    c.read_numbers.ensures
