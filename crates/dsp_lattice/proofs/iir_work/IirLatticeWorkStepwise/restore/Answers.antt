use Rattle.std.proofs.Common.{◌≡◌, ◌∙◌, ap, sym, ◌+◌, length, map, drop, reverse, rules}
use Rattle.std.proofs.lemmas.List.{length-map}
use Rattle.dsp_defs.specs.Formats.{word}
use Rattle.dsp_defs.specs.Kept.{IsOfKind}
use Rattle.dsp_unit.proofs.ChannelKept.{length-words, fit-words}
use Rattle.dsp_filter.proofs.Units.{written-whole}
use Rattle.dsp_lattice.proofs.iir_work.IirLatticeWorkStepwise.restore.Goals as goal

pub read_reversed-requires-clause-length : goal.read_reversed-requires-clause-length
read_reversed-requires-clause-length g c =
    let T = g.T.Sample in
    let work = c.self.inside in
    let each = rw (← c.self.view_is) at c.requires in
    let count = length-words IsOfKind (word T.format) (length (map T.number work.reflections.items))
    c.args.numbers.now each in
    ap length c.as_mut_slice.ensures.value ∙ c.self.invariant.1 ∙
    ap (λ n. n + 1) (sym (count ∙ length-map work.reflections.items T.number))

pub read_reversed-requires-clause-samples : goal.read_reversed-requires-clause-samples
read_reversed-requires-clause-samples g c =
    let T = g.T.Sample in
    let each = rw (← c.self.view_is) at c.requires in
    fit-words (word T.format) (length (map T.number c.self.inside.reflections.items)) c.args.numbers.now each

pub returns-clause-kept : goal.returns-clause-kept
returns-clause-kept g c =
    let number = g.T.Sample.number in
    let old = c.self.inside.backward in
    let new = c.read_reversed.new.samples in
    let size : old.len ≡ length old.items = search rules in
    let same : length new ≡ old.len = c.read_reversed.auto.samples ∙ ap length c.as_mut_slice.ensures.value ∙
    sym size in
    ap (λ l. reverse (drop 1 (map number l))) (written-whole old.len new old.items same) ∙ c.read_reversed.ensures
