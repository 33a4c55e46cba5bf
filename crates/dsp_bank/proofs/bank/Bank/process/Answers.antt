use Rattle.std.proofs.Common.{◌≡◌, ◌∙◌, ap, sym, subst, false, ℕ, ◌≤◌, ◌+◌, ◌*◌, ◌/◌, ◌++◌, length, map, take, drop}
use Rattle.std.proofs.Common.{rules}
use Rattle.std.proofs.lemmas.List.{length-map}
use Rattle.dsp_defs.specs.Cost.{section_count}
use Rattle.dsp_defs.specs.Formats.{lanes}
use Rattle.dsp_defs.specs.declared.script.Block.TheVariants.{Biquad}
use Rattle.dsp_unit.specs.Channels.{AreFed}
use Rattle.dsp_filter.proofs.Units.{written-whole}
use Rattle.dsp_lanes.specs.Turns.{RisesWithin, lane_turns}
use Rattle.dsp_biquad.specs.Sections.{block_acts}
use Rattle.dsp_biquad.specs.Laws.{count-at}
use Rattle.dsp_bank.specs.Bank.{BankState, bank_filters}
use Rattle.dsp_bank.specs.Rows.{ChannelsTake}
use Rattle.dsp_bank.proofs.Amounts.{for-each, frames-fit, products-by_samples, turns-by_frames, whole-parts}
use Rattle.dsp_bank.proofs.BankFed.{bank-fed}
use Rattle.dsp_bank.proofs.bank.Bank.process.Goals as goal

-- the rows have room for the frames
pub run_block-requires-clause-inner : goal.run_block-requires-clause-inner
run_block-requires-clause-inner g c =
    let b = c.self.inside in
    let few = rw (← c.self.view_is) at c.requires.block in
    frames-fit (length c.args.frames.now) b.capacity b.channels _ few (ap length c.as_mut_slice-2.ensures.value
    ∙ c.self.invariant.7)

pub run_block-requires-clause-outputs : goal.run_block-requires-clause-outputs
run_block-requires-clause-outputs g c =
    let b = c.self.inside in
    let few = rw (← c.self.view_is) at c.requires.block in
    frames-fit (length c.args.frames.now) b.capacity b.channels _ few (ap length c.as_mut_slice-3.ensures.value
    ∙ c.self.invariant.8)

-- the vectors that the bank then has
kept-whole : (g : _) (c : goal.After-out-1 g) → take c.self.inside.kept.len (c.run_block.new.kept ++ drop
    (length c.run_block.new.kept) c.self.inside.kept.items) ≡ c.run_block.new.kept
kept-whole g c =
    let size : c.self.inside.kept.len ≡ length c.self.inside.kept.items = search rules in
    written-whole c.self.inside.kept.len c.run_block.new.kept c.self.inside.kept.items (c.run_block.auto.kept
    ∙ ap length c.as_mut_slice.ensures.value ∙ sym size)

frames-whole : (g : _) (c : goal.After-out-1 g) → take c.self.inside.frames.len (c.run_block.new.inner ++ drop
    (length c.run_block.new.inner) c.self.inside.frames.items) ≡ c.run_block.new.inner
frames-whole g c =
    let size : c.self.inside.frames.len ≡ length c.self.inside.frames.items = search rules in
    written-whole c.self.inside.frames.len c.run_block.new.inner c.self.inside.frames.items (c.run_block.auto.inner
    ∙ ap length c.as_mut_slice-2.ensures.value ∙ sym size)

outputs-whole : (g : _) (c : goal.After-out-1 g) → take c.self.inside.outputs.len (c.run_block.new.outputs ++ drop
    (length c.run_block.new.outputs) c.self.inside.outputs.items) ≡ c.run_block.new.outputs
outputs-whole g c =
    let size : c.self.inside.outputs.len ≡ length c.self.inside.outputs.items = search rules in
    written-whole c.self.inside.outputs.len c.run_block.new.outputs c.self.inside.outputs.items
    (c.run_block.auto.outputs ∙ ap length c.as_mut_slice-3.ensures.value ∙ sym size)

pub invariant_of-self : goal.invariant_of-self
invariant_of-self g c =
    let is = c.self.invariant in (
      is.0,
      is.1,
      is.2,
      is.3,
      is.4,
      is.5,
      ap length (kept-whole g c) ∙ c.run_block.auto.kept ∙ ap length c.as_mut_slice.ensures.value ∙ is.6,
      ap length (frames-whole g c) ∙ c.run_block.auto.inner ∙ ap length c.as_mut_slice-2.ensures.value ∙ is.7,
      ap length (outputs-whole g c) ∙ c.run_block.auto.outputs ∙ ap length c.as_mut_slice-3.ensures.value ∙ is.8,
    )

-- the bank before the call
abbrev before-call : (g : _) (c : goal.After-out-1 g) → BankState
before-call g c = record {
  post_shift = c.self.inside.post_shift;
  coefficients = map g.T.Sample.number c.self.inside.coefficients.items;
  channels = c.self.inside.channels;
  capacity = c.self.inside.capacity;
  kept = map g.T.Sample.number c.self.inside.kept.items;
}

-- its sections
sections-are : (g : _) (c : goal.After-out-1 g) → length c.as_slice.result.now / g.T.BiquadSample.SIZE
    ≡ section_count g.T.Sample.format (map g.T.Sample.number c.self.inside.coefficients.items)
sections-are g c =
    let number = g.T.Sample.number in
    let size = g.T.BiquadSample.SIZE in
    let items = c.self.inside.coefficients.items in
    ap (λ l. length l / size) c.as_slice.ensures.value
    ∙ sym (count-at g.T.Sample.format size g.met.T.BiquadSample.has_size (map number items) ∙ ap (λ n. n / size)
    (length-map items number))

pub returns-clause-fed : goal.returns-clause-fed
returns-clause-fed g c =
    let number = g.T.Sample.number in
    let format = g.T.Sample.format in
    let size = g.T.BiquadSample.SIZE in
    let is = c.self.invariant in
    let p = c.self.inside.post_shift in
    let row = c.self.inside.channels in
    let items = c.self.inside.coefficients.items in
    let kept = map number c.self.inside.kept.items in
    let kept' = map number c.run_block.new.kept in
    let count = length c.args.frames.now / row in
    let taken = map number c.args.frames.now in
    let given = map number c.run_block.new.out in
    let sections = section_count format (map number items) in
    let many = length c.as_slice.result.now / size in
    let same = sections-are g c in
    let goes = subst (λ l. ChannelsTake (block_acts format (Biquad p (map number l))) (4 * many) row count
    (map number c.as_mut_slice.result.now) kept' taken given)
    c.as_slice.ensures.value c.run_block.ensures.goes in
    let goes' = subst (λ l. ChannelsTake (block_acts format (Biquad p (map number items))) (4 * many) row count
    (map number l) kept' taken given)
    c.as_mut_slice.ensures.value goes in
    let goes'' = subst (λ n. ChannelsTake (block_acts format (Biquad p (map number items))) (4 * n) row count kept
    kept' taken given) same goes' in
    let rises = subst (λ n. RisesWithin c.args.steps.now c.run_block.new.steps (n * (count * (5 * row)))
    (n * (count * (5 * lane_turns (lanes format) row)))) same c.run_block.ensures.steps in
    let count-is : length items / size ≡ sections = ap (λ l. length l / size) (sym c.as_slice.ensures.value) ∙ same in
    let whole : length c.self.inside.kept.items ≡ row * sections * 4 = is.6 ∙ ap (λ n. row * n * 4) count-is in
    let long = for-each (length kept) row sections (length-map c.self.inside.kept.items number ∙ whole) in
    let size' : length c.run_block.new.kept ≡ length c.self.inside.kept.items = c.run_block.auto.kept
    ∙ ap length c.as_mut_slice.ensures.value in
    let long' = for-each (length kept') row sections (length-map c.run_block.new.kept number ∙ size' ∙ whole) in
    let fed = bank-fed format (before-call g c) kept' count taken given c.args.steps.now c.run_block.new.steps is.3
    long long' goes'' rises in
    subst (λ (b : BankState). AreFed (bank_filters format false b) (bank_filters format false
    (record (before-call g c) {
      kept = map number (take c.self.inside.kept.len (c.run_block.new.kept ++ drop
          (length c.run_block.new.kept) c.self.inside.kept.items));
    }))
    (length c.args.frames.now / b.channels) taken (length c.args.frames.now / b.channels) given c.args.steps.now
    c.run_block.new.steps) c.self.view_is
    (subst (λ l. AreFed (bank_filters format false (before-call g c)) (bank_filters format false
    (record (before-call g c) { kept = map number l })) count taken count given c.args.steps.now
    c.run_block.new.steps) (sym (kept-whole g c)) fed)

pub returns-clause-multiplies : goal.returns-clause-multiplies
returns-clause-multiplies g c =
    let format = g.T.Sample.format in
    let row = c.self.inside.channels in
    let sections = section_count format (map g.T.Sample.number c.self.inside.coefficients.items) in
    let frames = length c.args.frames.now in
    let count = frames / row in
    let some = c.self.invariant.3 in
    let whole = rw (← c.self.view_is) at c.requires.whole in
    let frames-are = whole-parts frames row whole some in
    let rise = c.run_block.ensures.steps.multiplies_rise
    ∙ ap (λ n. c.args.steps.now.multiplies + n * (count * (5 * row))) (sections-are g c) in
    let product = products-by_samples sections count row in
    let is : c.run_block.new.steps.multiplies ≡ c.args.steps.now.multiplies + 5 * sections * frames =
    rise ∙ ap (λ n. c.args.steps.now.multiplies + n) (product ∙ ap (λ n. 5 * sections * n) frames-are) in
    rw (← c.self.view_is) is

pub returns-clause-turns : goal.returns-clause-turns
returns-clause-turns g c =
    let format = g.T.Sample.format in
    let row = c.self.inside.channels in
    let sections = section_count format (map g.T.Sample.number c.self.inside.coefficients.items) in
    let count = length c.args.frames.now / row in
    let turns = lane_turns (lanes format) row in
    let within = subst (λ n. c.run_block.new.steps.turns ≤ c.args.steps.now.turns + n * (count * (5 * turns)))
    (sections-are g c) c.run_block.ensures.steps.turns_within in
    let is = subst (λ n. c.run_block.new.steps.turns ≤ c.args.steps.now.turns + n)
    (turns-by_frames sections count turns) within in
    let own : lanes format ≡ g.row.L = sym g.met.T.FormatLanes.own in
    let is' = subst (λ (n : ℕ). c.run_block.new.steps.turns ≤ c.args.steps.now.turns + 5 * sections * count
    * lane_turns n row) own is in
    rw (← c.self.view_is) is'
