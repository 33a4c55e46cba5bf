use Rattle.std.proofs.Common.{◌≡◌, ◌∙◌, ap, ap₂, sym, subst, ℕ, ◌+◌, ◌-◌, ◌*◌, ◌/◌, ◌%◌, ◌<◌, ◌≤◌, ◌++◌, length, map}
use Rattle.std.proofs.Common.{take, drop, arith, vec_len, rules, length-append, length-take-le}
use Rattle.std.proofs.lemmas.List.{drop_at, length-map}
use Rattle.dsp_defs.specs.Streaming.{last_of}
use Rattle.dsp_lanes.specs.Turns.{lane_turns}
use Rattle.dsp_rate.specs.DecimateState.{DecimateState, past_length, strided_rows}
use Rattle.dsp_filter.proofs.Slices.{front-written}
use Rattle.dsp_filter.proofs.Groups.{groups-more, open-more, groups-within}
use Rattle.dsp_window.specs.Rolling.{Rolling, last_samples}
use Rattle.dsp_window.proofs.Pushed.{window-long, shows-after, keeps-after, pushed-long}
use Rattle.dsp_window.proofs.Rolls.{length-last_samples}
use Rattle.dsp_rate.proofs.DecimateLemmas.{groups-room, group-fits}
use Rattle.dsp_rate.proofs.DecimateLemmas.{decimate-values}
use Rattle.dsp_rate.proofs.decimate.Decimate.process.Goals as goal

pub slice_bounds-output-end : goal.slice_bounds-output-end
slice_bounds-output-end g c =
    groups-room (length c.args.input.now) c.self.inside.phase c.self.inside.factor c.args.self.now.factor
    (length c.args.output.now) (omega arith) (ap (λ (d : DecimateState). d.factor) c.self.view_is) c.requires.room

pub slice_bounds-output-end-2 : goal.slice_bounds-output-end-2
slice_bounds-output-end-2 g c =
    let enough = groups-room (length c.args.input.now) c.self.inside.phase c.self.inside.factor c.args.self.now.factor
    (length c.args.output.now) (omega arith) (ap (λ (d : DecimateState). d.factor) c.self.view_is) c.requires.room
    in
    sym (length-take-le ((c.self.inside.phase + length c.args.input.now) / c.self.inside.factor) c.args.output.now
    enough)

pub strided_rows-requires : goal.strided_rows-requires
strided_rows-requires g c = λ i below.
    let number = g.T.Sample.number in
    let d = c.self.inside in
    let m = length c.args.input.now in
    let count = (d.phase + m) / d.factor in
    let enough = groups-room m d.phase d.factor c.args.self.now.factor (length c.args.output.now) (omega arith)
    (ap (λ (s : DecimateState). s.factor) c.self.view_is) c.requires.room in
    let long : length c.slice.result.now ≡ d.window.past + length (map number c.args.input.now) =
    window-long number d.window c.push_block.new.self (map number c.args.input.now) c.slice.result.now
    c.push_block.ensures.rolls c.slice.ensures.samples (omega arith) in
    let within : i < count = omega (arith, below, length-take-le count c.args.output.now enough) in
    let group : i * d.factor + d.factor ≤ d.phase + m = group-fits (d.phase + m) d.factor i within in
    omega (arith, long, group, length-map c.args.input.now number, c.deref.ensures.len)

pub returns-clause-within : goal.returns-clause-within
returns-clause-within g c = rw (← c.self.view_is) (groups-within (length c.args.input.now) c.self.inside.phase
    c.self.inside.factor (omega arith))

pub returns-clause-values : goal.returns-clause-values
returns-clause-values g c = λ x stands.
    let T = g.T.Sample in
    let number = T.number in
    let d = c.self.inside in
    let taps = d.taps.items in
    let input = c.args.input.now in
    let out = c.strided_rows.new.out in
    let window = map number c.slice.result.now in
    let count = (d.phase + length input) / d.factor in
    let enough = groups-room (length input) d.phase d.factor c.args.self.now.factor (length c.args.output.now)
    (omega arith) (ap (λ (s : DecimateState). s.factor) c.self.view_is) c.requires.room in
    let taken = length-take-le count c.args.output.now enough in
    let view_len : vec_len d.taps ≡ length taps = search rules in
    let some : 0 < length (map number taps) = omega (arith, length-map taps number) in
    let out_long : length out ≡ count = omega (arith, c.strided_rows.auto.out, taken) in
    let counted : length (take count c.args.output.now) ≡ (d.phase + length (map number input)) / d.factor = taken ∙
    ap (λ n. (d.phase + n) / d.factor) (sym (length-map input number)) in
    let stood = rw (← c.self.view_is) at stands in
    let shows : window ≡ last_of (past_length d.factor (length (map number taps))) x ++ map number input =
    c.slice.ensures.samples ∙ shows-after d.window c.push_block.new.self
    (past_length d.factor (length (map number taps))) x (map number input) c.push_block.ensures.rolls stood.past_is
    in
    let rows_are : map number out ≡ strided_rows T.format (map number taps) window (d.factor - 1 - d.phase) d.factor
    (length (take count c.args.output.now)) =
    c.strided_rows.ensures.out ∙ ap (λ t. strided_rows T.format (map number t) window (d.factor - 1 - d.phase)
    d.factor (length (take count c.args.output.now))) c.deref.ensures.value in
    rw (← c.self.view_is)
    (rw (front-written count out c.args.output.now out_long)
    (decimate-values T.format d.factor (map number taps) x (map number input) window (map number out) d.phase _
    (omega arith) some stood.phase_is counted shows rows_are))

pub returns-clause-stands : goal.returns-clause-stands
returns-clause-stands g c = λ x stands.
    let number = g.T.Sample.number in
    let d = c.self.inside in
    let taps = d.taps.items in
    let input = c.args.input.now in
    let view_len : vec_len d.taps ≡ length taps = search rules in
    let past : d.window.past ≡ past_length d.factor (length (map number taps)) =
    omega (arith, length-map taps number) in
    let stood = rw (← c.self.view_is) at stands in
    record {
      past_is = keeps-after d.window c.push_block.new.self (past_length d.factor (length (map number taps))) x
          (map number input) c.push_block.ensures.rolls stood.past_is past;
      phase_is =
          open-more (length x) (length input) d.phase d.factor (omega arith) stood.phase_is
          ∙ ap (λ n. n % d.factor) (ap (λ n. length x + n) (sym (length-map input number)) ∙
          sym (length-append x (map number input)));
    }

pub returns-clause-count : goal.returns-clause-count
returns-clause-count g c = λ n counts.
    rw (← c.self.view_is) (groups-more n (length c.args.input.now) c.self.inside.phase c.self.inside.factor
    (omega arith) (rw (← c.self.view_is) at counts))

pub returns-clause-counts : goal.returns-clause-counts
returns-clause-counts g c = λ n counts.
    open-more n (length c.args.input.now) c.self.inside.phase c.self.inside.factor (omega arith)
    (rw (← c.self.view_is) at counts)

pub returns-clause-multiplies : goal.returns-clause-multiplies
returns-clause-multiplies g c =
    let d = c.self.inside in
    let count = (d.phase + length c.args.input.now) / d.factor in
    let enough = groups-room (length c.args.input.now) d.phase d.factor c.args.self.now.factor
    (length c.args.output.now) (omega arith) (ap (λ (s : DecimateState). s.factor) c.self.view_is) c.requires.room
    in
    let taken : length (take count c.args.output.now) ≡ count = length-take-le count c.args.output.now enough in
    let taps_long : length c.deref.result.now ≡ length c.args.self.now.taps = ap length c.deref.ensures.value ∙
    sym (length-map d.taps.items g.T.Sample.number) ∙ ap (λ (s : DecimateState). length s.taps) c.self.view_is in
    c.strided_rows.ensures.steps.multiplies_rise ∙ ap₂ (λ a b. c.args.steps.now.multiplies + a * b) taken taps_long

pub returns-clause-turns : goal.returns-clause-turns
returns-clause-turns g c =
    let d = c.self.inside in
    let count = (d.phase + length c.args.input.now) / d.factor in
    let enough = groups-room (length c.args.input.now) d.phase d.factor c.args.self.now.factor
    (length c.args.output.now) (omega arith) (ap (λ (s : DecimateState). s.factor) c.self.view_is) c.requires.room
    in
    let taken : length (take count c.args.output.now) ≡ count = length-take-le count c.args.output.now enough in
    let taps_long : length c.deref.result.now ≡ length c.args.self.now.taps = ap length c.deref.ensures.value ∙
    sym (length-map d.taps.items g.T.Sample.number) ∙ ap (λ (s : DecimateState). length s.taps) c.self.view_is in
    subst (λ (n : ℕ). c.strided_rows.new.steps.turns ≤ n)
    (ap₂ (λ a b. c.args.steps.now.turns + a * lane_turns g.row.L b) taken taps_long)
    c.strided_rows.ensures.steps.turns_within

pub invariant_of-self : goal.invariant_of-self
invariant_of-self g c =
    let d = c.self.inside in
    let inv = c.self.invariant in
    let new = c.push_block.new.self in
    let past_same : new.past ≡ d.window.past = ap (λ (w : Rolling). w.past) c.push_block.ensures.rolls in
    let room_same : new.room ≡ d.window.room = ap (λ (w : Rolling). w.room) c.push_block.ensures.rolls in
    let long = pushed-long d.window new (map g.T.Sample.number c.args.input.now) c.push_block.ensures.rolls inv.6 in (
      ap (λ p. p + 2) past_same ∙ inv.0,
      inv.1,
      inv.2,
      omega (arith, inv.3),
      inv.4,
      omega (arith, room_same, inv.5),
      omega (arith, long, past_same),
    )

pub returns-clause-same : goal.returns-clause-same
returns-clause-same g c =
    let d = c.self.inside in
    let new = c.push_block.new.self in
    let past = last_samples new.past new.samples in
    let phase = (d.phase + length c.args.input.now) % d.factor in
    let room_same : new.room ≡ d.window.room = ap (λ (w : Rolling). w.room) c.push_block.ensures.rolls in
    ap (λ (r : ℕ). record {
      factor = d.factor;
      taps = map g.T.Sample.number d.taps.items;
      past = past;
      phase =
          phase;
      block = r;
      ended = d.ended;
    }) room_same
    ∙ ap (λ (s : DecimateState). record s { past = past; phase = phase }) c.self.view_is

pub returns-clause-kept : goal.returns-clause-kept
returns-clause-kept g c =
    let d = c.self.inside in
    let inv = c.self.invariant in
    let new = c.push_block.new.self in
    let past_same : new.past ≡ d.window.past = ap (λ (w : Rolling). w.past) c.push_block.ensures.rolls in
    let long = pushed-long d.window new (map g.T.Sample.number c.args.input.now) c.push_block.ensures.rolls inv.6 in
    length-last_samples new.past new.samples (omega (arith, long, past_same))
    ∙ past_same
    ∙ sym (length-last_samples d.window.past d.window.samples inv.6)
    ∙ ap (λ (s : DecimateState). length s.past) c.self.view_is

pub returns-clause-rest : goal.returns-clause-rest
returns-clause-rest g c =
    let count = (c.self.inside.phase + length c.args.input.now) / c.self.inside.factor in
    let enough = groups-room (length c.args.input.now) c.self.inside.phase c.self.inside.factor c.args.self.now.factor
    (length c.args.output.now) (omega arith) (ap (λ (d : DecimateState). d.factor) c.self.view_is) c.requires.room
    in
    drop_at c.strided_rows.new.out (drop count c.args.output.now) count
    (c.strided_rows.auto.out ∙ length-take-le count c.args.output.now enough)
