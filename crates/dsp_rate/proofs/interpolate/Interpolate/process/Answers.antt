use Rattle.std.proofs.Common.{◌≡◌, ◌≤◌, ◌∙◌, ◌*◌, ◌+◌, ◌/◌, ◌%◌, ◌++◌, ap, sym, subst, ℕ, length, map, take, drop}
use Rattle.std.proofs.Common.{arith, length-take-le}
use Rattle.std.proofs.lemmas.List.{drop_at, length-map}
use Rattle.dsp_defs.specs.Streaming.{last_of}
use Rattle.dsp_lanes.specs.Turns.{lane_turns}
use Rattle.dsp_filter.proofs.Slices.{front-written}
use Rattle.dsp_window.specs.Rolling.{Rolling, last_samples}
use Rattle.dsp_window.proofs.Pushed.{shows-after, keeps-after, window-long}
use Rattle.dsp_window.proofs.Rolls.{length-last_samples}
use Rattle.dsp_rate.specs.InterpolateState.{InterpolateState, past_length, phase_rows, unsorted}
use Rattle.dsp_rate.proofs.InterpolateLemmas.{interpolate-values, phase-some, phased-on, phases-within, unsorted-long}
use Rattle.dsp_rate.proofs.interpolate.Interpolate.process.Goals as goal

pub invariant_of-self : goal.invariant_of-self
invariant_of-self g c =
    let room : c.push_block.new.self.room ≡ c.self.inside.window.room =
    ap (λ (w : Rolling). w.room) c.push_block.ensures.rolls in (
      c.self.invariant.0 ∙ sym room,
      phased-on c.self.inside.factor (map g.T.Sample.number c.self.inside.phases.items)
          (map g.T.Sample.number c.args.input.now) c.self.inside.window c.push_block.new.self c.self.invariant.1
          c.push_block.ensures.rolls,
    )

pub returns-clause-values : goal.returns-clause-values
returns-clause-values g c = λ x stands.
    let T = g.T.Sample in
    let number = T.number in
    let factor = c.self.inside.factor in
    let phases = map number c.self.inside.phases.items in
    let old = c.self.inside.window in
    let is = c.self.invariant.1 in
    let input = c.args.input.now in
    let out = c.phase_rows.new.out in
    let window = map number c.slice.result.now in
    let count = length input * factor in
    let stood = rw (← c.self.view_is) at stands in
    let room : count ≤ length c.args.output.now = subst
    (λ (f : InterpolateState). length input * f.factor ≤ length c.args.output.now) (sym c.self.view_is)
    c.requires.room in
    let taken : length (take count c.args.output.now) ≡ count = length-take-le count c.args.output.now room in
    let out_long : length out ≡ count = omega (arith, c.phase_rows.auto.out, taken) in
    let size : length (take count c.args.output.now) ≡ length (map number input) * factor = taken ∙
    ap (λ n. n * factor) (sym (length-map input number)) in
    let kept = past_length factor (length phases) in
    let shows : window ≡ last_of kept x ++ map number input =
    c.slice.ensures.samples ∙ shows-after old c.push_block.new.self kept x (map number input)
    c.push_block.ensures.rolls (stood ∙ ap (λ n. last_of (past_length factor n) x) (unsorted-long factor phases)) in
    let rows_are : map number out ≡ phase_rows T.format factor phases window (length (take count c.args.output.now)) =
    c.phase_rows.ensures.out ∙ ap (λ t. phase_rows T.format factor (map number t) window
    (length (take count c.args.output.now))) c.deref.ensures.value in
    rw (← c.self.view_is)
    (rw (front-written count out c.args.output.now out_long)
    (interpolate-values T.format factor phases x (map number input) window (map number out) _ is.some is.whole is.taps
    size shows rows_are))

pub returns-clause-stands : goal.returns-clause-stands
returns-clause-stands g c = λ x stands.
    let number = g.T.Sample.number in
    let factor = c.self.inside.factor in
    let phases = map number c.self.inside.phases.items in
    let old = c.self.inside.window in
    let stood = rw (← c.self.view_is) at stands in
    keeps-after old c.push_block.new.self (past_length factor (length (unsorted factor phases))) x
    (map number c.args.input.now) c.push_block.ensures.rolls stood
    (c.self.invariant.1.past ∙ ap (past_length factor) (sym (unsorted-long factor phases)))

pub returns-clause-multiplies : goal.returns-clause-multiplies
returns-clause-multiplies g c =
    let number = g.T.Sample.number in
    let phases = c.self.inside.phases.items in
    let taps : length c.deref.result.now ≡ length c.args.self.now.taps =
    ap length c.deref.ensures.value ∙ sym (unsorted-long c.self.inside.factor (map number phases) ∙
    length-map phases number) ∙ ap (λ (f : InterpolateState). length f.taps) c.self.view_is in
    c.phase_rows.ensures.steps.multiplies_rise ∙ ap (λ b. c.args.steps.now.multiplies + length c.args.input.now * b)
    taps

pub returns-clause-turns : goal.returns-clause-turns
returns-clause-turns g c =
    let number = g.T.Sample.number in
    let phases = c.self.inside.phases.items in
    let taps : length c.deref.result.now ≡ length c.args.self.now.taps =
    ap length c.deref.ensures.value ∙ sym (unsorted-long c.self.inside.factor (map number phases) ∙
    length-map phases number) ∙ ap (λ (f : InterpolateState). length f.taps) c.self.view_is in
    subst (λ (n : ℕ). c.phase_rows.new.steps.turns ≤ n)
    (ap (λ b. c.args.steps.now.turns + b * lane_turns g.row.L (length c.args.input.now)) taps)
    c.phase_rows.ensures.steps.turns_within

pub returns-clause-same : goal.returns-clause-same
returns-clause-same g c =
    let d = c.self.inside in
    let new = c.push_block.new.self in
    let past = last_samples new.past new.samples in
    let room : new.room ≡ d.window.room = ap (λ (w : Rolling). w.room) c.push_block.ensures.rolls in
    ap (λ (r : ℕ). record {
      factor = d.factor;
      taps = unsorted d.factor (map g.T.Sample.number d.phases.items);
      past =
          past;
      block = r;
      ended = d.ended;
    }) room
    ∙ ap (λ (f : InterpolateState). record f { past = past }) c.self.view_is

pub returns-clause-kept : goal.returns-clause-kept
returns-clause-kept g c =
    let number = g.T.Sample.number in
    let d = c.self.inside in
    let new = c.push_block.new.self in
    let on = phased-on d.factor (map number d.phases.items) (map number c.args.input.now) d.window new
    c.self.invariant.1 c.push_block.ensures.rolls in
    length-last_samples new.past new.samples on.shown
    ∙ ap (λ (w : Rolling). w.past) c.push_block.ensures.rolls
    ∙ sym (length-last_samples d.window.past d.window.samples c.self.invariant.1.shown)
    ∙ ap (λ (f : InterpolateState). length f.past) c.self.view_is

pub returns-clause-rest : goal.returns-clause-rest
returns-clause-rest g c =
    let input = c.args.input.now in
    let output = c.args.output.now in
    let count = length input * c.self.inside.factor in
    let room : count ≤ length output = subst (λ (f : InterpolateState). length input * f.factor ≤ length output)
    (sym c.self.view_is) c.requires.room in
    drop_at c.phase_rows.new.out (drop count output) count (c.phase_rows.auto.out ∙ length-take-le count output room)

pub returns-clause-given : goal.returns-clause-given
returns-clause-given g c = ap (λ (f : InterpolateState). length c.args.input.now * f.factor) c.self.view_is

pub phase_rows-requires-clause-factor : goal.phase_rows-requires-clause-factor
phase_rows-requires-clause-factor g c = c.self.invariant.1.some

pub phase_rows-requires-clause-whole : goal.phase_rows-requires-clause-whole
phase_rows-requires-clause-whole g c =
    let phases = c.self.inside.phases.items in
    let long = ap length c.deref.ensures.value ∙ sym (length-map phases g.T.Sample.number) in
    subst (λ n. n % c.self.inside.factor ≡ 0) (sym long) c.self.invariant.1.whole

pub phase_rows-requires-clause-taps : goal.phase_rows-requires-clause-taps
phase_rows-requires-clause-taps g c =
    let phases = c.self.inside.phases.items in
    let is = c.self.invariant.1 in
    let long = ap length c.deref.ensures.value ∙ sym (length-map phases g.T.Sample.number) in
    subst (λ n. c.self.inside.factor ≤ n) (sym long) (phases-within c.self.inside.factor
    (length (map g.T.Sample.number phases)) is.whole is.taps)

pub phase_rows-requires-clause-window : goal.phase_rows-requires-clause-window
phase_rows-requires-clause-window g c =
    let number = g.T.Sample.number in
    let d = c.self.inside in
    let is = c.self.invariant.1 in
    let phases = map number d.phases.items in
    let input = c.args.input.now in
    let long = ap length c.deref.ensures.value ∙ sym (length-map d.phases.items number) in
    let shown = window-long number d.window c.push_block.new.self (map number input) c.slice.result.now
    c.push_block.ensures.rolls c.slice.ensures.samples is.shown in
    let some = phase-some d.factor (length phases) is.whole is.taps in
    subst (λ n. length c.slice.result.now + 1 ≡ length input + n / d.factor) (sym long)
    (omega (arith, shown, some, is.past, length-map input number))

pub phase_rows-requires-clause-row : goal.phase_rows-requires-clause-row
phase_rows-requires-clause-row g c =
    let few : length c.args.input.now ≤ c.self.inside.window.room =
    subst (λ (f : InterpolateState). length c.args.input.now ≤ f.block) (sym c.self.view_is) c.requires.block in
    omega (arith, few, c.as_mut_slice.ensures.len, c.self.invariant.0)

pub phase_rows-requires-clause-room : goal.phase_rows-requires-clause-room
phase_rows-requires-clause-room g c =
    let input = c.args.input.now in
    let output = c.args.output.now in
    let room : length input * c.self.inside.factor ≤ length output =
    subst (λ (f : InterpolateState). length input * f.factor ≤ length output) (sym c.self.view_is) c.requires.room
    in
    length-take-le (length input * c.self.inside.factor) output room
