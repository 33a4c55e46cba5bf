use Rattle.std.proofs.Common.{◌≡◌, ◌≤◌, ◌∙◌, ◌+◌, ◌*◌, ◌++◌, ap, ap₂, sym, subst, refl, ℕ, ℤ, List, Option, None, Some}
use Rattle.std.proofs.Common.{length, map, take, drop, drop_at, arith, length-take-le}
use Rattle.std.specs.Prelude.{IfSome}
use Rattle.std.proofs.lemmas.List.{length-map}
use Rattle.dsp_defs.specs.Kept.{kept_of_channel}
use Rattle.dsp_defs.specs.Streaming.{Continues}
use Rattle.dsp_unit.specs.Filter.{of_channel}
use Rattle.dsp_filter.proofs.Slices.{front-written}
use Rattle.dsp_window.specs.Rolling.{Rolling}
use Rattle.dsp_lanes.specs.Turns.{lane_turns}
use Rattle.dsp_window.proofs.Pushed.{keeps-after, window-long, pushed-long}
use Rattle.dsp_window.proofs.Rolls.{length-last_samples}
use Rattle.dsp_fir.specs.ByChannel.{IsWindowIn}
use Rattle.dsp_fir.specs.Laws.{windowed}
use Rattle.dsp_fir.specs.WindowState.{DelayState, WindowState, block_of, past_count, tap_count}
use Rattle.dsp_fir.proofs.window_filter.WindowFilter.process.Goals as goal

room-for : (delays : Option DelayState) (n room : ℕ) → n ≤ room →
    IfSome delays (λ (d : DelayState). d.room ≡ room) → IfSome delays (λ (d : DelayState). n ≤ d.room)
room-for None n room few is = is
room-for (Some d) n room few is = omega (arith, few, is)

tap-count : (taps : List ℤ) (delays : Option DelayState) → length taps ≡ tap_count (block_of taps delays)
tap-count taps None = refl
tap-count taps (Some d) = refl

pub window_rows-requires-clause-room : goal.window_rows-requires-clause-room
window_rows-requires-clause-room g c =
    let count = length c.args.input.now in
    let few : count ≤ c.self.inside.window.room = rw (← c.self.view_is) at c.requires.block in
    let lent = length-take-le count c.args.output.now c.requires.room in
    room-for c.self.inside.delays (length (take count c.args.output.now)) c.self.inside.window.room
    (omega (arith, lent, few)) c.self.invariant.4

pub window_rows-requires-clause-window : goal.window_rows-requires-clause-window
window_rows-requires-clause-window g c =
    let number = g.T.Sample.number in
    let f = c.self.inside in
    let input = c.args.input.now in
    let depth = c.self.invariant.2 ∙ c.self.invariant.1 ∙
    ap (λ ts. past_count (block_of ts f.delays)) (ap (map number) (sym c.deref.ensures.value)) in
    let lent = length-take-le (length input) c.args.output.now c.requires.room in
    window-long number f.window c.push_block.new.self (map number input) c.slice-window.result.now
    c.push_block.ensures.rolls c.slice-window.ensures.samples c.self.invariant.3
    ∙ ap₂ (λ a b. a + b) depth (length-map input number ∙ sym lent)

pub returns-clause-kept : goal.returns-clause-kept
returns-clause-kept g c =
    let old = c.self.inside.window in
    let new = c.push_block.new.self in
    let past : new.past ≡ old.past = ap (λ (w : Rolling). w.past) c.push_block.ensures.rolls in
    let long = pushed-long old new (map g.T.Sample.number c.args.input.now) c.push_block.ensures.rolls
    c.self.invariant.3 in
    length-last_samples new.past new.samples (omega (arith, past, long))
    ∙ past
    ∙ sym (length-last_samples old.past old.samples c.self.invariant.3)
    ∙ ap (λ (s : WindowState). length s.past) c.self.view_is

pub returns-clause-rest : goal.returns-clause-rest
returns-clause-rest g c =
    let count = length c.args.input.now in
    drop_at c.window_rows.new.out (drop count c.args.output.now) count
    (c.window_rows.auto.out ∙ length-take-le count c.args.output.now c.requires.room)

pub returns-clause-multiplies : goal.returns-clause-multiplies
returns-clause-multiplies g c =
    let number = g.T.Sample.number in
    let f = c.self.inside in
    let n = length c.args.input.now in
    let t = tap_count (block_of (map number f.taps.items) f.delays) in
    let lent = length-take-le n c.args.output.now c.requires.room in
    let taps = ap length c.deref.ensures.value ∙ sym (length-map f.taps.items number) ∙
    tap-count (map number f.taps.items) f.delays in
    let turned : t * n ≡ n * t = omega arith in
    rw (← c.self.view_is)
    (c.window_rows.ensures.steps.multiplies_rise ∙ ap (λ k. c.args.steps.now.multiplies + k)
    (ap₂ (λ a b. a * b) taps lent ∙ turned))

pub returns-clause-turns : goal.returns-clause-turns
returns-clause-turns g c =
    let number = g.T.Sample.number in
    let f = c.self.inside in
    let lent = length-take-le (length c.args.input.now) c.args.output.now c.requires.room in
    let taps = ap length c.deref.ensures.value ∙ sym (length-map f.taps.items number) ∙
    tap-count (map number f.taps.items) f.delays in
    rw (← c.self.view_is)
    (subst (λ (n : ℕ). c.window_rows.new.steps.turns ≤ n)
    (ap₂ (λ a b. c.args.steps.now.turns + a * lane_turns g.row.L b) taps lent)
    c.window_rows.ensures.steps.turns_within)

pub returns-clause-stands : goal.returns-clause-stands
returns-clause-stands g c = λ x stands.
    let T = g.T.Sample in
    let taps = map T.number c.self.inside.taps.items in
    let block = block_of taps c.self.inside.delays in
    let is = windowed T.format block c.self.invariant.0 in
    let input = map T.number c.args.input.now in
    let kept = (rw (← c.self.view_is) at stands) ∙ is.keeps x in
    keeps-after c.self.inside.window c.push_block.new.self (past_count block) x input c.push_block.ensures.rolls kept
    (c.self.invariant.2 ∙ c.self.invariant.1)
    ∙ sym (is.keeps (x ++ input))
    ∙ ap (λ ds. kept_of_channel T.format (block_of taps ds) (x ++ input)) (sym c.window_rows.ensures.delays)

pub invariant_of-self : goal.invariant_of-self
invariant_of-self g c =
    let T = g.T.Sample in
    let taps = map T.number c.self.inside.taps.items in
    let input = map T.number c.args.input.now in
    let old = c.self.inside.window in
    let new = c.push_block.new.self in
    let inv = c.self.invariant in
    let same = sym c.window_rows.ensures.delays in
    let rolls = c.push_block.ensures.rolls in
    let past : new.past ≡ old.past = ap (λ (w : Rolling). w.past) rolls in
    let long = pushed-long old new input rolls inv.3 in
    let room = subst (λ (n : ℕ). IfSome c.self.inside.delays (λ (d : DelayState). d.room ≡ n))
    (sym (ap (λ (w : Rolling). w.room) rolls)) inv.4 in (
      subst (λ (ds : Option DelayState). IsWindowIn T.format (block_of taps ds)) same inv.0,
      subst (λ (ds : Option DelayState). c.self.inside.past ≡ past_count (block_of taps ds)) same inv.1,
      past ∙ inv.2,
      omega (arith, past, long),
      subst (λ (ds : Option DelayState). IfSome ds (λ (d : DelayState). d.room ≡ new.room)) same room,
    )

pub returns-clause-values : goal.returns-clause-values
returns-clause-values g c = λ x stands.
    let T = g.T.Sample in
    let delays = c.self.inside.delays in
    let output = c.args.output.now in
    let count = length c.args.input.now in
    let input = map T.number c.args.input.now in
    let out = c.window_rows.new.out in
    let lent : length (take count output) ≡ count = length-take-le count output c.requires.room in
    let as_many : length input ≡ length (take count output) = length-map c.args.input.now T.number ∙ sym lent in
    let stood = rw (← c.self.view_is) at stands in
    let same = ap (map T.number) c.deref.ensures.value in
    let shows = c.slice-window.ensures.samples ∙ ap (λ (w : Rolling). w.samples) c.push_block.ensures.rolls ∙
    ap (λ l. l ++ input) (stood ∙ ap (λ ts. kept_of_channel T.format (block_of ts delays) x) (sym same)) in
    rw (← c.self.view_is)
    (rw (front-written count out output (c.window_rows.auto.out ∙ lent))
    (subst (λ (ts : List ℤ). Continues (of_channel T.format (block_of ts delays)) x input (map T.number out)) same
    (c.window_rows.ensures.values x input as_many shows)))
