use Rattle.std.proofs.Common.{◌≡◌, ◌∙◌, ap, sym, subst, ℕ, ◌+◌, ◌-◌, ◌*◌, ◌≤◌, ◌++◌, length, map, take, drop, take_at}
use Rattle.std.proofs.Common.{arith, rules, vec_len}
use Rattle.std.proofs.lemmas.List.{length-map}
use Rattle.dsp_defs.specs.Streaming.{last_of}
use Rattle.dsp_window.specs.Rolling.{Rolling, last_samples}
use Rattle.dsp_window.proofs.Pushed.{keeps-after, window-long}
use Rattle.dsp_defs.specs.declared.limits.TheConstants.{MAX_SAMPLES}
use Rattle.dsp_adapt.specs.LmsState.{LmsState, inputs_of}
use Rattle.dsp_adapt.proofs.LmsMaking.{changed, past-long}
use Rattle.dsp_adapt.proofs.LmsSteps.{block-adapts, inputs-more}
use Rattle.dsp_adapt.proofs.lms.Lms.process.Goals as goal

pub returns-clause-outputs : goal.returns-clause-outputs
returns-clause-outputs g c = λ x stands.
    let T = g.T.Sample in
    let number = T.number in
    let f = c.self.inside in
    let given = c.adapt_block in
    let inputs = map number c.args.input.now in
    let references = map number c.args.reference.now in
    let stood = rw (← c.self.view_is) at stands in
    let first : vec_len f.taps ≡ length f.taps.items = search rules in
    let second : vec_len f.weights ≡ length f.weights.items = search rules in
    let size : length f.weights.items ≡ length f.taps.items = omega (arith, first, second) in
    let long : length inputs ≡ length references = length-map c.args.input.now number ∙ sym c.requires.reference ∙
    sym (length-map c.args.reference.now number) in
    let adapts = block-adapts number T.format f.post_shift (number f.mu) f.taps.items f.weights.items
    c.as_mut_slice.result.now c.slice.result.now f.window c.push_block.new.self inputs references
    (map number given.new.weights) (map number given.new.outputs) (map number given.new.errors) x
    c.as_mut_slice.ensures.value size long c.push_block.ensures.rolls c.slice.ensures.samples stood.past_is
    stood.weights_are
    (λ taps' inputs' x' h long' shows begun. given.ensures.adapts taps' inputs' x' h
    (long' ∙ length-map c.args.reference.now number) shows begun) in
    rw (← c.self.view_is) adapts.outputs_are

pub returns-clause-errors : goal.returns-clause-errors
returns-clause-errors g c = λ x stands.
    let T = g.T.Sample in
    let number = T.number in
    let f = c.self.inside in
    let given = c.adapt_block in
    let inputs = map number c.args.input.now in
    let references = map number c.args.reference.now in
    let stood = rw (← c.self.view_is) at stands in
    let first : vec_len f.taps ≡ length f.taps.items = search rules in
    let second : vec_len f.weights ≡ length f.weights.items = search rules in
    let size : length f.weights.items ≡ length f.taps.items = omega (arith, first, second) in
    let long : length inputs ≡ length references = length-map c.args.input.now number ∙ sym c.requires.reference ∙
    sym (length-map c.args.reference.now number) in
    let adapts = block-adapts number T.format f.post_shift (number f.mu) f.taps.items f.weights.items
    c.as_mut_slice.result.now c.slice.result.now f.window c.push_block.new.self inputs references
    (map number given.new.weights) (map number given.new.outputs) (map number given.new.errors) x
    c.as_mut_slice.ensures.value size long c.push_block.ensures.rolls c.slice.ensures.samples stood.past_is
    stood.weights_are
    (λ taps' inputs' x' h long' shows begun. given.ensures.adapts taps' inputs' x' h
    (long' ∙ length-map c.args.reference.now number) shows begun) in
    rw (← c.self.view_is) adapts.errors_are

pub returns-clause-stands : goal.returns-clause-stands
returns-clause-stands g c = λ x stands.
    let T = g.T.Sample in
    let number = T.number in
    let f = c.self.inside in
    let given = c.adapt_block in
    let inputs = map number c.args.input.now in
    let references = map number c.args.reference.now in
    let stood = rw (← c.self.view_is) at stands in
    let first : vec_len f.taps ≡ length f.taps.items = search rules in
    let second : vec_len f.weights ≡ length f.weights.items = search rules in
    let size : length f.weights.items ≡ length f.taps.items = omega (arith, first, second) in
    let long : length inputs ≡ length references = length-map c.args.input.now number ∙ sym c.requires.reference ∙
    sym (length-map c.args.reference.now number) in
    let adapts = block-adapts number T.format f.post_shift (number f.mu) f.taps.items f.weights.items
    c.as_mut_slice.result.now c.slice.result.now f.window c.push_block.new.self inputs references
    (map number given.new.weights) (map number given.new.outputs) (map number given.new.errors) x
    c.as_mut_slice.ensures.value size long c.push_block.ensures.rolls c.slice.ensures.samples stood.past_is
    stood.weights_are
    (λ taps' inputs' x' h long' shows begun. given.ensures.adapts taps' inputs' x' h
    (long' ∙ length-map c.args.reference.now number) shows begun) in
    let taps = map number f.taps.items in
    let written : take (vec_len f.weights) (given.new.weights ++ drop (length given.new.weights) f.weights.items) ≡
    given.new.weights =
    take_at given.new.weights (drop (length given.new.weights) f.weights.items) (vec_len f.weights) (omega arith) in
    let past : f.window.past ≡ length taps - 1 = omega (arith, length-map f.taps.items number, first) in
    record {
      past_is =
          keeps-after f.window c.push_block.new.self (length taps - 1) (inputs_of x) inputs c.push_block.ensures.rolls
          stood.past_is past
          ∙ ap (last_of (length taps - 1)) (sym (inputs-more x inputs references));
      weights_are = ap (map number) written ∙ adapts.weights_are;
    }

pub adapt_block-requires-clause-window : goal.adapt_block-requires-clause-window
adapt_block-requires-clause-window g c =
    let number = g.T.Sample.number in
    let long = window-long number c.self.inside.window c.push_block.new.self (map number c.args.input.now)
    c.slice.result.now c.push_block.ensures.rolls c.slice.ensures.samples (omega arith) in
    omega (arith, long, length-map c.args.input.now number, c.as_mut_slice.ensures.len)

pub invariant_of-self : goal.invariant_of-self
invariant_of-self g c =
    let is = c.self.invariant in
    let rolls = c.push_block.ensures.rolls in
    let past = ap (λ (w : Rolling). w.past) rolls in
    let room = ap (λ (w : Rolling). w.room) rolls in
    let shown = sym (length-map c.slice.result.now g.T.Sample.number) ∙ ap length c.slice.ensures.samples in (
      ap (λ n. n + 1) past ∙ is.0,
      is.1,
      is.2,
      subst (λ n. n ≤ MAX_SAMPLES) (sym room) is.3,
      subst (λ n. c.push_block.new.self.past ≤ n) shown c.slice.ensures.past,
    )

pub returns-clause-same : goal.returns-clause-same
returns-clause-same g c =
    let view = c.self.view_is in
    let number = g.T.Sample.number in
    let f = c.self.inside in
    let w = c.push_block.new.self in
    let given = c.adapt_block.new.weights in
    let weights = map number (take (vec_len f.weights) (given ++ drop (length given) f.weights.items)) in
    changed (record {
      post_shift = f.post_shift;
      mu = number f.mu;
      taps = map number f.taps.items;
      weights =
          weights;
      past = last_samples w.past w.samples;
      block = w.room;
    }) c.args.self.now
    (ap (λ (s : LmsState). s.post_shift) view) (ap (λ (s : LmsState). s.mu) view) (ap (λ (s : LmsState). s.taps) view)
    (ap (λ (w : Rolling). w.room) c.push_block.ensures.rolls ∙ ap (λ (s : LmsState). s.block) view)

pub returns-clause-past : goal.returns-clause-past
returns-clause-past g c =
    let rolls = c.push_block.ensures.rolls in
    let shown = sym (length-map c.slice.result.now g.T.Sample.number) ∙ ap length c.slice.ensures.samples in
    past-long c.push_block.new.self (subst (λ n. c.push_block.new.self.past ≤ n) shown c.slice.ensures.past)
    ∙ ap (λ (w : Rolling). w.past) rolls
    ∙ sym (past-long c.self.inside.window c.self.invariant.4)
    ∙ ap (λ (s : LmsState). length s.past) c.self.view_is

pub returns-clause-weights : goal.returns-clause-weights
returns-clause-weights g c =
    let number = g.T.Sample.number in
    let f = c.self.inside in
    let new = c.adapt_block.new.weights in
    let view_len : vec_len f.weights ≡ length f.weights.items = search rules in
    let same : length new ≡ length f.weights.items = c.adapt_block.auto.weights ∙
    ap length c.as_mut_slice.ensures.value in
    ap (λ l. length (map number l)) (take_at new (drop (length new) f.weights.items) (vec_len f.weights)
    (same ∙ sym view_len))
    ∙ length-map new number ∙ same ∙ sym (length-map f.weights.items number)
    ∙ ap (λ (s : LmsState). length s.weights) c.self.view_is

-- as many weights as the filter has taps
many : (g : _) (c : goal.After-error-1 g) → length c.as_mut_slice.result.now ≡ length c.args.self.now.taps
many g c =
    let f = c.self.inside in
    let first : vec_len f.taps ≡ length f.taps.items = search rules in
    c.as_mut_slice.ensures.len ∙ c.self.invariant.1 ∙ first ∙ sym (length-map f.taps.items g.T.Sample.number) ∙
    ap (λ (s : LmsState). length s.taps) c.self.view_is

pub returns-clause-multiplies : goal.returns-clause-multiplies
returns-clause-multiplies g c = c.adapt_block.ensures.steps.multiplies_rise ∙
    (λ i. c.args.steps.now.multiplies + c.requires.reference i * (2 * many g c i + 1))

pub returns-clause-turns : goal.returns-clause-turns
returns-clause-turns g c =
    subst (λ (n : ℕ). c.adapt_block.new.steps.turns ≤ c.args.steps.now.turns + n)
    (λ i. c.requires.reference i * (2 * many g c i + 1)) c.adapt_block.ensures.steps.turns_within

pub adapt_block-requires-clause-some : goal.adapt_block-requires-clause-some
adapt_block-requires-clause-some g c = omega (arith, c.as_mut_slice.ensures.len, c.self.invariant.0, c.self.invariant.1)

pub adapt_block-requires-clause-outputs : goal.adapt_block-requires-clause-outputs
adapt_block-requires-clause-outputs g c = c.requires.output ∙ sym c.requires.reference

pub adapt_block-requires-clause-errors : goal.adapt_block-requires-clause-errors
adapt_block-requires-clause-errors g c = c.requires.error ∙ sym c.requires.reference
