use Rattle.std.proofs.Common.{◌≡◌, ◌≤◌, ◌+◌, ◌-◌, ◌++◌, ◌∙◌, ap, sym, subst, length-take-le, map, length, take, drop}
use Rattle.std.proofs.Common.{take_at, reverse, arith, rules, vec_len}
use Rattle.std.proofs.lemmas.List.{length-map}
use Rattle.dsp_defs.specs.Formats.{word}
use Rattle.dsp_defs.specs.Kept.{IsOfKind}
use Rattle.dsp_unit.proofs.ChannelKept.{length-words, fit-words}
use Rattle.dsp_defs.specs.declared.limits.TheConstants.{MAX_SAMPLES}
use Rattle.dsp_window.specs.Rolling.{Rolling, last_samples}
use Rattle.dsp_adapt.specs.LmsState.{LmsState}
use Rattle.dsp_adapt.proofs.LmsMaking.{changed, past-long}
use Rattle.dsp_adapt.proofs.LmsSteps.{kept-stands, restored-kept}
use Rattle.dsp_adapt.proofs.lms.Lms.restore.Goals as goal

pub restore_parts-requires-clause-length : goal.restore_parts-requires-clause-length
restore_parts-requires-clause-length g c =
    let f = c.self.inside in
    let count = length c.args.self.now.taps - 1 + length c.args.self.now.taps in
    let size : length c.args.numbers.now ≡ count = length-words IsOfKind (word g.T.Sample.format) count
    c.args.numbers.now c.requires.fits in
    let view_len : vec_len f.taps ≡ length f.taps.items = search rules in
    let taps : length c.args.self.now.taps ≡ length f.taps.items =
    ap (λ (s : LmsState). length s.taps) (sym c.self.view_is) ∙ length-map f.taps.items g.T.Sample.number in
    omega (arith, size, taps, view_len)

pub restore_parts-requires-clause-samples : goal.restore_parts-requires-clause-samples
restore_parts-requires-clause-samples g c =
    let count = length c.args.self.now.taps - 1 + length c.args.self.now.taps in
    fit-words (word g.T.Sample.format) count c.args.numbers.now c.requires.fits

pub returns-clause-kept : goal.returns-clause-kept
returns-clause-kept g c =
    let f = c.self.inside in
    let count = length c.args.self.now.taps - 1 + length c.args.self.now.taps in
    let size : length c.args.numbers.now ≡ count = length-words IsOfKind (word g.T.Sample.format) count
    c.args.numbers.now c.requires.fits in
    let view_len : vec_len f.taps ≡ length f.taps.items = search rules in
    let taps : length c.args.self.now.taps ≡ length f.taps.items =
    ap (λ (s : LmsState). length s.taps) (sym c.self.view_is) ∙ length-map f.taps.items g.T.Sample.number in
    let within : f.window.past ≤ length c.args.numbers.now = omega (arith, size, taps, view_len) in
    let written : take (vec_len f.weights) (c.restore_parts.new.weights ++ drop (length c.restore_parts.new.weights)
    f.weights.items) ≡ c.restore_parts.new.weights =
    take_at c.restore_parts.new.weights (drop (length c.restore_parts.new.weights) f.weights.items)
    (vec_len f.weights) (omega arith) in
    ap (λ l. last_samples c.restore_parts.new.window.past c.restore_parts.new.window.samples ++ reverse
    (map g.T.Sample.number l)) written
    ∙ restored-kept f.window c.restore_parts.new.window c.args.numbers.now
    (map g.T.Sample.number c.restore_parts.new.weights) c.restore_parts.ensures.window within
    c.restore_parts.ensures.weights

-- the window has as many samples as its past
filled : (g : _) (c : goal.After-self-1 g) → length c.restore_parts.new.window.samples ≡ c.self.inside.window.past
filled g c =
    let f = c.self.inside in
    let count = length c.args.self.now.taps - 1 + length c.args.self.now.taps in
    let size : length c.args.numbers.now ≡ count = length-words IsOfKind (word g.T.Sample.format) count
    c.args.numbers.now c.requires.fits in
    let view_len : vec_len f.taps ≡ length f.taps.items = search rules in
    let taps : length c.args.self.now.taps ≡ length f.taps.items =
    ap (λ (s : LmsState). length s.taps) (sym c.self.view_is) ∙ length-map f.taps.items g.T.Sample.number in
    ap (λ (w : Rolling). length w.samples) c.restore_parts.ensures.window ∙
    length-take-le f.window.past c.args.numbers.now (omega (arith, size, taps, view_len))

past-same : (g : _) (c : goal.After-self-1 g) → length
    (last_samples c.restore_parts.new.window.past c.restore_parts.new.window.samples) ≡ c.self.inside.window.past
past-same g c =
    let past = ap (λ (w : Rolling). w.past) c.restore_parts.ensures.window in
    past-long c.restore_parts.new.window (omega (arith, past, filled g c)) ∙ past

pub invariant_of-self : goal.invariant_of-self
invariant_of-self g c =
    let is = c.self.invariant in
    let past = ap (λ (w : Rolling). w.past) c.restore_parts.ensures.window in
    let room = ap (λ (w : Rolling). w.room) c.restore_parts.ensures.window in (
      ap (λ n. n + 1) past ∙ is.0,
      is.1,
      is.2,
      subst (λ n. n ≤ MAX_SAMPLES) (sym room) is.3,
      omega (arith, past, filled g c),
    )

pub returns-clause-stands : goal.returns-clause-stands
returns-clause-stands g c = λ x e.
    let f = c.self.inside in
    let view_len : vec_len f.taps ≡ length f.taps.items = search rules in
    let size : f.window.past ≡ length (map g.T.Sample.number f.taps.items) - 1 =
    omega (arith, view_len, length-map f.taps.items g.T.Sample.number) in
    kept-stands g.T.Sample.format _ c.args.numbers.now x (past-same g c ∙ size) (returns-clause-kept g c)
    (rw (← c.self.view_is) at e)

pub returns-clause-same : goal.returns-clause-same
returns-clause-same g c =
    let view = c.self.view_is in
    let number = g.T.Sample.number in
    let f = c.self.inside in
    let w = c.restore_parts.new.window in
    let given = c.restore_parts.new.weights in
    let weights = map number (take (vec_len f.weights) (given ++ drop (length given) f.weights.items)) in
    changed (record {
      post_shift = f.post_shift;
      mu = number f.mu;
      taps = map number f.taps.items;
      weights =
          weights;
      past = last_samples w.past w.samples;
      block = w.room;
    }) c.args.self.now
    (ap (λ (s : LmsState). s.post_shift) view) (ap (λ (s : LmsState). s.mu) view) (ap (λ (s : LmsState). s.taps) view)
    (ap (λ (r : Rolling). r.room) c.restore_parts.ensures.window ∙ ap (λ (s : LmsState). s.block) view)

pub returns-clause-past : goal.returns-clause-past
returns-clause-past g c = past-same g c ∙ sym (past-long c.self.inside.window c.self.invariant.4) ∙
    ap (λ (s : LmsState). length s.past) c.self.view_is

pub returns-clause-weights : goal.returns-clause-weights
returns-clause-weights g c =
    let number = g.T.Sample.number in
    let f = c.self.inside in
    let new = c.restore_parts.new.weights in
    let view_len : vec_len f.weights ≡ length f.weights.items = search rules in
    let same : length new ≡ length f.weights.items = c.restore_parts.auto.weights ∙
    ap length c.as_mut_slice.ensures.value in
    ap (λ l. length (map number l)) (take_at new (drop (length new) f.weights.items) (vec_len f.weights)
    (same ∙ sym view_len))
    ∙ length-map new number ∙ same ∙ sym (length-map f.weights.items number)
    ∙ ap (λ (s : LmsState). length s.weights) c.self.view_is
