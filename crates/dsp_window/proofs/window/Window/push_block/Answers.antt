use Rattle.std.proofs.Common.{◌≡◌, ◌+◌, ◌-◌, ◌++◌, length, map, take, drop, arith, ap, subst, sym, ◌∙◌, vec_len}
use Rattle.dsp_defs.specs.Streaming.{last_of}
use Rattle.dsp_window.specs.Rolling.{Rolling, last_samples}
use Rattle.dsp_window.proofs.Rolls.{rolled, last_shows}
use Rattle.dsp_window.proofs.window.Window.push_block.Goals as goal

pub returns-clause-rolls : goal.returns-clause-rolls
returns-clause-rolls g c =
    let number = g.T.Sample.number in
    let w = c.self.inside in
    let s = w.samples.items in
    let after = c.roll.new.samples in
    let block = c.args.block.now in
    let n = length block in
    let p = w.past in
    let len = vec_len w.samples in
    let lent = c.deref_mut.ensures in
    let stored : length s ≡ len = ap length (sym lent.value) ∙ lent.len in
    let kept : length after ≡ len = omega arith in
    let shown = map number (take (p + n) (take len (after ++ drop (length after) s))) in
    let is : shown ≡ last_samples p (map number (take w.filled s)) ++ map number block =
    rolled number p w.filled n len s c.deref_mut.result.now after block c.self.invariant.0
    (omega (arith, c.self.invariant.1)) lent.value kept c.roll.ensures in
    let P : Rolling → Type 0 = λ v. ◌≡◌ {A = Rolling} (record { past = p; room = len - p; samples = shown })
    (record { past = v.past; room = v.room; samples = last_samples v.past v.samples ++ map number block }) in
    subst P c.self.view_is (λ i. record { past = p; room = len - p; samples = is i })

pub returns-clause-shows : goal.returns-clause-shows
returns-clause-shows g c = λ before last shows.
    let block = map g.T.Sample.number c.args.block.now in
    let past : c.args.self.now.past ≡ c.self.inside.past = sym (ap (λ v. v.past) c.self.view_is) in
    ap (λ w. w.samples) (returns-clause-rolls g c)
    ∙ ap (λ l. l ++ block) (last_shows c.args.self.now.past c.args.self.now.samples before last shows ∙
    ap (λ p. last_of p (before ++ last)) past)
