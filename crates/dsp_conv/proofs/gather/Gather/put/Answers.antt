use Rattle.std.proofs.Common.{◌≡◌, ◌∙◌, ap, sym, ◌+◌, ◌++◌, refl, length, map, take, drop, vec_len, rules, arith}
use Rattle.std.proofs.Common.{take_at, ℕ, ℤ, List, ◌≤◌, length-take-le}
use Rattle.std.proofs.lemmas.Bool.{false≢true}
use Rattle.std.proofs.lemmas.List.{length-map, map-append}
use Rattle.dsp_conv.proofs.gather.Gather.put.Goals as goal

-- as many samples are held as are seen
counted : {X : Type 0} (number : X → ℤ) (held size : ℕ) (items : List X) (seen : List ℤ) → held ≤ size
    → size ≡ length items → map number (take held items) ≡ seen → held ≡ length seen
counted number held size items seen few long is =
    sym (length-take-le held items (omega arith)) ∙ sym (length-map (take held items) number) ∙ ap length is

pub returns-then-input-held-clause-held : goal.returns-then-input-held-clause-held
returns-then-input-held-clause-held g c =
    let d = c.self.inside in
    counted g.T.Sample.number d.held (vec_len d.samples) d.samples.items c.args.self.now
    (omega (arith, c.self.invariant.0, c.self.invariant.1)) (search rules) c.self.view_is

pub returns-then-input-held-clause-full : goal.returns-then-input-held-clause-full
returns-then-input-held-clause-full g c =
    let held = returns-then-input-held-clause-held g c in
    (λ _. omega (arith, held, c.if-input-held.true), λ _. refl)

pub returns-clause-full : goal.returns-clause-full
returns-clause-full g c =
    let d = c.self.inside in
    let held = counted g.T.Sample.number d.held (vec_len d.samples) d.samples.items c.args.self.now
    (omega (arith, c.self.invariant.0, c.self.invariant.1)) (search rules) c.self.view_is in
    (λ e. absurd (false≢true e), λ more. absurd (omega (arith, more, held, c.if-input-held.false, c.self.invariant.1)))

pub returns-clause-taken : goal.returns-clause-taken
returns-clause-taken g c =
    let number = g.T.Sample.number in
    let d = c.self.inside in
    let input = c.args.input.now in
    let after = c.put_behind.new.samples in
    let view_len : vec_len d.samples ≡ length d.samples.items = search rules in
    let kept : length after ≡ length d.samples.items = omega
    (arith, c.put_behind.auto.samples, c.deref_mut.ensures.len, view_len) in
    ap (λ l. map number (take (d.held + length input) l))
    (take_at after (drop (length after) d.samples.items) _ (kept ∙ sym view_len))
    ∙ ap (map number) (c.put_behind.ensures ∙ ap (λ l. take d.held l ++ input) c.deref_mut.ensures.value)
    ∙ map-append number (take d.held d.samples.items) input
    ∙ ap (λ l. l ++ map number input) c.self.view_is

pub returns-then-input-held-clause-refused : goal.returns-then-input-held-clause-refused
returns-then-input-held-clause-refused g c = refl
