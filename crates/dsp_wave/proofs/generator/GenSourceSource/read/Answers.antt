use Rattle.std.proofs.Common.{◌||◌, ap, arith, drop, length, length-take, length-drop, ◌+◌, ◌-◌, ◌≤◌, [], ◌∷◌, ◌++◌, ℕ}
use Rattle.std.proofs.Common.{List, if◌then◌else◌}
use Rattle.dsp_wave.specs.Generated.{made}
use Rattle.dsp_wave.proofs.GeneratorLemmas.{Gave-ready}
use Rattle.dsp_wave.proofs.generator.GenSourceSource.read.Goals as goal

pub returns-clause-gave : goal.returns-clause-gave
returns-clause-gave c =
    let pieces = c.refill.new.self in
    let last : List ℕ = made pieces.container pieces.format pieces.state pieces.samples ++
    (if pieces.has_pad then (0 ∷ []) else []) in
    let copied = rw c.deref.ensures.0 at c.copy_from_slice.ensures.after in
    let size = ap length c.deref.ensures.0 in
    let all = c.deref.result.now in
    let fits : pieces.given + c.min-count.result ≤ length pieces.ready.items =
    omega (
      arith,
      size,
      c.refill.ensures.within,
      c.min-count.ensures,
      length-take (length all - pieces.given) (drop pieces.given all),
      length-drop pieces.given all,
    ) in
    let rest = drop c.min-count.result c.args.into.now in
    rw (← c.self.view_is, ← c.refill.ensures.same) (Gave-ready pieces.ready.items pieces.given c.min-count.result
    c.self.inside.taken _ _ _ _ last c.copy_from_slice.new.self rest fits copied
    (ap (λ none. c.self.inside.strayed || (c.self.inside.ended || none)) c.is_empty.ensures))
