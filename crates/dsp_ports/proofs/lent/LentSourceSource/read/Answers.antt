use Rattle.std.proofs.Common.{◌||◌, ap, arith, drop}
use Rattle.dsp_ports.proofs.Moved.{Gave-copied}
use Rattle.dsp_ports.proofs.lent.LentSourceSource.read.Goals as goal

pub returns-clause-gave : goal.returns-clause-gave
returns-clause-gave c =
    let rest = drop c.min-count.result c.args.into.now in
    rw (← c.self.view_is) (Gave-copied c.self.inside.bytes.now c.self.inside.position c.min-count.result 0 0
    _ _ _ _ c.copy_from_slice.new.self rest (omega arith) c.copy_from_slice.ensures.after
    (ap (λ none. c.self.inside.strayed || (c.self.inside.ended || none)) c.is_empty.ensures))
