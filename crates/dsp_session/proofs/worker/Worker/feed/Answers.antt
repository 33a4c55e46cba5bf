use Rattle.std.proofs.Common.{◌≡◌, ℕ, List, subst}
use Rattle.dsp_ports.proofs.Lending.{lent_all}
use Rattle.dsp_session.specs.Feeding.{IsFed}
use Rattle.dsp_session.proofs.worker.Worker.feed.Goals as goal

pub returns : goal.returns
returns g c =
    let from = c.in-Some.ensures.some in
    let all : from.bytes ≡ c.args.bytes.now = lent_all _ _ _ _ (rw c.new.ensures at from.gave) from.long in
    subst (λ (bytes : List ℕ). IsFed c.in-Some.fed c.args.self.now c.feed_from.new.self bytes c.args.steps.now
    c.feed_from.new.steps) all from.fed
