use Rattle.std.proofs.Common.{[], ◌∷◌}
use Rattle.dsp_unit.proofs.GoingOn.{goes-chain}
use Rattle.dsp_filter.proofs.chain.PairMachine.step.Goals as goal

pub returns-clause-goes : goal.returns-clause-goes
returns-clause-goes g c =
    let A = g.A.Machine in
    let B = g.B.Machine in
    let number = g.T.Sample.number in
    let first = c.args.self.now.first in
    let second = c.args.self.now.second in
    goes-chain (A.acts first).gives (B.acts second).gives (A.acts first).keeps (B.acts second).keeps (A.kept first)
    (A.kept c.step-between.new.self) (B.kept second) (B.kept c.step.new.self)
    (number c.args.x ∷ []) (number c.step-between.result ∷ []) (number c.step.result ∷ [])
    (g.met.A.Machine.size first) c.step-between.ensures.goes c.step.ensures.goes
