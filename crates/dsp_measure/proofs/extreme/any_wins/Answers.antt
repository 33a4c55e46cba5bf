use Rattle.std.proofs.Common.{◌≡◌, ◌∙◌, ap, sym, ◌<◌, ◌≤◌, rules, arith, SFits, to_z-of_z, to_z, of_z, ⊎_elim}
use Rattle.std.proofs.lemmas.Bool.{cases_lt}
use mir.Syntax.{w32}
use Rattle.dsp_defs.specs.Signal.{sample}
use Rattle.dsp_measure.specs.Extremes.{wins}
use Rattle.dsp_measure.proofs.ExtremeLaws.{neither}
use Rattle.dsp_measure.proofs.extreme.any_wins.Goals as goal

pub loop-n-preserved : goal.loop-n-preserved
loop-n-preserved g c = λ y size is none k below.
    let least = g.O.Order.least in
    let n = c.loop-n.n in
    let v = c.number.result in
    let best = to_z w32 (of_z w32 c.args.best) in
    let word : SFits w32 v = search rules in
    let both = neither c.loop-n.any c.wins-any.result none in
    ⊎_elim
    (λ (before : k < n). c.loop-n.invariant y size is both.0 k before)
    (λ (here : n ≤ k).
    let same : k ≡ n = omega (arith, below, here) in
    let value : sample y k ≡ to_z w32 (of_z w32 v) = ap (sample y) same ∙
    sym (is n c.at.result c.loop-n-test.true c.at.ensures) ∙ sym c.number.ensures.value ∙ sym (to_z-of_z word) in
    ap (λ z. wins least z best) value ∙ sym c.wins-any.ensures ∙ both.1)
    (cases_lt k n)
