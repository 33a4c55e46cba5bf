use Rattle.std.proofs.Common.{◌≡◌, ◌∙◌, ◌+◌, ℕ, map, subst, arith, below_more}
use Rattle.std.proofs.lemmas.List.{length-map}
use Rattle.dsp_matrix.specs.Turning.{IsTurned}
use Rattle.dsp_matrix.proofs.Turned.{turned-whole}
use Rattle.dsp_matrix.proofs.calls.mat_trans.Goals as goal

pub rest-preserved : goal.rest-preserved
rest-preserved g c =
    let number = g.T.Sample.number in
    let row = c.rest.row in
    let before = c.rest.invariant in
    let turned = c.turn_rows-in-rest.ensures in
    let IsNow : ℕ → ℕ → Type 0 = IsTurned c.args.rows c.args.columns (map number c.args.a.now)
    (map number c.turn_rows-in-rest.new.out) in
    let same : row + 0 ≡ row = omega arith in
    record {
      within = omega arith;
      turned = λ i j few below. below_more (λ (r : ℕ). IsNow r j) row
          (λ r sooner. turned.kept r j (omega arith) (before.turned r j sooner below))
          (subst (λ (r : ℕ). IsNow r j) same (turned.turned 0 j (omega arith) below)) i few;
    }

pub returns : goal.returns
returns g c =
    let number = g.T.Sample.number in
    let out = c.rest.out in
    turned-whole c.args.rows c.args.columns (map number c.args.a.now) (map number out)
    (length-map out number ∙ c.rest.auto.out ∙ c.fours.auto.out ∙ c.requires.out)
    (λ i j few below. c.rest.invariant.turned i j (omega arith) below)
