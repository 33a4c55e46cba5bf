use Rattle.std.proofs.Common.{◌≡◌, ◌∙◌, ap, sym, subst, rules, ◌+◌, ◌++◌, [], ◌∷◌, pos, length, take, Some, false}
use Rattle.std.proofs.Common.{arith, length-append, length-take, append_assoc, SFits, to_z-of_z}
use Rattle.std.proofs.lemmas.List.{take_more, take_all}
use mir.Syntax.{w32}
use Rattle.dsp_defs.specs.Signal.{sample}
use Rattle.dsp_measure.specs.Extremes.{better_behind, extreme, wins, IsFound}
use Rattle.dsp_measure.proofs.ExtremeLaws.{extreme-kept, extreme-more, found-more}
use Rattle.dsp_measure.proofs.extreme.best_of.Goals as goal
use Rattle.dsp_sat.proofs.WideProducts.{word-in-32}

pub loop-n-preserved : goal.loop-n-preserved
loop-n-preserved g c =
    let format = g.T.Sample.format in
    let least = g.O.Order.least in
    let count = c.args.count in
    let n = c.loop-n.n in
    let v = c.number-value.result in
    let word : SFits w32 v = search rules in
    let won : c.better.result ≡ better_behind least c.loop-n.best v (count + n) = c.better.ensures ∙
    ap (λ a. better_behind least c.loop-n.best a (count + n)) (to_z-of_z word) in
    record {
      found = subst (λ b. IsFound format (Some b) (count + (n + 1))) (sym won)
          (found-more format least c.loop-n.best (count + n) (count + (n + 1)) v (omega arith) c.loop-n.invariant.found
          c.number-value.ensures.fits);
      stands = λ x y found counted size is. (
          let inside = c.loop-n-test.true in
          let value : v ≡ sample y n = c.number-value.ensures.value ∙ is n c.at.result inside c.at.ensures in
          let before : c.loop-n.best ≡ extreme least (x ++ take n y) =
          c.loop-n.invariant.stands x y found counted size is in
          let place : count + n ≡ length (x ++ take n y) =
          omega (arith, counted, size, inside, length-append x (take n y), length-take n y) in
          ap Some won
          ∙ (λ i. Some (better_behind least (before i) (value i) (place i)))
          ∙ sym (extreme-more least (x ++ take n y) (sample y n))
          ∙ ap (extreme least) (append_assoc x (take n y) (sample y n ∷ []) ∙
          ap (λ l. x ++ l) (sym (take_more y n (pos 0) (omega (arith, inside, size))))));
    }

pub returns-clause-stands : goal.returns-clause-stands
returns-clause-stands g c = λ x y found counted size is.
    let none : c.any_wins.result ≡ false = search rules in
    let least = g.O.Order.least in
    let format = g.T.Sample.format in
    let best = c.in-Some.best in
    let there : Some best ≡ extreme least x = sym c.in-Some.is ∙ found in
    let held : IsFound format (Some best) c.args.count =
    subst (λ o. IsFound format o c.args.count) c.in-Some.is c.requires.found in
    let word = word-in-32 format best.0 held.0 in
    sym (extreme-kept least x y best (sym there) (λ n below. ap (wins least (sample y n)) (sym (to_z-of_z word)) ∙
    c.any_wins.ensures y size is none n (omega (arith, below, size))))

pub returns-2-clause-stands : goal.returns-2-clause-stands
returns-2-clause-stands g c = λ x y found counted size is.
    c.loop-n.invariant.stands x y found counted size is ∙
    ap (λ l. extreme g.O.Order.least (x ++ l)) (take_all c.loop-n.n y (omega (arith, size, c.loop-n-test.false)))
