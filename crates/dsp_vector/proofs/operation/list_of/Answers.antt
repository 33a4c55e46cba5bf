use Rattle.std.proofs.Common.{◌∙◌, sym, pos, [], ◌∷◌, ◌++◌, rules, take_all, SFits, to_z-of_z, w32}
use Rattle.std.proofs.lemmas.List.{take_more}
use Rattle.dsp_defs.specs.Signal.{sample}
use Rattle.dsp_vector.proofs.operation.list_of.Goals as goal

pub loop-number-preserved : goal.loop-number-preserved
loop-number-preserved c =
    let k = c.loop-number.number-index in
    let fits : SFits w32 (sample c.args.numbers.now k) = search rules in
    c.in_ok-push.ensures.ok ∙ (λ i. c.loop-number.invariant i ++ (to_z-of_z fits i ∷ [])) ∙
    sym (take_more c.args.numbers.now k (pos 0) c.loop-number-test.true)

pub returns : goal.returns
returns c = c.loop-number.invariant ∙ take_all c.loop-number.number-index c.args.numbers.now c.loop-number-test.false
