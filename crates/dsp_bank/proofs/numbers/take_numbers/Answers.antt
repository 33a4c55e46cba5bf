use Rattle.std.proofs.Common.{◌∙◌, ◌<◌, sym, subst, pos, get_or, length, SFits, rules}
use Rattle.std.specs.Int.{w32}
use Rattle.std.proofs.lemmas.Int.{to_z-of_z}
use Rattle.dsp_bank.proofs.Written.{sample-more}
use Rattle.dsp_bank.proofs.numbers.take_numbers.Goals as goal

pub loop-k-preserved : goal.loop-k-preserved
loop-k-preserved g c =
    let k = c.loop-k.k in
    let inside : c.loop-k.k < length c.args.numbers.now = c.loop-k-test.true in
    let room = subst (λ n. k < n) (sym (c.loop-k.auto.samples ∙ c.requires.size)) inside in
    let fits : SFits w32 (get_or c.args.numbers.now c.loop-k.k (pos 0)) = search rules in
    sample-more g.T.Sample.number c.loop-k.samples c.args.numbers.now k c.of_number.result room inside
    (c.of_number.ensures ∙ to_z-of_z w32 (get_or c.args.numbers.now k (pos 0)) fits) c.loop-k.invariant
