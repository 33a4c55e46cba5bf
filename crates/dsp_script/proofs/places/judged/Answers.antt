use Rattle.std.proofs.Common.{◌≡◌, get_or, pos, arith, rules, to_z, of_z}
use Rattle.std.specs.Int.{w128}
use Rattle.std.proofs.lemmas.Result.{err_from_is_err_and}
use Rattle.dsp_script.proofs.Loops.{judged_goes_on, judged_fails}
use Rattle.dsp_defs.specs.Places.{judged}
use Rattle.dsp_script.proofs.places.judged.Goals as goal

pub returns-in_err-next_number : goal.returns-in_err-next_number
returns-in_err-next_number c =
    let p = err_from_is_err_and c.from_residual.result c.from_residual.ensures.1 in
    let same : to_z w128 (of_z w128 c.from.result) ≡ get_or c.args.numbers.now c.loop-count.count (pos 0) =
    search rules in
    rw (p.1, p.2) (judged_fails c.args.rule c.loop-count.count c.args.item.now.offset c.args.numbers.now _
    c.in_err-next_number.field-0.0 (judged c.args.rule 0 c.args.item.now.offset c.args.numbers.now) (omega arith)
    same c.in_err-next_number.ensures.value c.loop-count.invariant)

pub loop-count-preserved : goal.loop-count-preserved
loop-count-preserved c =
    let same : to_z w128 (of_z w128 c.from.result) ≡ get_or c.args.numbers.now c.loop-count.count (pos 0) =
    search rules in
    judged_goes_on c.args.rule c.loop-count.count c.args.item.now.offset c.args.numbers.now _ _
    (judged c.args.rule 0 c.args.item.now.offset c.args.numbers.now) (omega arith) same
    c.in_ok-next_number.ensures.value c.loop-count.invariant
