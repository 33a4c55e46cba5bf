use Rattle.std.proofs.Common.{◌≡◌, rules, sym, take}
use Rattle.std.proofs.lemmas.List.{take-append-drop}
use Rattle.std.proofs.lemmas.Result.{err_from_is_err_and}
use Rattle.dsp_defs.specs.Au.{form_pad, target_form}
use Rattle.dsp_au.proofs.target.close.Goals as goal

pub returns-in_err-write_all-clause-closed : goal.returns-in_err-write_all-clause-closed
returns-in_err-write_all-clause-closed g c =
    let (error, is, same) = err_from_is_err_and c.from_residual.result c.from_residual.ensures.1 in
    let pad : c.match-direction.pad.now ≡ form_pad (target_form c.args.direction) c.args.header = search rules in
    let (count, less, took) = c.in_err-write_all.ensures.took in
    rw (is, ← pad) (take count c.match-direction.pad.now, (_, sym (take-append-drop count _)), took.put)
