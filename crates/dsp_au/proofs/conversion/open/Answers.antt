use Rattle.std.proofs.lemmas.Result.{err_from_is_err_and}
use Rattle.dsp_au.proofs.EndLaws as laws
use Rattle.dsp_au.proofs.conversion.open.Goals as goal

pub returns-in_err-header-clause-err : goal.returns-in_err-header-clause-err
returns-in_err-header-clause-err g c =
    let (error, is, same) = err_from_is_err_and c.from_residual.result c.from_residual.ensures.1 in
    rw (is, same) (laws.stops_unopened c.args.direction _ _ _ _ c.in_err-header.ensures.err)

pub returns-in-Some-clause-err : goal.returns-in-Some-clause-err
returns-in-Some-clause-err g c = laws.stops_too_long c.args.direction _ _ _ _ c.in_ok-header.ensures.ok _
    c.in-Some.ensures.some

pub returns-in-Err-clause-err : goal.returns-in-Err-clause-err
returns-in-Err-clause-err g c =
    let (count, less, took) = c.in-Err.ensures.took in
    laws.stops_unwritten c.args.direction _ _ _ _ c.in_ok-header.ensures.ok count less _ took c.in-Err.ensures.faults
