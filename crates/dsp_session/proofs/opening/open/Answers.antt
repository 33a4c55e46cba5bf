use Rattle.std.proofs.lemmas.Result.{err_from_is_err_and}
use Rattle.dsp_session.proofs.OpenLaws as laws
use Rattle.dsp_session.proofs.opening.open.Goals as goal

pub returns-in_err-header-clause-err : goal.returns-in_err-header-clause-err
returns-in_err-header-clause-err g c banked block counts ready =
    let (error, is, same) = err_from_is_err_and c.from_residual.result c.from_residual.ensures.1 in
    rw (is, same) (laws.stops_untaken banked c.args.script.now block counts ready _ _ _ _ c.in_err-header.ensures.err)

pub returns-in_err-header-clause-unfed : goal.returns-in_err-header-clause-unfed
returns-in_err-header-clause-unfed g c s =
    let (error, is, same) = err_from_is_err_and c.from_residual.result c.from_residual.ensures.1 in
    rw (is, same) (laws.untaken_stays _ c.args.script.now _ _ s c.in_err-header.ensures.err)

pub returns-in_err-write_output_header-clause-err : goal.returns-in_err-write_output_header-clause-err
returns-in_err-write_output_header-clause-err g c banked block counts ready =
    let (error, is, same) = err_from_is_err_and c.from_residual-in_err-write_output_header.result
    c.from_residual-in_err-write_output_header.ensures.1 in
    let (count, output, less, took) = c.in_err-write_output_header.ensures.err in
    rw (is, same, output)
    (laws.stops_unwritten c.args.script.now block counts ready _ _ _ _ c.in_ok-header.ensures.ok banked
    c.in_ok-header.ensures.fits _ count less took c.in_err-write_output_header.ensures.faults)

pub returns-in_err-write_output_header-clause-unfed : goal.returns-in_err-write_output_header-clause-unfed
returns-in_err-write_output_header-clause-unfed g c s =
    let (error, is, same) = err_from_is_err_and c.from_residual-in_err-write_output_header.result
    c.from_residual-in_err-write_output_header.ensures.1 in
    let (count, output, less, took) = c.in_err-write_output_header.ensures.err in
    rw (is, same, output) tt
