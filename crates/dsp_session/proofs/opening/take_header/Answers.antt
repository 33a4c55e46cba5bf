use Rattle.std.proofs.Common.{sym, subst, refl, IsNone}
use Rattle.std.proofs.lemmas.Result.{err_from_is_err_and}
use Rattle.dsp_session.specs.Opening.{NoHeader, LongOutput}
use Rattle.dsp_session.proofs.OpenLaws as laws
use Rattle.dsp_session.proofs.opening.take_header.Goals as goal

pub returns-in_err-header-clause-err : goal.returns-in_err-header-clause-err
returns-in_err-header-clause-err g c =
    let (error, is, gives) = err_from_is_err_and c.from_residual.result c.from_residual.ensures.1 in
    rw is (NoHeader _ gives c.in_err-header.ensures.err)

pub returns-in-Some-clause-err : goal.returns-in-Some-clause-err
returns-in-Some-clause-err g c =
    rw c.from.ensures (LongOutput _ _ c.in_ok-header.ensures.ok refl
    (rw c.known_frames.ensures at c.in-Some.ensures.some))

pub returns-in-None-clause-fits : goal.returns-in-None-clause-fits
returns-in-None-clause-fits g c =
    laws.fits_known c.args.script.now c.in_ok-header.header _ c.known_frames.ensures
    (c.long_riff.ensures.none (subst IsNone (sym c.in-None.is) refl))
