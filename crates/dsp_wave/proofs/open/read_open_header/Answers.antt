use Rattle.std.proofs.Common.{◌+◌, length, refl}
use Rattle.std.proofs.lemmas.Result.{err_from_is_err_and}
use Rattle.dsp_defs.specs.Wave.{chunks_behind}
use Rattle.dsp_defs.specs.Open.{wanted_by, wanted_in}
use Rattle.dsp_wave.specs.Opening.{own_header_of, own_said_behind, own_said_from}
use Rattle.dsp_wave.proofs.StartLaws as start_laws
use Rattle.dsp_wave.proofs.OpenLaws as open_laws
use Rattle.dsp_wave.proofs.open.read_open_header.Goals as goal

pub returns-in_err-read_riff-clause-err : goal.returns-in_err-read_riff-clause-err
returns-in_err-read_riff-clause-err g c =
    let (error, is, same) = err_from_is_err_and c.from_residual.result c.from_residual.ensures.1 in
    rw (is, same) (c.in_err-read_riff.ensures.err own_header_of (λ bytes. (wanted_by bytes, refl)))

pub returns-in_err-head-clause-err : goal.returns-in_err-head-clause-err
returns-in_err-head-clause-err g c =
    let (error, is, same) = err_from_is_err_and c.from_residual-in_err-head.result
    c.from_residual-in_err-head.ensures.1 in
    rw (is, same) (open_laws.own_stops _ _ _ c.in_ok-read_riff.ensures.ok _
    (c.in_err-head.ensures.err (own_said_from 12) (λ bytes. (wanted_in (chunks_behind 0 12 bytes), refl))))

pub returns-in_err-wanted-clause-err : goal.returns-in_err-wanted-clause-err
returns-in_err-wanted-clause-err g c =
    let (error, is, same) = err_from_is_err_and c.from_residual-in_err-wanted.result
    c.from_residual-in_err-wanted.ensures.1 in
    let found = c.in_ok-head.ensures.ok in
    let head = c.in_ok-head.field-0 in
    rw (is, same)
    (open_laws.own_stops _ _ _ c.in_ok-read_riff.ensures.ok _
    (start_laws.stopped_sooner (own_said_from 12) (own_said_behind head.offset head.head) 12 (length found.bytes)
    (head.offset + 8) found.here _ _ _ found.bytes found.came
    (λ more. open_laws.own_behind found.bytes head.offset head.head more (λ w. found.said w more) (found.wants more))
    _ c.in_err-wanted.ensures.err))

pub returns-in_err-header-clause-err : goal.returns-in_err-header-clause-err
returns-in_err-header-clause-err g c =
    let (error, is, same) = err_from_is_err_and c.from_residual-in_err-header.result
    c.from_residual-in_err-header.ensures.1 in
    rw (is, same)
    (open_laws.open_stopped _ _ _ _ _ c.in_ok-read_riff.ensures.ok c.in_ok-head.field-0 c.in_ok-head.ensures.ok
    c.in_ok-wanted.wanted c.in_ok-wanted.known
    c.in_ok-wanted.ensures.ok _ (rw c.format_size.ensures at (c.in_err-header.ensures.err c.in_ok-wanted.wanted)))

pub returns-clause-ok : goal.returns-clause-ok
returns-clause-ok g c =
    rw c.opened.ensures
    (open_laws.open_headed _ _ _ _ _ c.in_ok-read_riff.ensures.ok c.in_ok-head.field-0 c.in_ok-head.ensures.ok
    c.in_ok-wanted.wanted c.in_ok-wanted.known
    c.in_ok-wanted.ensures.ok _ (rw c.format_size.ensures at (c.in_ok-header.ensures.ok c.in_ok-wanted.wanted)))
