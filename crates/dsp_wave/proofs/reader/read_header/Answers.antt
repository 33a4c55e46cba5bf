use Rattle.std.proofs.Common.{◌+◌, length, Some, None, refl}
use Rattle.std.proofs.lemmas.Result.{err_from_is_err_and}
use Rattle.dsp_defs.specs.Wave.{header_of}
use Rattle.dsp_wave.specs.Reading.{said_from}
use Rattle.dsp_wave.specs.Taking.{said_behind}
use Rattle.dsp_wave.proofs.StartLaws as start_laws
use Rattle.dsp_wave.proofs.FirstFormat as first
use Rattle.dsp_wave.proofs.reader.read_header.Goals as goal

pub returns-in_err-read_riff-clause-err : goal.returns-in_err-read_riff-clause-err
returns-in_err-read_riff-clause-err g c =
    let (error, is, same) = err_from_is_err_and c.from_residual.result c.from_residual.ensures.1 in
    rw (is, same) (c.in_err-read_riff.ensures.err (λ bytes. header_of bytes c.args.wanted)
    (λ bytes. (c.args.wanted, refl)))

pub returns-in_err-head-clause-err : goal.returns-in_err-head-clause-err
returns-in_err-head-clause-err g c =
    let (error, is, same) = err_from_is_err_and c.from_residual-in_err-head.result
    c.from_residual-in_err-head.ensures.1 in
    let wanted = c.args.wanted in
    rw (is, same) (first.stops_behind wanted _ _ _ c.in_ok-read_riff.ensures.ok _
    (c.in_err-head.ensures.err (said_from wanted 12 None) (λ bytes. (wanted, refl))))

pub returns-in_err-known-clause-err : goal.returns-in_err-known-clause-err
returns-in_err-known-clause-err g c =
    let (error, is, same) = err_from_is_err_and c.from_residual-in_err-known.result
    c.from_residual-in_err-known.ensures.1 in
    let wanted = c.args.wanted in
    let found = c.in_ok-head.ensures.ok in
    rw (is, same)
    (first.stops_behind wanted _ _ _ c.in_ok-read_riff.ensures.ok _
    (start_laws.stopped_sooner (said_from wanted 12 None) (said_behind wanted c.in_ok-head.field-0.offset
    c.in_ok-head.field-0.head) 12 (length found.bytes)
    (c.in_ok-head.field-0.offset + 8) found.here _ _ _ found.bytes found.came (found.said wanted) _
    c.in_err-known.ensures.err))

pub returns-in_err-header-clause-err : goal.returns-in_err-header-clause-err
returns-in_err-header-clause-err g c =
    let (error, is, same) = err_from_is_err_and c.from_residual-in_err-header.result
    c.from_residual-in_err-header.ensures.1 in
    let wanted = c.args.wanted in
    let riff = c.in_ok-read_riff.ensures.ok in
    let found = c.in_ok-head.ensures.ok in
    let read = c.in_ok-known.ensures.ok in
    let head = c.in_ok-head.field-0 in
    rw (is, same)
    (start_laws.stopped_sooner (λ bytes. header_of bytes wanted)
    (said_from wanted (first.behind _ _ _ _ riff head found read.body read.came) (Some c.in_ok-known.known)) 0 _ _
    (first.front_ends _ _ _ _ riff head found read.body read.came) _ _ _
    (first.front _ _ _ _ riff head found read.body read.came)
    (first.front_came _ _ _ _ riff head found read.body read.came)
    (first.front_said _ _ _ _ riff head found read.body read.came wanted c.in_ok-known.known read.said) _
    (rw c.format_size.ensures at (c.in_err-header.ensures.err wanted)))

pub returns-clause-ok : goal.returns-clause-ok
returns-clause-ok g c =
    let wanted = c.args.wanted in
    let riff = c.in_ok-read_riff.ensures.ok in
    let found = c.in_ok-head.ensures.ok in
    let read = c.in_ok-known.ensures.ok in
    let head = c.in_ok-head.field-0 in
    start_laws.headed_sooner (λ bytes. header_of bytes wanted)
    (said_from wanted (first.behind _ _ _ _ riff head found read.body read.came) (Some c.in_ok-known.known)) 0 _ _
    (first.front_ends _ _ _ _ riff head found read.body read.came) _ _ _
    (first.front _ _ _ _ riff head found read.body read.came)
    (first.front_came _ _ _ _ riff head found read.body read.came)
    (first.front_said _ _ _ _ riff head found read.body read.came wanted c.in_ok-known.known read.said) _
    (rw c.format_size.ensures at (c.in_ok-header.ensures.ok wanted))
