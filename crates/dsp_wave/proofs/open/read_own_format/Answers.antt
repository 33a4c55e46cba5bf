use Rattle.std.proofs.Common.{◌≡◌, ◌+◌, ◌++◌, ◌∙◌, take, length, refl, sym, ap, arith, None}
use Rattle.std.proofs.lemmas.Result.{err_from_is_err_and}
use Rattle.dsp_defs.specs.Wave.{chunks_behind}
use Rattle.dsp_defs.specs.Open.{wanted_in}
use Rattle.dsp_wave.specs.Reading.{said_from}
use Rattle.dsp_wave.specs.Taking.{said_behind}
use Rattle.dsp_wave.specs.Opening.{own_said_behind}
use Rattle.dsp_wave.proofs.StartLaws as start_laws
use Rattle.dsp_wave.proofs.OpenLaws as open_laws
use Rattle.dsp_wave.proofs.FirstFormat.{wants_format}
use Rattle.dsp_wave.proofs.open.read_own_format.Goals as goal

pub returns-in_err-count-clause-err : goal.returns-in_err-count-clause-err
returns-in_err-count-clause-err g c =
    let (error, is, same) = err_from_is_err_and c.from_residual.result c.from_residual.ensures.1 in
    let head = c.args.head.now in
    rw (is, same) (c.in_err-count.ensures.err (own_said_behind c.args.offset head)
    (λ bytes. (wanted_in (chunks_behind 0 c.args.offset (head ++ bytes)), refl)))

pub returns-in_err-known-clause-err : goal.returns-in_err-known-clause-err
returns-in_err-known-clause-err g c =
    let (error, is, same) = err_from_is_err_and c.from_residual-in_err-known.result
    c.from_residual-in_err-known.ensures.1 in
    let head = c.args.head.now in
    let body = take c.in_ok-count.count c.take_format.new.body in
    let (came, enough) = c.in_ok-count.ensures.ok in
    let here : c.args.offset + 8 + length body ≡ c.args.offset + 8 + c.in_ok-count.count = omega (arith, came.long) in
    rw (is, same) (start_laws.stopped_sooner (own_said_behind c.args.offset head)
    (λ more. said_behind c.own_wanted-wanted.result c.args.offset head (body ++ more)) (c.args.offset + 8)
    c.in_ok-count.count (c.args.offset + 8 + length body) here _ _ _ body came
    (λ more. ap (λ w. said_from w c.args.offset None (head ++ (body ++ more)))
    (wants_format c.args.offset head c.requires.head.long c.requires.head.id body more enough ∙
    sym c.own_wanted-wanted.ensures)) _ c.in_err-known.ensures.err)

pub returns-clause-ok : goal.returns-clause-ok
returns-clause-ok g c =
    let head = c.args.head.now in
    let body = take c.in_ok-count.count c.take_format.new.body in
    let (came, enough) = c.in_ok-count.ensures.ok in
    let read = c.in_ok-known.ensures.ok in
    let second = rw came.long at read.came in
    let wanted = c.own_wanted-wanted.result in
    rw read.known_is (open_laws.own_read c.args.offset head c.requires.head.long c.requires.head.id body enough wanted
    c.own_wanted-wanted.ensures read.good c.in_ok-count.count came.long _ _ _ read.rest came second)
