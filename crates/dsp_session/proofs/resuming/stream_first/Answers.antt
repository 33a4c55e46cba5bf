use Rattle.std.proofs.Common.{◌∙◌, ◌≤◌, IfSome, take, ap, sym, subst}
use Rattle.std.proofs.lemmas.Result.{err_from_is_err_and}
use Rattle.dsp_ports.specs.Ports.{Took}
use Rattle.dsp_defs.specs.Output.{declared_frames, output_header}
use Rattle.dsp_defs.specs.declared.script.Script.{Script}
use Rattle.dsp_session.specs.Opening.{Begun}
use Rattle.dsp_session.specs.SessionState.{SessionState}
use Rattle.dsp_session.proofs.OpeningLaws.{some_frame}
use Rattle.dsp_session.proofs.CodedRoom.{opened_limit, room_for, room_stays, same_script}
use Rattle.dsp_session.proofs.FirstBefore as laws
use Rattle.dsp_session.proofs.resuming.stream_first.Goals as goal

pub declared_behind-requires : goal.declared_behind-requires
declared_behind-requires g c =
    rw c.script-script.ensures.script (some_frame _ c.in_ok-header.header.coding _ c.script-script.ensures.ready)

pub pass_first-requires-clause-room : goal.pass_first-requires-clause-room
pass_first-requires-clause-room g c =
    let format = rw c.script-script.ensures.script at c.in_ok-header.ensures.coding in
    rw c.set_coding.ensures.coding (room_for c.session.inside.worker.script c.in_ok-header.header.coding _ _ format
    (c.as_mut_slice.ensures.len ∙ c.session.invariant))

pub pass_first-requires-clause-coding : goal.pass_first-requires-clause-coding
pass_first-requires-clause-coding g c = ap (λ (s : SessionState). s.coding) c.set_coding.ensures.coding

pub pass_first-requires-clause-start : goal.pass_first-requires-clause-start
pass_first-requires-clause-start g c = opened_limit _ _ _ _ c.in_ok-header.ensures.ok

pub pass_first-requires-clause-enough : goal.pass_first-requires-clause-enough
pass_first-requires-clause-enough g c =
    subst (λ (s : Script). IfSome (declared_frames s c.in_ok-header.header) (λ got. c.args.frames ≤ got))
    (c.script-script.ensures.script ∙ sym c.set_coding.ensures.same.script) c.in_default.ensures.none

pub invariant_of-session : goal.invariant_of-session
invariant_of-session g c =
    room_stays _ _ _ _ c.set_coding.ensures.same c.pass_first.ensures.same c.session.invariant

pub returns-clause-same : goal.returns-clause-same
returns-clause-same g c =
    rw (← c.session.view_is) (same_script _ _ _ c.set_coding.ensures.same c.pass_first.ensures.same)

pub returns-in_err-header-clause-err : goal.returns-in_err-header-clause-err
returns-in_err-header-clause-err g c =
    let (error, is, gives) = err_from_is_err_and c.from_residual.result c.from_residual.ensures.1 in
    let untaken = rw c.script-script.ensures.script at c.in_err-header.ensures.err in
    rw (is, gives, ← c.session.view_is) (laws.first_untaken _ _ _ c.script-script.ensures.ready _ _ _ _ _ _ untaken)

pub returns-in-Some-clause-err : goal.returns-in-Some-clause-err
returns-in-Some-clause-err g c =
    let (got, is, fewer, declared) = rw c.script-script.ensures.script at c.in-Some.ensures.some in
    let opened = rw c.script-script.ensures.script at c.in_ok-header.ensures.ok in
    rw (is, ← c.session.view_is) (laws.declares_fewer _ _ _ c.script-script.ensures.ready _ _ _ _ _ opened got fewer
    declared _)

pub returns-in_err-write_output_header-clause-err : goal.returns-in_err-write_output_header-clause-err
returns-in_err-write_output_header-clause-err g c =
    let (error, is, gives) = err_from_is_err_and c.from_residual-in_err-write_output_header.result
    c.from_residual-in_err-write_output_header.ensures.1 in
    let (count, output, less, first) = c.in_err-write_output_header.ensures.err in
    let took = subst (λ (s : Script). Took (g.K.Sink.state c.args.output.now)
    (g.K.Sink.state c.write_output_header.new.output) (take count (output_header s c.in_ok-header.header)))
    c.script-script.ensures.script first in
    let opened = rw c.script-script.ensures.script at c.in_ok-header.ensures.ok in
    rw (is, gives, output, ← c.session.view_is) (laws.headless _ _ _ c.script-script.ensures.ready _ _ _ _ _ opened _
    count took c.in_err-write_output_header.ensures.faults _)

pub returns-clause-ok : goal.returns-clause-ok
returns-clause-ok g c =
    let script = c.script-script.ensures.script ∙ sym c.set_coding.ensures.same.script in
    let begun = subst (λ (s : Script). Begun s c.in_ok-header.header (g.S.Source.state c.args.input.now)
    (g.S.Source.state c.take_header.new.input) (g.K.Sink.state c.args.output.now)
    (g.K.Sink.state c.write_output_header.new.output)) script (record {
      opened = c.in_ok-header.ensures.ok;
      took = c.in_ok-write_output_header.ensures.ok;
      no_fault = c.in_ok-write_output_header.ensures.faults;
      fits = c.in_ok-header.ensures.fits;
    }) in
    let went = rw c.set_coding.ensures.same.script at (c.pass_first.ensures.ok _ _ begun) in
    rw (← c.session.view_is) went

pub returns-clause-err : goal.returns-clause-err
returns-clause-err g c =
    let script = c.script-script.ensures.script ∙ sym c.set_coding.ensures.same.script in
    let begun = subst (λ (s : Script). Begun s c.in_ok-header.header (g.S.Source.state c.args.input.now)
    (g.S.Source.state c.take_header.new.input) (g.K.Sink.state c.args.output.now)
    (g.K.Sink.state c.write_output_header.new.output)) script (record {
      opened = c.in_ok-header.ensures.ok;
      took = c.in_ok-write_output_header.ensures.ok;
      no_fault = c.in_ok-write_output_header.ensures.faults;
      fits = c.in_ok-header.ensures.fits;
    }) in
    let went = rw (
      c.set_coding.ensures.same.script,
      c.set_coding.ensures.same.banked,
      c.set_coding.ensures.same.block,
    ) at
    (c.pass_first.ensures.err _ _ begun) in
    rw (← c.session.view_is) went
