use Rattle.std.proofs.Common.{◌∙◌, ◌≤◌, IfSome, ap, sym, subst}
use Rattle.std.proofs.lemmas.Result.{err_from_is_err_and}
use Rattle.dsp_defs.specs.declared.script.Script.{Script}
use Rattle.dsp_input.specs.Taking.{Fits, Opened}
use Rattle.dsp_defs.specs.Output.{declared_frames}
use Rattle.dsp_session.specs.SessionState.{SessionState}
use Rattle.dsp_session.proofs.OpeningLaws.{some_frame}
use Rattle.dsp_session.proofs.CodedRoom.{opened_limit, room_for, room_stays, runs_coded, same_script}
use Rattle.dsp_session.proofs.CodedLaws as laws
use Rattle.dsp_session.proofs.RestBefore as early
use Rattle.dsp_session.proofs.resuming.stream_rest.Goals as goal

pub declared_behind-requires : goal.declared_behind-requires
declared_behind-requires g c =
    rw c.script-script.ensures.script (some_frame _ c.in_ok-header.header.coding _ c.script-script.ensures.ready)

pub pass_rest-requires-clause-room : goal.pass_rest-requires-clause-room
pass_rest-requires-clause-room g c =
    let format = rw c.script-script.ensures.script at c.in_ok-header.ensures.coding in
    rw c.set_coding.ensures.coding (room_for c.session.inside.worker.script c.in_ok-header.header.coding _ _ format
    (c.as_mut_slice.ensures.len ∙ c.session.invariant))

pub pass_rest-requires-clause-coding : goal.pass_rest-requires-clause-coding
pass_rest-requires-clause-coding g c = ap (λ (s : SessionState). s.coding) c.set_coding.ensures.coding

pub pass_rest-requires-clause-start : goal.pass_rest-requires-clause-start
pass_rest-requires-clause-start g c = opened_limit _ _ _ _ c.in_ok-header.ensures.ok

pub pass_rest-requires-clause-enough : goal.pass_rest-requires-clause-enough
pass_rest-requires-clause-enough g c =
    subst (λ (s : Script). IfSome (declared_frames s c.in_ok-header.header) (λ got. c.args.frames ≤ got))
    (c.script-script.ensures.script ∙ sym c.set_coding.ensures.same.script) c.in_default.ensures.none

pub pass_rest-requires-clause-runs : goal.pass_rest-requires-clause-runs
pass_rest-requires-clause-runs g c =
    rw c.set_coding.ensures.coding (runs_coded _ c.in_ok-header.header.coding (rw (← c.session.view_is) at
    c.requires.runs))

pub pass_rest-requires-clause-frames : goal.pass_rest-requires-clause-frames
pass_rest-requires-clause-frames g c =
    rw c.set_coding.ensures.coding (rw (← c.session.view_is) at c.requires.frames)

pub invariant_of-session : goal.invariant_of-session
invariant_of-session g c =
    room_stays _ _ _ _ c.set_coding.ensures.same c.in_err-frames_taken.ensures.same c.session.invariant

pub returns-in_err-frames_taken-clause-same : goal.returns-in_err-frames_taken-clause-same
returns-in_err-frames_taken-clause-same g c =
    rw (← c.session.view_is) (same_script _ _ _ c.set_coding.ensures.same c.in_err-frames_taken.ensures.same)

pub frames_given-requires-clause-taken : goal.frames_given-requires-clause-taken
frames_given-requires-clause-taken g c = c.in_ok-frames_taken.ensures.few

pub cost-requires-clause-taken : goal.cost-requires-clause-taken
cost-requires-clause-taken g c = c.in_ok-frames_taken.ensures.few

pub invariant_of-session-2 : goal.invariant_of-session-2
invariant_of-session-2 g c =
    room_stays _ _ _ _ c.set_coding.ensures.same c.in_ok-frames_taken.ensures.same c.session.invariant

pub returns-clause-same : goal.returns-clause-same
returns-clause-same g c =
    rw (← c.session.view_is) (same_script _ _ _ c.set_coding.ensures.same c.in_ok-frames_taken.ensures.same)

pub returns-in_err-header-clause-err : goal.returns-in_err-header-clause-err
returns-in_err-header-clause-err g c =
    let (error, is, gives) = err_from_is_err_and c.from_residual.result c.from_residual.ensures.1 in
    let untaken = rw c.script-script.ensures.script at c.in_err-header.ensures.err in
    rw (is, gives, ← c.session.view_is) (early.rest_untaken _ _ c.script-script.ensures.ready _ _ _ _ _ _ _ untaken)

pub returns-in-Some-clause-err : goal.returns-in-Some-clause-err
returns-in-Some-clause-err g c =
    let (got, is, fewer, declared) = rw c.script-script.ensures.script at c.in-Some.ensures.some in
    let opened = rw c.script-script.ensures.script at c.in_ok-header.ensures.ok in
    rw (is, ← c.session.view_is) (early.declares_fewer _ _ c.script-script.ensures.ready _ _ _ _ _ _ _ opened got
    fewer declared)

pub returns-in_err-frames_taken-clause-err : goal.returns-in_err-frames_taken-clause-err
returns-in_err-frames_taken-clause-err g c =
    let (error, is, same) = err_from_is_err_and c.from_residual-in_err-frames_taken.result
    c.from_residual-in_err-frames_taken.ensures.1 in
    let script = c.script-script.ensures.script ∙ sym c.set_coding.ensures.same.script in
    let opened = subst (λ (s : Script). Opened s c.in_ok-header.header (g.S.Source.state c.args.input.now)
    (g.S.Source.state c.take_header.new.input)) script c.in_ok-header.ensures.ok in
    let fits = subst (λ (s : Script). Fits s c.in_ok-header.header) script c.in_ok-header.ensures.fits in
    let went = rw c.set_coding.ensures.coding at (c.in_err-frames_taken.ensures.err _ opened fits) in
    rw (is, same, ← c.session.view_is) (laws.rest_stopped_coded _ c.in_ok-header.header.coding _ _ _ _ _ _ _ _ _ _ went)

pub returns-clause-ok : goal.returns-clause-ok
returns-clause-ok g c =
    let script = c.script-script.ensures.script ∙ sym c.set_coding.ensures.same.script in
    let opened = subst (λ (s : Script). Opened s c.in_ok-header.header (g.S.Source.state c.args.input.now)
    (g.S.Source.state c.take_header.new.input)) script c.in_ok-header.ensures.ok in
    let fits = subst (λ (s : Script). Fits s c.in_ok-header.header) script c.in_ok-header.ensures.fits in
    let went = rw c.set_coding.ensures.coding at (c.in_ok-frames_taken.ensures.ok _ opened fits) in
    rw (← c.session.view_is) (laws.rest_done_coded _ c.in_ok-header.header.coding _ _ _ _ _ _ _ _ _ _ went)
