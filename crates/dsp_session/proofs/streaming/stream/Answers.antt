use Rattle.std.proofs.Common.{◌∙◌, ap, sym, subst, refl, []}
use Rattle.std.proofs.lemmas.Result.{err_from_is_err_and}
use Rattle.dsp_defs.specs.declared.script.Script.{Script}
use Rattle.dsp_session.specs.Opening.{Begun}
use Rattle.dsp_session.specs.Session.{StandsFor}
use Rattle.dsp_session.specs.SessionState.{SessionState}
use Rattle.dsp_session.proofs.CodedRoom.{opened_limit, room_for, room_stays, same_script}
use Rattle.dsp_session.proofs.PlainEnds as ends
use Rattle.dsp_session.proofs.CloseLaws as laws
use Rattle.dsp_session.proofs.streaming.stream.Goals as goal

pub stream_samples-requires-clause-room : goal.stream_samples-requires-clause-room
stream_samples-requires-clause-room g c =
    let format = rw c.script.ensures.script at c.in_ok-header.ensures.coding in
    rw c.set_coding.ensures.coding (room_for c.session.inside.worker.script c.in_ok-header.header.coding _ _ format
    (c.as_mut_slice.ensures.len ∙ c.session.invariant))

pub stream_samples-requires-clause-coding : goal.stream_samples-requires-clause-coding
stream_samples-requires-clause-coding g c = ap (λ (s : SessionState). s.coding) c.set_coding.ensures.coding

pub stream_samples-requires-clause-start : goal.stream_samples-requires-clause-start
stream_samples-requires-clause-start g c = opened_limit _ _ _ _ c.in_ok-header.ensures.ok.opened

pub returns-in_err-header-clause-err : goal.returns-in_err-header-clause-err
returns-in_err-header-clause-err g c =
    let (error, is, same) = err_from_is_err_and c.from_residual.result c.from_residual.ensures.1 in
    let stopped = rw c.script.ensures.script at (c.in_err-header.ensures.err c.session.inside.worker.banked
    c.session.inside.worker.block c.args.steps.now (rw c.script.ensures.script c.script.ensures.ready)) in
    rw (is, same, ← c.session.view_is) stopped

pub returns-in_err-frames_taken-clause-err : goal.returns-in_err-frames_taken-clause-err
returns-in_err-frames_taken-clause-err g c =
    let (error, is, gives) = err_from_is_err_and c.from_residual-in_err-frames_taken.result
    c.from_residual-in_err-frames_taken.ensures.1 in
    let same = c.set_coding.ensures.same in
    let begun = subst (λ (s : Script). Begun s c.in_ok-header.header (g.S.Source.state c.args.input.now)
    (g.S.Source.state c.open.new.input) (g.K.Sink.state c.args.output.now) (g.K.Sink.state c.open.new.output))
    (c.script.ensures.script ∙ sym same.script) c.in_ok-header.ensures.ok in
    rw (is, gives, ← c.session.view_is) (ends.stopped_as _ _ _ _ _ _ _ _ _ _ _ _ _ same.banked same.script same.block
    (c.in_err-frames_taken.ensures.err _ _ begun))

pub invariant_of-session : goal.invariant_of-session
invariant_of-session g c =
    room_stays _ _ _ _ c.set_coding.ensures.same c.in_err-frames_taken.ensures.same c.session.invariant

pub returns-in_err-frames_taken-clause-same : goal.returns-in_err-frames_taken-clause-same
returns-in_err-frames_taken-clause-same g c =
    rw (← c.session.view_is) (same_script _ _ _ c.set_coding.ensures.same c.in_err-frames_taken.ensures.same)

pub invariant_of-session-2 : goal.invariant_of-session-2
invariant_of-session-2 g c =
    room_stays _ _ _ _ c.set_coding.ensures.same c.in_ok-frames_taken.ensures.same c.session.invariant

pub returns-clause-same : goal.returns-clause-same
returns-clause-same g c =
    rw (← c.session.view_is) (same_script _ _ _ c.set_coding.ensures.same c.in_ok-frames_taken.ensures.same)

pub returns-clause-ok : goal.returns-clause-ok
returns-clause-ok g c =
    let same = c.set_coding.ensures.same in
    let script = c.script.ensures.script ∙ sym same.script in
    let begun = subst (λ (s : Script). Begun s c.in_ok-header.header (g.S.Source.state c.args.input.now)
    (g.S.Source.state c.open.new.input) (g.K.Sink.state c.args.output.now) (g.K.Sink.state c.open.new.output))
    script c.in_ok-header.ensures.ok in
    rw (← c.session.view_is) (laws.done_as _ _ _ _ _ _ _ _ _ _ _ _ _ _ _ same.banked same.script same.block refl
    (c.in_ok-frames_taken.ensures.ok _ _ begun))

pub stream_samples-requires-clause-new : goal.stream_samples-requires-clause-new
stream_samples-requires-clause-new g c =
    let new = (rw (← c.session.view_is) at c.requires).new in
    let coded : StandsFor (record c.session.inside.worker { coding = c.in_ok-header.header.coding }) [] = record {
      holds = record {
        ready = new.holds.ready;
        input = new.holds.input;
        blocks = new.holds.blocks;
        turns =
            new.holds.turns;
      };
      chain = new.chain;
      live = new.live;
    } in
    subst (λ s. StandsFor s []) (sym c.set_coding.ensures.coding) coded
