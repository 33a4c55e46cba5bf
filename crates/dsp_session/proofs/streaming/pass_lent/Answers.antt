use Rattle.std.proofs.Common.{◌∙◌, ℕ, arith, refl, subst}
use Rattle.std.proofs.lemmas.Result.{err_from_is_err_and}
use Rattle.dsp_ports.proofs.Moved.{Gave-asked}
use Rattle.dsp_input.specs.Taking.{PartRead, frame_bytes, stored}
use Rattle.dsp_wave.proofs.LentBlocks.{block_came}
use Rattle.dsp_session.specs.Advancing.{NotPassed}
use Rattle.dsp_session.proofs.AdvanceLaws.{block_in_limit}
use Rattle.dsp_session.proofs.OpeningLaws.{some_frame}
use Rattle.dsp_session.proofs.OpenLaws.{some_block}
use Rattle.dsp_session.proofs.streaming.pass_lent.Goals as goal

pub feed_from-requires : goal.feed_from-requires
feed_from-requires g c =
    let s = c.args.worker.now in
    let has = rw c.script.ensures.script at c.if-not-has_block.ensures.0 refl in
    let some = some_frame s.script s.coding s.block c.requires.runs.holds.ready in
    record {
      running = c.requires.runs.running;
      frames = s.block;
      whole = c.requires.size;
      few = omega arith;
      in_limit = block_in_limit s.chain.frames s.block (frame_bytes s.script s.coding) c.args.next.taken c.args.size
          c.args.next.header.start some c.requires.frames c.requires.size has.in_limit;
    }

pub returns-in_err-pass_on-clause-err : goal.returns-in_err-pass_on-clause-err
returns-in_err-pass_on-clause-err g c =
    let from = c.in-Some.ensures.some in
    let s = c.args.worker.now in
    let next = c.args.next in
    let some = some_block s.script s.coding s.block c.requires.runs.holds.ready in
    let gave = Gave-asked _ _ _ _ (omega (arith, some, c.requires.size)) from.gave in
    let has = rw c.script.ensures.script at c.if-not-has_block.ensures.0 refl in
    let read = block_came (stored s.script next.header) next.end next.taken from.bytes _ _ (rw from.long has) gave
    from.no_fault from.going in
    let (error, is, same) = err_from_is_err_and c.from_residual.result c.from_residual.ensures.1 in
    rw (is, same) (NotPassed from.bytes (from.long ∙ c.requires.size) read
    (c.in_err-pass_on.ensures.err _ _ _ _ c.requires.runs from.fed))

pub returns-clause-ok : goal.returns-clause-ok
returns-clause-ok g c =
    let from = c.in-Some.ensures.some in
    let s = c.args.worker.now in
    let next = c.args.next in
    let some = some_block s.script s.coding s.block c.requires.runs.holds.ready in
    let gave = Gave-asked _ _ _ _ (omega (arith, some, c.requires.size)) from.gave in
    let has = rw c.script.ensures.script at c.if-not-has_block.ensures.0 refl in
    let read = block_came (stored s.script next.header) next.end next.taken from.bytes _ _ (rw from.long has) gave
    from.no_fault from.going in (
      from.bytes,
      from.long,
      subst (λ (n : ℕ). PartRead s.script next.header next.end next.taken from.bytes n
          (g.S.Source.state c.args.input.now) (g.S.Source.state c.feed_from.new.input)) from.long read,
      c.in_ok-pass_on.ensures.ok _ _ _ _ c.requires.runs from.fed,
    )
