use Rattle.std.proofs.Common.{◌≡◌, ◌∙◌, None, sym, refl}
use Rattle.std.proofs.lemmas.Result.{err_from_is_err_and}
use Rattle.dsp_session.specs.Advancing.{Windowed, Unpassed, Unfinished}
use Rattle.dsp_session.proofs.AdvanceLaws.{passed_runs}
use Rattle.dsp_session.proofs.ClosingLaws as laws
use Rattle.dsp_session.proofs.closing.close.Goals as goal

pub window_fault-requires : goal.window_fault-requires
window_fault-requires g c = rw (c.frame_bytes-frame.ensures, c.script.ensures.script) (laws.few _ _ _ _ c.requires)

pub returns-in-Some-clause-err : goal.returns-in-Some-clause-err
returns-in-Some-clause-err g c =
    Windowed _ _ refl (laws.window _ _ _ _ c.requires _
    (rw (c.frame_bytes-frame.ensures, c.script.ensures.script) at (sym c.in-Some.ensures))) refl refl

pub pass_block-requires-clause-runs : goal.pass_block-requires-clause-runs
pass_block-requires-clause-runs g c = c.requires.runs

pub pass_block-requires-clause-whole : goal.pass_block-requires-clause-whole
pass_block-requires-clause-whole g c =
    rw (c.frame_bytes-frame.ensures, c.script.ensures.script) (laws.fed_whole _ _ _ _ c.requires)

pub pass_block-requires-clause-block : goal.pass_block-requires-clause-block
pass_block-requires-clause-block g c =
    rw (c.frame_bytes-frame.ensures, c.script.ensures.script) (laws.fed_in_block _ _ _ _ c.requires)

pub pass_block-requires-clause-count : goal.pass_block-requires-clause-count
pass_block-requires-clause-count g c =
    rw (c.frame_bytes-frame.ensures, c.script.ensures.script) (laws.fed_few _ _ _ _ c.requires)

pub returns-in_err-pass_block-clause-err : goal.returns-in_err-pass_block-clause-err
returns-in_err-pass_block-clause-err g c =
    let found = rw (c.in_default.is, c.frame_bytes-frame.ensures, c.script.ensures.script) at c.window_fault.ensures in
    let fails = rw (c.frame_bytes-frame.ensures, c.script.ensures.script) at c.in_err-pass_block.ensures.err in
    let (error, is, same) = err_from_is_err_and c.from_residual.result c.from_residual.ensures.1 in
    rw (is, same) (Unpassed (laws.window _ _ _ _ c.requires None (sym found)) fails)

pub write_end-requires : goal.write_end-requires
write_end-requires g c x stands =
    let found = rw (c.in_default.is, c.frame_bytes-frame.ensures, c.script.ensures.script) at c.window_fault.ensures in
    let passes = rw (c.frame_bytes-frame.ensures, c.script.ensures.script) at c.in_ok-pass_block.ensures.ok in
    let script : c.script-2.result.now ≡ c.args.worker.now.script = c.script-2.ensures.script ∙
    c.in_ok-pass_block.ensures.same.script in
    laws.tail_few _ _ _ _ c.requires (sym found) _ c.in_ok-pass_block.ensures.same passes.fed.counted _
    (rw (script, c.frame_bytes-frame.ensures, c.script.ensures.script) at c.frames_given-frames.ensures) x stands

pub returns-in-Ok-clause-ok : goal.returns-in-Ok-clause-ok
returns-in-Ok-clause-ok g c =
    let found = rw (c.in_default.is, c.frame_bytes-frame.ensures, c.script.ensures.script) at c.window_fault.ensures in
    let passes = rw (c.frame_bytes-frame.ensures, c.script.ensures.script) at c.in_ok-pass_block.ensures.ok in
    record {
      no_window = laws.window _ _ _ _ c.requires None (sym found);
      fed = _;
      then = _;
      made = _;
      passes = passes;
      writes = c.in-Ok.ensures.written;
      costs = c.in-Ok.ensures.costs;
      measures = c.in-Ok.ensures.measures;
      limit = laws.limit_is _ _ c.in_ok-pass_block.ensures.same (passed_runs _ _ _ _ _ _ _ passes) _ _
          c.in-Ok.ensures.limit;
      turned = c.in-Ok.ensures.turned;
      settled = c.in-Ok.ensures.settled;
      no_fault = c.in-Ok.ensures.faults;
    }

pub returns-in-Err-clause-err : goal.returns-in-Err-clause-err
returns-in-Err-clause-err g c =
    let found = rw (c.in_default.is, c.frame_bytes-frame.ensures, c.script.ensures.script) at c.window_fault.ensures in
    let passes = rw (c.frame_bytes-frame.ensures, c.script.ensures.script) at c.in_ok-pass_block.ensures.ok in
    Unfinished _ _ _ _ refl (laws.window _ _ _ _ c.requires None (sym found)) passes c.in-Err.ensures.written
    c.in-Err.ensures.costs (laws.limit_is _ _ c.in_ok-pass_block.ensures.same (passed_runs _ _ _ _ _ _ _ passes) _ _
    c.in-Err.ensures.limit) c.in-Err.ensures.turned c.in-Err.ensures.faults
