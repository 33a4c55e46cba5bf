use Rattle.std.proofs.Common.{◌≡◌, ◌∙◌, ℕ, ◌*◌, ◌≤◌, ap, refl, arith}
use Rattle.std.proofs.lemmas.List.{length-take-le}
use Rattle.std.proofs.lemmas.Result.{err_from_is_err_and}
use Rattle.dsp_defs.specs.declared.script.Script.{Script}
use Rattle.dsp_input.specs.Taking.{frame_bytes}
use Rattle.dsp_session.proofs.OpeningLaws.{some_frame}
use Rattle.dsp_session.proofs.AdvanceLaws.{new_runs}
use Rattle.dsp_session.proofs.FirstClose as laws
use Rattle.dsp_session.proofs.FirstEnds as ends
use Rattle.dsp_session.proofs.resuming.pass_first.Goals as goal

pub pass_blocks-requires-clause-runs : goal.pass_blocks-requires-clause-runs
pass_blocks-requires-clause-runs g c = new_runs _ c.requires.new

nothing : (frames frame : ℕ) → frames ≡ 0 → frames * frame ≤ 0
nothing frames frame none = omega (arith, ap (λ n. n * frame) none)

pub pass_blocks-requires-clause-block : goal.pass_blocks-requires-clause-block
pass_blocks-requires-clause-block g c =
    length-take-le c.block_bytes-size.result c.args.room.now (rw c.block_bytes-size.ensures c.requires.room) ∙
    c.block_bytes-size.ensures

pub pass_blocks-requires-clause-frames : goal.pass_blocks-requires-clause-frames
pass_blocks-requires-clause-frames g c = nothing _ _ c.requires.new.chain.counted

pub overflow_add-came : goal.overflow_add-came
overflow_add-came g c = omega (arith, c.in_ok-last.ensures.ok.read.in_limit)

pub nonzero_div-result : goal.nonzero_div-result
nonzero_div-result g c = rw (c.frame_bytes-frame.ensures, c.script.ensures.script)
    (some_frame _ c.args.header.coding _ c.requires.new.holds.ready)

pub pass_block-requires-clause-runs : goal.pass_block-requires-clause-runs
pass_block-requires-clause-runs g c = c.in_ok-last.ensures.ok.going.advances.runs

pub returns-in_err-last-clause-err : goal.returns-in_err-last-clause-err
returns-in_err-last-clause-err g c before empty begun =
    let (error, is, gives) = err_from_is_err_and c.from_residual.result c.from_residual.ensures.1 in
    let frame : c.frame_bytes-frame.result ≡ frame_bytes c.args.worker.now.script c.args.header.coding =
    c.frame_bytes-frame.ensures ∙ ap (λ (s : Script). frame_bytes s c.args.header.coding) c.script.ensures.script in
    rw (is, gives) (ends.broke_first _ _ _ _ _ _ _ _ c.requires.new c.requires.coding refl c.args.frames
    (λ i. c.from.ensures i * frame i) begun _ _ _ _ _ c.in_err-last.ensures.err)

pub returns-then-came-span-clause-err : goal.returns-then-came-span-clause-err
returns-then-came-span-clause-err g c before empty begun =
    let frame : c.frame_bytes-frame.result ≡ frame_bytes c.args.worker.now.script c.args.header.coding =
    c.frame_bytes-frame.ensures ∙ ap (λ (s : Script). frame_bytes s c.args.header.coding) c.script.ensures.script in
    rw frame (laws.behind _ _ _ _ _ _ _ _ _ _ _ _ c.requires.new c.requires.coding refl c.args.frames
    (λ i. c.from.ensures i * frame i) c.in_ok-last.ensures.ok _ _ begun c.if-came-span.true c.requires.enough)

pub pass_block-requires-clause-whole : goal.pass_block-requires-clause-whole
pass_block-requires-clause-whole g c =
    let frame : c.frame_bytes-frame.result ≡ frame_bytes c.args.worker.now.script c.args.header.coding =
    c.frame_bytes-frame.ensures ∙ ap (λ (s : Script). frame_bytes s c.args.header.coding) c.script.ensures.script in
    laws.fed_whole _ _ _ _ _ _ _ _ _ _ _ _ c.requires.new c.requires.coding refl c.args.frames
    (λ i. c.from.ensures i * frame i) c.in_ok-last.ensures.ok c.if-came-span.false

pub pass_block-requires-clause-block : goal.pass_block-requires-clause-block
pass_block-requires-clause-block g c =
    let frame : c.frame_bytes-frame.result ≡ frame_bytes c.args.worker.now.script c.args.header.coding =
    c.frame_bytes-frame.ensures ∙ ap (λ (s : Script). frame_bytes s c.args.header.coding) c.script.ensures.script in
    laws.fed_in_block _ _ _ _ _ _ _ _ _ _ _ _ c.requires.new c.requires.coding refl c.args.frames
    (λ i. c.from.ensures i * frame i) c.in_ok-last.ensures.ok c.if-came-span.false

pub pass_block-requires-clause-count : goal.pass_block-requires-clause-count
pass_block-requires-clause-count g c =
    let frame : c.frame_bytes-frame.result ≡ frame_bytes c.args.worker.now.script c.args.header.coding =
    c.frame_bytes-frame.ensures ∙ ap (λ (s : Script). frame_bytes s c.args.header.coding) c.script.ensures.script in
    laws.fed_few _ _ _ _ _ _ _ _ _ _ _ _ c.requires.new c.requires.coding refl c.args.frames
    (λ i. c.from.ensures i * frame i) c.in_ok-last.ensures.ok c.if-came-span.false
    (omega (arith, c.ranges.frames.fits))

pub returns-in_err-pass_block-clause-err : goal.returns-in_err-pass_block-clause-err
returns-in_err-pass_block-clause-err g c before empty begun =
    let (error, is, gives) = err_from_is_err_and c.from_residual-in_err-pass_block.result
    c.from_residual-in_err-pass_block.ensures.1 in
    let frame : c.frame_bytes-frame.result ≡ frame_bytes c.args.worker.now.script c.args.header.coding =
    c.frame_bytes-frame.ensures ∙ ap (λ (s : Script). frame_bytes s c.args.header.coding) c.script.ensures.script in
    rw (is, gives) (laws.unpassed _ _ _ _ _ _ _ _ _ _ _ _ c.requires.new c.requires.coding refl c.args.frames
    (λ i. c.from.ensures i * frame i) c.in_ok-last.ensures.ok _ _ begun c.if-came-span.false _ _ _ _
    c.in_err-pass_block.ensures.err)

pub returns-in-Err-clause-err : goal.returns-in-Err-clause-err
returns-in-Err-clause-err g c before empty begun =
    let frame : c.frame_bytes-frame.result ≡ frame_bytes c.args.worker.now.script c.args.header.coding =
    c.frame_bytes-frame.ensures ∙ ap (λ (s : Script). frame_bytes s c.args.header.coding) c.script.ensures.script in
    laws.unflushed _ _ _ _ _ _ _ _ _ _ _ _ c.requires.new c.requires.coding refl c.args.frames
    (λ i. c.from.ensures i * frame i) c.in_ok-last.ensures.ok _ _ begun c.if-came-span.false
    _ _ _ c.in_ok-pass_block.ensures.ok _ c.in-Err.ensures.flushed.put c.in-Err.ensures.faults

pub returns-in-Ok-clause-ok : goal.returns-in-Ok-clause-ok
returns-in-Ok-clause-ok g c before empty begun =
    let frame : c.frame_bytes-frame.result ≡ frame_bytes c.args.worker.now.script c.args.header.coding =
    c.frame_bytes-frame.ensures ∙ ap (λ (s : Script). frame_bytes s c.args.header.coding) c.script.ensures.script in
    laws.done _ _ _ _ _ _ _ _ _ _ _ _ c.requires.new c.requires.coding refl c.args.frames
    (λ i. c.from.ensures i * frame i) c.in_ok-last.ensures.ok _ _ begun c.if-came-span.false
    _ _ _ c.in_ok-pass_block.ensures.ok _ c.in-Ok.ensures.flushed c.in-Ok.ensures.faults
