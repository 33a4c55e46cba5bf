use Rattle.std.proofs.Common.{◌∙◌, arith, length, subst}
use Rattle.dsp_defs.specs.declared.script.Script.{Script}
use Rattle.dsp_input.specs.Taking.{PartRead}
use Rattle.std.proofs.lemmas.Result.{err_from_is_err_and}
use Rattle.dsp_session.proofs.OpenLaws.{some_block}
use Rattle.dsp_session.proofs.AdvanceLaws as laws
use Rattle.dsp_session.proofs.streaming.pass_blocks.Goals as goal

pub passing-init : goal.passing-init
passing-init g c = laws.going_starts _ _ c.args.span _ _ _ c.requires.runs c.requires.declared c.requires.start
    c.requires.part

pub returns-in_err-count-clause-err : goal.returns-in_err-count-clause-err
returns-in_err-count-clause-err g c =
    let inv = laws.still_going _ _ _ _ _ _ _ _ _ _ _ _ _ _ _ c.passing.invariant
    (rw c.if-branch.false at c.in_ok-pass_lent.ensures.ok) in
    let (error, is, gives) = err_from_is_err_and c.from_residual-in_err-count.result
    c.from_residual-in_err-count.ensures.1 in
    let size = c.passing.auto.block ∙ c.requires.block in
    rw (is, gives) (laws.broke_unread _ _ _ _ _ _ _ _ _ _ _ c.requires.coding inv _ size _ _
    (rw (c.script.ensures.script ∙ inv.advances.same.script) at c.in_err-count.ensures.err))

pub returns-then-count-block-clause-ok : goal.returns-then-count-block-clause-ok
returns-then-count-block-clause-ok g c =
    let inv = laws.still_going _ _ _ _ _ _ _ _ _ _ _ _ _ _ _ c.passing.invariant
    (rw c.if-branch.false at c.in_ok-pass_lent.ensures.ok) in
    let size = c.read_block.auto.block ∙ c.passing.auto.block ∙ c.requires.block in
    laws.reached _ _ _ _ _ _ _ _ _ _ _ c.requires.coding inv _ _ c.in_ok-count.count size
    (rw (c.script.ensures.script ∙ inv.advances.same.script) at c.in_ok-count.ensures.ok)
    c.if-count-block.true

pub pass_block-requires-clause-runs : goal.pass_block-requires-clause-runs
pass_block-requires-clause-runs g c =
    let inv = laws.still_going _ _ _ _ _ _ _ _ _ _ _ _ _ _ _ c.passing.invariant
    (rw c.if-branch.false at c.in_ok-pass_lent.ensures.ok) in
    inv.advances.runs

pub pass_block-requires-clause-whole : goal.pass_block-requires-clause-whole
pass_block-requires-clause-whole g c =
    let inv = laws.still_going _ _ _ _ _ _ _ _ _ _ _ _ _ _ _ c.passing.invariant
    (rw c.if-branch.false at c.in_ok-pass_lent.ensures.ok) in
    let size = c.read_block.auto.block ∙ c.passing.auto.block ∙ c.requires.block in
    laws.piece_whole _ _ _ _ _ _ _ _ _ _ _ c.requires.runs.holds.ready c.requires.coding c.requires.frames
    inv _ _ c.in_ok-count.count size c.if-count-block.false
    (rw (c.script.ensures.script ∙ inv.advances.same.script) at c.in_ok-count.ensures.ok)

pub pass_block-requires-clause-block : goal.pass_block-requires-clause-block
pass_block-requires-clause-block g c =
    let inv = laws.still_going _ _ _ _ _ _ _ _ _ _ _ _ _ _ _ c.passing.invariant
    (rw c.if-branch.false at c.in_ok-pass_lent.ensures.ok) in
    let size = c.read_block.auto.block ∙ c.passing.auto.block ∙ c.requires.block in
    laws.piece_in_block _ _ _ _ _ _ _ _ _ _ _ c.requires.runs.holds.ready c.requires.coding c.requires.frames
    inv _ _ c.in_ok-count.count size c.if-count-block.false
    (rw (c.script.ensures.script ∙ inv.advances.same.script) at c.in_ok-count.ensures.ok)

pub pass_block-requires-clause-count : goal.pass_block-requires-clause-count
pass_block-requires-clause-count g c =
    let inv = laws.still_going _ _ _ _ _ _ _ _ _ _ _ _ _ _ _ c.passing.invariant
    (rw c.if-branch.false at c.in_ok-pass_lent.ensures.ok) in
    let size = c.read_block.auto.block ∙ c.passing.auto.block ∙ c.requires.block in
    laws.piece_few _ _ _ _ _ _ _ _ _ _ _ c.requires.runs.holds.ready c.requires.coding c.requires.frames
    inv _ _ c.in_ok-count.count size c.if-count-block.false
    (rw (c.script.ensures.script ∙ inv.advances.same.script) at c.in_ok-count.ensures.ok)

pub returns-in_err-pass_block-clause-err : goal.returns-in_err-pass_block-clause-err
returns-in_err-pass_block-clause-err g c =
    let inv = laws.still_going _ _ _ _ _ _ _ _ _ _ _ _ _ _ _ c.passing.invariant
    (rw c.if-branch.false at c.in_ok-pass_lent.ensures.ok) in
    let (error, is, same) = err_from_is_err_and c.from_residual-in_err-pass_block.result
    c.from_residual-in_err-pass_block.ensures.1 in
    let size = c.read_block.auto.block ∙ c.passing.auto.block ∙ c.requires.block in
    rw (is, same) (laws.broke_unpassed _ _ _ _ _ _ _ _ _ _ _ c.requires.coding inv _ _
    c.in_ok-count.count size (rw (c.script.ensures.script ∙ inv.advances.same.script) at
    c.in_ok-count.ensures.ok) c.if-count-block.false _ _ _ _ c.in_err-pass_block.ensures.err)

pub passing-preserved : goal.passing-preserved
passing-preserved g c =
    let inv = laws.still_going _ _ _ _ _ _ _ _ _ _ _ _ _ _ _ c.passing.invariant
    (rw c.if-branch.false at c.in_ok-pass_lent.ensures.ok) in
    let size = c.read_block.auto.block ∙ c.passing.auto.block ∙ c.requires.block in
    laws.goes_on _ _ _ _ _ _ _ _ _ _ _ c.requires.runs.holds.ready c.requires.coding c.requires.frames
    inv _ _ c.in_ok-count.count size c.if-count-block.false
    (rw (c.script.ensures.script ∙ inv.advances.same.script) at c.in_ok-count.ensures.ok)
    _ _ _ c.in_ok-pass_block.ensures.ok

pub passing-smaller : goal.passing-smaller
passing-smaller g c =
    let inv = laws.still_going _ _ _ _ _ _ _ _ _ _ _ _ _ _ _ c.passing.invariant
    (rw c.if-branch.false at c.in_ok-pass_lent.ensures.ok) in
    let size = c.read_block.auto.block ∙ c.passing.auto.block ∙ c.requires.block in
    let some = some_block c.args.worker.now.script c.args.worker.now.coding c.args.worker.now.block
    c.requires.runs.holds.ready in
    omega (arith, size, some, c.if-count-block.false, c.in_ok-count.ensures.ok.in_limit)

pub pass_lent-requires-clause-frames : goal.pass_lent-requires-clause-frames
pass_lent-requires-clause-frames g c =
    laws.going_frames _ _ _ _ _ _ _ _ _ _ _ c.requires.coding c.requires.frames c.passing.invariant

pub returns-in_err-pass_lent-clause-err : goal.returns-in_err-pass_lent-clause-err
returns-in_err-pass_lent-clause-err g c =
    let (error, is, same) = err_from_is_err_and c.from_residual.result c.from_residual.ensures.1 in
    rw (is, same) (record {
      session = c.passing.worker;
      taken = c.passing.taken;
      between = g.S.Source.state c.passing.input;
      then = g.K.Sink.state c.passing.output;
      made = c.passing.steps;
      going = c.passing.invariant;
      breaks = c.in_err-pass_lent.ensures.err;
    })

pub passing-preserved-then-branch : goal.passing-preserved-then-branch
passing-preserved-then-branch g c =
    let (piece, long, read, passes) = rw c.if-branch.true at c.in_ok-pass_lent.ensures.ok in
    let size = long ∙ c.passing.auto.block ∙ c.requires.block in
    let came = subst (λ (s : Script). PartRead s c.args.header c.args.span.end c.passing.taken piece
    (length c.passing.block) (g.S.Source.state c.passing.input) (g.S.Source.state c.pass_lent.new.input))
    c.passing.invariant.advances.same.script read in
    laws.goes_on _ _ _ _ _ _ _ _ _ _ _ c.requires.runs.holds.ready c.requires.coding c.requires.frames
    c.passing.invariant _ piece (length c.passing.block) size (omega (arith, long)) came _ _ _ passes

pub passing-smaller-then-branch : goal.passing-smaller-then-branch
passing-smaller-then-branch g c =
    let (piece, long, read, passes) = rw c.if-branch.true at c.in_ok-pass_lent.ensures.ok in
    let size = c.passing.auto.block ∙ c.requires.block in
    let some = some_block c.args.worker.now.script c.args.worker.now.coding c.args.worker.now.block
    c.requires.runs.holds.ready in
    omega (arith, size, some, read.in_limit)
