use Rattle.std.proofs.Common.{◌≡◌, ◌∙◌, ℕ, ◌+◌, ◌*◌, ◌≤◌, ap, sym, refl, arith}
use Rattle.std.proofs.lemmas.List.{length-take-le}
use Rattle.std.proofs.lemmas.Result.{err_from_is_err_and}
use Rattle.dsp_defs.specs.declared.limits.TheConstants.{MAX_INPUT}
use Rattle.dsp_defs.specs.declared.script.Script.{Script}
use Rattle.dsp_input.specs.Taking.{frame_bytes}
use Rattle.dsp_session.proofs.AdvanceLaws.{new_runs}
use Rattle.dsp_session.proofs.AdvanceLaws as laws'
use Rattle.dsp_session.proofs.CloseLaws as laws
use Rattle.dsp_session.proofs.PlainLaws as plain
use Rattle.dsp_session.proofs.PlainEnds as ends
use Rattle.dsp_session.proofs.streaming.stream_samples.Goals as goal

nothing : (frames frame : ℕ) → frames ≡ 0 → frames * frame ≡ 0
nothing frames frame none = ap (λ n. n * frame) none ∙ omega arith

regroup : (start before count : ℕ) → start + before + count ≤ MAX_INPUT → start + (before + count) ≤ MAX_INPUT
regroup start before count h = omega (arith, h)

pub pass_blocks-requires-clause-runs : goal.pass_blocks-requires-clause-runs
pass_blocks-requires-clause-runs g c = new_runs _ c.requires.new

pub pass_blocks-requires-clause-block : goal.pass_blocks-requires-clause-block
pass_blocks-requires-clause-block g c =
    length-take-le c.block_bytes-size.result c.args.room.now (rw c.block_bytes-size.ensures c.requires.room) ∙
    c.block_bytes-size.ensures

pub returns-in_err-last-clause-err : goal.returns-in_err-last-clause-err
returns-in_err-last-clause-err g c before empty begun =
    let (error, is, same) = err_from_is_err_and c.from_residual.result c.from_residual.ensures.1 in
    rw (is, same) (plain.broke_plain _ _ _ c.requires.new c.requires.coding refl refl _ _ _ _ _ _ _ _
    c.in_err-last.ensures.err _ _ begun)

pub returns-in_err-last-clause-refused : goal.returns-in_err-last-clause-refused
returns-in_err-last-clause-refused g c =
    let (error, is, same) = err_from_is_err_and c.from_residual.result c.from_residual.ensures.1 in
    rw (is, same) (plain.broke_stays _ _ _ c.requires.new c.requires.coding refl refl _ _ _ _ _ _ _ _
    c.in_err-last.ensures.err)

pub close-requires : goal.close-requires
close-requires g c =
    let reached = c.in_ok-last.ensures.ok in
    record {
      runs = reached.going.advances.runs;
      coding = c.in_ok-last.ensures.same.coding ∙ c.requires.coding;
      size = laws'.reached_size _ _ _ _ _ _ _ _ _ _ _ _ c.requires.coding reached;
      short = reached.short;
      frames = laws'.reached_frames _ _ _ _ _ _ _ _ _ _ _ _ c.requires.coding
          (nothing _ _ c.requires.new.chain.counted) reached;
      limit = omega (arith, reached.read.in_limit);
    }

pub overflow_add-result : goal.overflow_add-result
overflow_add-result g c = omega (arith, c.in_ok-last.ensures.ok.read.in_limit)

pub returns-clause-few : goal.returns-clause-few
returns-clause-few g c = laws.few_taken _ c.in_ok-last.last.before c.in_ok-last.last.count c.frame_bytes.result
    (regroup _ _ _ c.in_ok-last.ensures.ok.read.in_limit)

pub returns-clause-ok : goal.returns-clause-ok
returns-clause-ok g c before empty begun =
    let coding = c.args.header.coding in
    let same = c.in_ok-last.ensures.same in
    let reached = c.in_ok-last.ensures.ok in
    let passed = laws.passed_as _ _ _ _ _ _ _ _ _ _ _ _ _ _ _ same.script same.block refl
    (plain.reached_plain _ _ _ c.requires.new c.requires.coding refl refl _ _ _ _ _ _ _ _ _ reached _ _ begun) in
    let frame : frame_bytes c.pass_blocks.new.worker.script coding ≡ c.frame_bytes.result =
    ap (λ (s : Script). frame_bytes s coding) (sym (c.script.ensures.script ∙ c.in_ok-close.ensures.same.script)) ∙
    sym c.frame_bytes.ensures in
    laws.done_as _ _ _ _ _ _ _ _ _ _ _ _ _ _ _ same.banked same.script same.block
    (laws.same_quotient (c.in_ok-last.last.before) c.in_ok-last.last.count _ _ frame)
    (ends.closed_plain _ reached.going.advances.runs.holds.ready _ _ _ _ _ _ _ _ _ passed _ _ _
    c.in_ok-close.ensures.ok)

pub returns-in_err-close-clause-err : goal.returns-in_err-close-clause-err
returns-in_err-close-clause-err g c before empty begun =
    let (error, is, err) = err_from_is_err_and c.from_residual-in_err-close.result
    c.from_residual-in_err-close.ensures.1 in
    let same = c.in_ok-last.ensures.same in
    let reached = c.in_ok-last.ensures.ok in
    let passed = laws.passed_as _ _ _ _ _ _ _ _ _ _ _ _ _ _ _ same.script same.block refl
    (plain.reached_plain _ _ _ c.requires.new c.requires.coding refl refl _ _ _ _ _ _ _ _ _ reached _ _ begun) in
    rw (is, err) (ends.stopped_as _ _ _ _ _ _ _ _ _ _ _ _ _ same.banked same.script same.block
    (ends.unclosed_plain _ reached.going.advances.runs.holds.ready _ _ _ _ _ _ _ _ _ passed _ _ _ _
    c.in_err-close.ensures.err))

pub returns-in_err-close-clause-refused : goal.returns-in_err-close-clause-refused
returns-in_err-close-clause-refused g c =
    let (error, is, err) = err_from_is_err_and c.from_residual-in_err-close.result
    c.from_residual-in_err-close.ensures.1 in
    rw (is, err) (ends.unclosed_stays _ _ _ _ _ _ _ _ _ c.in_err-close.ensures.err)
