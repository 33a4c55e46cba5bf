use Rattle.std.proofs.Common.{◌≡◌, ◌∙◌, ℕ, ◌+◌, ◌*◌, ◌≤◌, ap, sym, refl, arith}
use Rattle.std.proofs.lemmas.List.{length-take-le}
use Rattle.std.proofs.lemmas.Result.{err_from_is_err_and}
use Rattle.dsp_defs.specs.declared.script.Script.{Script}
use Rattle.dsp_input.specs.Taking.{frame_bytes}
use Rattle.dsp_defs.specs.declared.limits.TheConstants.{MAX_INPUT}
use Rattle.dsp_session.proofs.OpeningLaws.{some_frame}
use Rattle.dsp_session.proofs.BlockLaws.{in_declared}
use Rattle.dsp_session.proofs.CloseLaws.{few_taken}
use Rattle.dsp_session.proofs.AdvanceLaws.{reached_frames, reached_size}
use Rattle.dsp_session.proofs.RestBefore as early
use Rattle.dsp_session.proofs.RestEnds as ends
use Rattle.dsp_session.proofs.resuming.pass_rest.Goals as goal

regroup : (start before count : ℕ) → start + before + count ≤ MAX_INPUT → start + (before + count) ≤ MAX_INPUT
regroup start before count h = omega (arith, h)

all-passed : (from taken : ℕ) → taken ≤ from → from ≤ taken → taken ≡ from
all-passed from taken h k = omega (arith, h, k)

started : (start taken from : ℕ) → start + taken ≤ MAX_INPUT → from ≤ taken → start + from ≤ MAX_INPUT
started start taken from h k = omega (arith, h, k)

in-end : (start taken from : ℕ) → start + taken ≤ MAX_INPUT → from ≤ taken → from ≤ 18446744073709551615
in-end start taken from h k = omega (arith, h, k)

no-more : (m n : ℕ) → m ≡ n → m ≤ n
no-more m n same = omega (arith, same)

pub skip_samples-requires-clause-frame : goal.skip_samples-requires-clause-frame
skip_samples-requires-clause-frame g c =
    rw c.script-2.ensures.script (some_frame _ c.args.header.coding _ c.requires.runs.holds.ready)

pub nonzero_div-result : goal.nonzero_div-result
nonzero_div-result g c = rw (c.frame_bytes-frame.ensures, c.script.ensures.script)
    (some_frame _ c.args.header.coding _ c.requires.runs.holds.ready)

pub nonzero_div-result-2 : goal.nonzero_div-result-2
nonzero_div-result-2 g c = rw (c.frame_bytes-frame.ensures, c.script.ensures.script)
    (some_frame _ c.args.header.coding _ c.requires.runs.holds.ready)

pub pass_blocks-requires-clause-runs : goal.pass_blocks-requires-clause-runs
pass_blocks-requires-clause-runs g c = c.requires.runs

pub pass_blocks-requires-clause-block : goal.pass_blocks-requires-clause-block
pass_blocks-requires-clause-block g c =
    length-take-le c.block_bytes-size.result c.args.room.now (rw c.block_bytes-size.ensures c.requires.room) ∙
    c.block_bytes-size.ensures

pub pass_blocks-requires-clause-start : goal.pass_blocks-requires-clause-start
pass_blocks-requires-clause-start g c =
    started _ _ _ c.in_ok-skipped.ensures.ok.in_limit c.if-skipped-span.false

pub pass_blocks-requires-clause-declared : goal.pass_blocks-requires-clause-declared
pass_blocks-requires-clause-declared g c =
    let skips = rw c.script-2.ensures.script at c.in_ok-skipped.ensures.ok in
    in_declared _ _ _ (all-passed _ _ skips.in_part c.if-skipped-span.false) skips.declared

pub pass_blocks-requires-clause-frames : goal.pass_blocks-requires-clause-frames
pass_blocks-requires-clause-frames g c =
    let frame : c.frame_bytes-frame.result ≡ frame_bytes c.args.worker.now.script c.args.header.coding =
    c.frame_bytes-frame.ensures ∙ ap (λ (s : Script). frame_bytes s c.args.header.coding) c.script.ensures.script in
    no-more _ _ (λ i. (c.requires.frames ∙ sym c.from.ensures) i * sym frame i)

pub pass_blocks-requires-clause-part : goal.pass_blocks-requires-clause-part
pass_blocks-requires-clause-part g c =
    in-end _ _ _ c.in_ok-skipped.ensures.ok.in_limit c.if-skipped-span.false

pub close-requires : goal.close-requires
close-requires g c =
    let reached = c.in_ok-last.ensures.ok in
    let frame : c.frame_bytes-frame.result ≡ frame_bytes c.args.worker.now.script c.args.header.coding =
    c.frame_bytes-frame.ensures ∙ ap (λ (s : Script). frame_bytes s c.args.header.coding) c.script.ensures.script in
    record {
      runs = reached.going.advances.runs;
      coding = c.in_ok-last.ensures.same.coding ∙ c.requires.coding;
      size = reached_size _ _ _ _ _ _ _ _ _ _ _ _ c.requires.coding reached;
      short = reached.short;
      frames = reached_frames _ _ _ _ _ _ _ _ _ _ _ _ c.requires.coding
          (λ i. (c.requires.frames ∙ sym c.from.ensures) i * sym frame i) reached;
      limit = omega (arith, reached.read.in_limit);
    }

pub overflow_add-result : goal.overflow_add-result
overflow_add-result g c = omega (arith, c.in_ok-last.ensures.ok.read.in_limit)

pub returns-clause-few : goal.returns-clause-few
returns-clause-few g c = few_taken _ c.in_ok-last.last.before c.in_ok-last.last.count c.frame_bytes-frame.result
    (regroup _ _ _ c.in_ok-last.ensures.ok.read.in_limit)

pub returns-in_err-skipped-clause-err : goal.returns-in_err-skipped-clause-err
returns-in_err-skipped-clause-err g c before opened fits =
    let (error, is, gives) = err_from_is_err_and c.from_residual.result c.from_residual.ensures.1 in
    let missed = rw c.script-2.ensures.script at c.in_err-skipped.ensures.err in
    let frame : c.frame_bytes-frame.result ≡ frame_bytes c.args.worker.now.script c.args.header.coding =
    c.frame_bytes-frame.ensures ∙ ap (λ (s : Script). frame_bytes s c.args.header.coding) c.script.ensures.script in
    rw (is, gives) (early.unskipped _ _ c.requires.runs.holds.ready _ c.args.frames _ _ _ _ _ opened _ _ _
    (λ i. c.from.ensures i * frame i) missed)

pub returns-then-skipped-span-clause-err : goal.returns-then-skipped-span-clause-err
returns-then-skipped-span-clause-err g c before opened fits =
    let frame : c.frame_bytes-frame.result ≡ frame_bytes c.args.worker.now.script c.args.header.coding =
    c.frame_bytes-frame.ensures ∙ ap (λ (s : Script). frame_bytes s c.args.header.coding) c.script.ensures.script in
    let skips = rw c.script-2.ensures.script at c.in_ok-skipped.ensures.ok in
    rw frame (early.ends_before _ _ c.requires.runs.holds.ready _ c.args.frames _ _ _ _ _ opened _ _ _
    (λ i. c.from.ensures i * frame i) skips c.if-skipped-span.true c.requires.enough)

pub returns-in_err-last-clause-err : goal.returns-in_err-last-clause-err
returns-in_err-last-clause-err g c before opened fits =
    let (error, is, gives) = err_from_is_err_and c.from_residual-in_err-last.result
    c.from_residual-in_err-last.ensures.1 in
    let frame : c.frame_bytes-frame.result ≡ frame_bytes c.args.worker.now.script c.args.header.coding =
    c.frame_bytes-frame.ensures ∙ ap (λ (s : Script). frame_bytes s c.args.header.coding) c.script.ensures.script in
    let skips = rw c.script-2.ensures.script at c.in_ok-skipped.ensures.ok in
    rw (is, gives, ← c.requires.frames)
    (ends.broke_rest _ _ _ _ _ _ _ _ _ c.requires.runs c.requires.coding
    (λ i. (c.from.ensures ∙ sym c.requires.frames) i * frame i) opened
    skips.bytes skips.gave (omega (arith, skips.long, skips.in_part, c.if-skipped-span.false))
    (skips.no_fault, skips.going (omega (arith, skips.in_part, c.if-skipped-span.false))) _ _ _ _
    c.in_err-last.ensures.err)

pub returns-in_err-close-clause-err : goal.returns-in_err-close-clause-err
returns-in_err-close-clause-err g c before opened fits =
    let (error, is, gives) = err_from_is_err_and c.from_residual-in_err-close.result
    c.from_residual-in_err-close.ensures.1 in
    let frame : c.frame_bytes-frame.result ≡ frame_bytes c.args.worker.now.script c.args.header.coding =
    c.frame_bytes-frame.ensures ∙ ap (λ (s : Script). frame_bytes s c.args.header.coding) c.script.ensures.script in
    let skips = rw c.script-2.ensures.script at c.in_ok-skipped.ensures.ok in
    rw (is, gives, ← c.requires.frames)
    (ends.unclosed_rest _ _ _ _ _ _ _ _ _ c.requires.runs c.requires.coding
    (λ i. (c.from.ensures ∙ sym c.requires.frames) i * frame i) opened
    skips.bytes skips.gave (omega (arith, skips.long, skips.in_part, c.if-skipped-span.false))
    (skips.no_fault, skips.going (omega (arith, skips.in_part, c.if-skipped-span.false))) _ _ _ _
    _ refl c.in_ok-last.ensures.ok _ _ _ _ c.in_err-close.ensures.err)

pub returns-clause-ok : goal.returns-clause-ok
returns-clause-ok g c before opened fits =
    let frame : c.frame_bytes-frame.result ≡ frame_bytes c.args.worker.now.script c.args.header.coding =
    c.frame_bytes-frame.ensures ∙ ap (λ (s : Script). frame_bytes s c.args.header.coding) c.script.ensures.script in
    let skips = rw c.script-2.ensures.script at c.in_ok-skipped.ensures.ok in
    rw (frame, ← c.requires.frames)
    (ends.closed_rest _ _ _ _ _ _ _ _ _ c.requires.runs c.requires.coding
    (λ i. (c.from.ensures ∙ sym c.requires.frames) i * frame i) opened
    skips.bytes skips.gave (omega (arith, skips.long, skips.in_part, c.if-skipped-span.false))
    (skips.no_fault, skips.going (omega (arith, skips.in_part, c.if-skipped-span.false))) _ _ _ _
    _ refl c.in_ok-last.ensures.ok fits _ _ _ c.in_ok-close.ensures.ok)
