use Rattle.std.proofs.Common.{◌≡◌, ◌∙◌, ◌*◌, ◌/◌, ap, sym, length, arith, ℕ, ℤ, List}
use Rattle.std.proofs.lemmas.Result.{err_from_is_err_and}
use Rattle.dsp_defs.specs.Block.{frames_of, whole_chain}
use Rattle.dsp_defs.specs.Bytes.{samples, width}
use Rattle.dsp_defs.specs.declared.format.Coding.{Coding}
use Rattle.dsp_defs.proofs.BlockLaws.{length-values}
use Rattle.dsp_defs.proofs.SampleLaws.{length-samples}
use Rattle.dsp_check.specs.Channels.{frame_count}
use Rattle.dsp_check.specs.Steps.{output_around, output_of}
use Rattle.dsp_check.proofs.CheckEnds as laws
use Rattle.dsp_check.proofs.checking.check.Given.{Over}
use Rattle.dsp_check.proofs.checking.check.Goals as goal
use Rattle.dsp_check.proofs.checking.check.Goals.{After-compare}

-- the frames of a signal are the whole ones among its bytes
counted : (channels : List (List ℤ)) (coding : Coding) (count : ℕ) (bytes : List ℕ) →
    frames_of channels ≡ samples coding count bytes → frame_count channels ≡ length bytes / (count * width coding)
counted channels coding count bytes same = sym (length-values (frame_count channels) _) ∙ ap length same ∙
    length-samples coding count bytes

pub returns-in_err-header-clause-err : goal.returns-in_err-header-clause-err
returns-in_err-header-clause-err g c =
    let (error, is, same) = err_from_is_err_and c.from_residual.result c.from_residual.ensures.1 in
    rw (is, same) (laws.stops_unopened c.in_err-header.ensures.err)

pub returns-in_err-samples-clause-err : goal.returns-in_err-samples-clause-err
returns-in_err-samples-clause-err g c =
    let unread = rw c.bytes_past_limit-most.ensures at c.in_err-samples.ensures.err in
    let (error, is, same) = err_from_is_err_and c.from_residual-in_err-samples.result
    c.from_residual-in_err-samples.ensures.1 in
    rw (is, same) (laws.stops_unread c.requires.sound c.in_ok-header.ensures.ok unread)

pub check_lengths-requires-clause-taken : goal.check_lengths-requires-clause-taken
check_lengths-requires-clause-taken g c =
    let part = rw (c.bytes_past_limit-most.ensures, ← c.as_slice-bytes.ensures.value) at c.in_ok-samples.ensures.ok in
    rw c.frame_bytes.ensures (laws.few_taken c.requires.sound c.in_ok-header.ensures.ok part)

pub returns-in_err-check_lengths-clause-err : goal.returns-in_err-check_lengths-clause-err
returns-in_err-check_lengths-clause-err g c =
    let part = rw (c.bytes_past_limit-most.ensures, ← c.as_slice-bytes.ensures.value) at c.in_ok-samples.ensures.ok in
    let (error, is, same) = err_from_is_err_and c.from_residual-in_err-check_lengths.result
    c.from_residual-in_err-check_lengths.ensures.1 in
    rw (is, same) (laws.stops_long c.requires.sound c.in_ok-header.ensures.ok part (omega arith) _
    (rw c.frame_bytes.ensures at c.in_err-check_lengths.ensures.err))

pub returns-in_err-signal-clause-err : goal.returns-in_err-signal-clause-err
returns-in_err-signal-clause-err g c =
    let part = rw (c.bytes_past_limit-most.ensures, ← c.as_slice-bytes.ensures.value) at c.in_ok-samples.ensures.ok in
    let (error, is, same) = err_from_is_err_and c.from_residual-in_err-signal.result
    c.from_residual-in_err-signal.ensures.1 in
    rw (is, same) (laws.stops_wanting c.requires.sound c.in_ok-header.ensures.ok part (omega arith))

pub evaluate-requires-clause-no_window : goal.evaluate-requires-clause-no_window
evaluate-requires-clause-no_window g c =
    rw (counted _ _ _ _ c.in_ok-signal.ensures.values)
    (rw c.frame_bytes.ensures at c.in_ok-check_lengths.ensures.ok).no_window

pub evaluate-requires-clause-small : goal.evaluate-requires-clause-small
evaluate-requires-clause-small g c =
    rw (counted _ _ _ _ c.in_ok-signal.ensures.values)
    (rw c.frame_bytes.ensures at c.in_ok-check_lengths.ensures.ok).few

pub returns-in_err-given-clause-err : goal.returns-in_err-given-clause-err
returns-in_err-given-clause-err g c =
    let part = rw (c.bytes_past_limit-most.ensures, ← c.as_slice-bytes.ensures.value) at c.in_ok-samples.ensures.ok in
    let (error, is, same) = err_from_is_err_and c.from_residual-in_err-given.result
    c.from_residual-in_err-given.ensures.1 in
    rw (is, same) (laws.stops_wanting c.requires.sound c.in_ok-header.ensures.ok part
    (rw (counted _ _ _ _ c.in_ok-signal.ensures.values) at c.evaluate.ensures.products))

pub returns-in_err-wanted-clause-err : goal.returns-in_err-wanted-clause-err
returns-in_err-wanted-clause-err g c =
    let part = rw (c.bytes_past_limit-most.ensures, ← c.as_slice-bytes.ensures.value) at c.in_ok-samples.ensures.ok in
    let (error, is, same) = err_from_is_err_and c.from_residual-in_err-wanted.result
    c.from_residual-in_err-wanted.ensures.1 in
    rw (is, same) (laws.stops_wanting c.requires.sound c.in_ok-header.ensures.ok part
    (rw (counted _ _ _ _ c.in_ok-signal.ensures.values) at c.evaluate.ensures.products))

-- the output of the samples
wanted : (g : Over) (c : After-compare g) → c.as_slice.result.now ≡ output_of c.args.script.now c.in_ok-header.header
    c.as_slice-bytes.result.now
wanted g c =
    let s = c.args.script.now in
    c.as_slice.ensures.value ∙ c.in_ok-wanted.ensures ∙ ap (output_around s c.in_ok-header.header)
    (c.in_ok-given.ensures.values ∙ ap (whole_chain s.input.format s.input.channels s.blocks)
    c.in_ok-signal.ensures.values)

pub returns-in_err-size-clause-err : goal.returns-in_err-size-clause-err
returns-in_err-size-clause-err g c =
    let part = rw (c.bytes_past_limit-most.ensures, ← c.as_slice-bytes.ensures.value) at c.in_ok-samples.ensures.ok in
    let wanted = wanted g (goal.at.returns-in_err-size-clause-err g c).After-compare in
    let (error, is, same) = err_from_is_err_and c.from_residual-in_err-size.result
    c.from_residual-in_err-size.ensures.1 in
    rw (is, same) (laws.stops_compared c.requires.sound c.in_ok-header.ensures.ok part
    (rw (counted _ _ _ _ c.in_ok-signal.ensures.values) at c.evaluate.ensures.products)
    (rw c.frame_bytes.ensures at c.in_ok-check_lengths.ensures.few)
    (rw c.frame_bytes.ensures at c.in_ok-check_lengths.ensures.ok) _ (rw wanted at c.in_err-size.ensures.err))

pub returns-clause-ok : goal.returns-clause-ok
returns-clause-ok g c =
    let part = rw (c.bytes_past_limit-most.ensures, ← c.as_slice-bytes.ensures.value) at c.in_ok-samples.ensures.ok in
    let wanted = wanted g (goal.at.returns-clause-ok g c).After-compare in
    laws.is_done c.requires.sound c.in_ok-header.ensures.ok part
    (rw (counted _ _ _ _ c.in_ok-signal.ensures.values) at c.evaluate.ensures.products)
    (rw c.frame_bytes.ensures at c.in_ok-check_lengths.ensures.few)
    (rw c.frame_bytes.ensures at c.in_ok-check_lengths.ensures.ok)
    (c.in_ok-size.ensures.ok.0 ∙ ap length wanted) (rw wanted at c.in_ok-size.ensures.ok.1)
