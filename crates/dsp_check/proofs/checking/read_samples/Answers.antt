use Rattle.std.proofs.Common.{◌∙◌, ap, length, arith, refl}
use Rattle.std.proofs.lemmas.Result.{err_from_is_err_and}
use Rattle.dsp_input.proofs.PieceLaws.{part_ends, part_fails, part_goes_on, part_going, part_longer}
use Rattle.dsp_input.proofs.PieceLaws.{part_starts}
use Rattle.dsp_input.proofs.SampleBytes.{frame_some}
use Rattle.dsp_check.specs.Steps.{NoInput, NoRoom}
use Rattle.dsp_check.proofs.checking.read_samples.Goals as goal

pub reading-init : goal.reading-init
reading-init g c = record {
  so_far = rw c.new-bytes.ensures.items
      (part_starts c.args.script.now c.args.header c.args.most (g.S.Source.state c.args.input.now) c.requires.start);
  going = refl;
}

pub read_block-requires : goal.read_block-requires
read_block-requires g c =
    let taken = c.len-taken.ensures ∙ c.reading.bytes.ok.0 in
    record {
      limit = omega (arith, taken, c.reading.invariant.so_far.in_limit);
      frame = frame_some c.args.script.now c.args.header.coding c.requires.sound;
      declared = rw taken c.reading.invariant.so_far.declared;
      part = omega (arith, taken, c.reading.invariant.so_far.in_part);
    }

pub returns-in_err-count-clause-err : goal.returns-in_err-count-clause-err
returns-in_err-count-clause-err g c =
    let unread = rw (c.len-taken.ensures ∙ c.reading.bytes.ok.0) at c.in_err-count.ensures.err in
    let (error, is, same) = err_from_is_err_and c.from_residual.result c.from_residual.ensures.1 in
    rw is (NoInput _ same (part_fails _ _ _ _ _ _ c.reading.invariant.so_far c.reading.invariant.going _ _ _ unread))

pub returns-in_err-extend_from_slice-clause-err : goal.returns-in_err-extend_from_slice-clause-err
returns-in_err-extend_from_slice-clause-err g c =
    let read = rw (c.len-taken.ensures ∙ c.reading.bytes.ok.0) at c.in_ok-count.ensures.ok in
    let (error, is, same) = err_from_is_err_and c.from_residual-in_err-extend_from_slice.result
    c.from_residual-in_err-extend_from_slice.ensures.1 in
    rw is (NoRoom _ same (part_goes_on _ _ _ _ _ _ c.reading.invariant.so_far c.reading.invariant.going _ _ _ read))

pub returns-then-count-lt-PIECE-clause-ok : goal.returns-then-count-lt-PIECE-clause-ok
returns-then-count-lt-PIECE-clause-ok g c =
    let read = rw (c.len-taken.ensures ∙ c.reading.bytes.ok.0) at c.in_ok-count.ensures.ok in
    rw c.in_ok-extend_from_slice.ensures.items
    (part_ends _ _ _ _ _ _ c.reading.invariant.so_far c.reading.invariant.going _ _ _ read
    (omega (arith, c.if-count-lt-PIECE.true)))

pub reading-smaller : goal.reading-smaller
reading-smaller g c =
    let read = rw (c.len-taken.ensures ∙ c.reading.bytes.ok.0) at c.in_ok-count.ensures.ok in
    let longer = part_longer _ _ _ _ _ _ c.reading.invariant.so_far c.reading.invariant.going _ _ _ read in
    let more = part_goes_on _ _ _ _ _ _ c.reading.invariant.so_far c.reading.invariant.going _ _ _ read in
    omega (arith, ap length c.in_ok-extend_from_slice.ensures.items)

pub reading-preserved : goal.reading-preserved
reading-preserved g c =
    let read = rw (c.len-taken.ensures ∙ c.reading.bytes.ok.0) at c.in_ok-count.ensures.ok in
    let full = part_going _ _ _ _ _ _ c.reading.invariant.so_far c.reading.invariant.going _ _ _ read
    (λ short. absurd (omega (arith, short, c.if-count-lt-PIECE.false))) in
    record {
      so_far = rw c.in_ok-extend_from_slice.ensures.items
          (part_goes_on _ _ _ _ _ _ c.reading.invariant.so_far c.reading.invariant.going _ _ _ read);
      going = full;
    }
