use Rattle.std.proofs.Common.{arith}
use Rattle.std.proofs.lemmas.Result.{err_from_is_err_and}
use Rattle.dsp_session.proofs.SkipLaws as laws
use Rattle.dsp_session.proofs.resuming.skip_samples.Goals as goal

pub skipping-init : goal.skipping-init
skipping-init g c = laws.skip_starts _ _ _ _ c.requires.limit

pub returns-in_err-count-clause-err : goal.returns-in_err-count-clause-err
returns-in_err-count-clause-err g c =
    let (error, is, same) = err_from_is_err_and c.from_residual.result c.from_residual.ensures.1 in
    rw (is, same) (laws.skip_fails _ _ _ _ _ _ c.skipping.invariant _ _ _ c.in_err-count.ensures.err)

pub returns-then-count-lt-PIECE-clause-ok : goal.returns-then-count-lt-PIECE-clause-ok
returns-then-count-lt-PIECE-clause-ok g c =
    laws.skip_ends _ _ _ _ _ _ c.skipping.invariant _ _ _ c.in_ok-count.ensures.ok
    (omega (arith, c.if-count-lt-PIECE.true))

pub skipping-preserved : goal.skipping-preserved
skipping-preserved g c = laws.skip_more _ _ _ _ _ _ c.skipping.invariant _ _ _ c.in_ok-count.ensures.ok
    (λ short. absurd (omega (arith, short, c.if-count-lt-PIECE.false)))
