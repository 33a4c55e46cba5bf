use Rattle.dsp_c.proofs.pieces.counted_piece.Goals as goal

pub returns-clause-ok : goal.returns-clause-ok
returns-clause-ok g c = c.feed_piece.ensures.ok

pub returns-clause-err : goal.returns-clause-err
returns-clause-err g c = c.feed_piece.ensures.err
