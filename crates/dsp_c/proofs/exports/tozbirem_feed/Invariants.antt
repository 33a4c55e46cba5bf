use Rattle.dsp_c.proofs.exports.tozbirem_feed.Given as goal

abbrev pub ghosts-counted_piece : goal.ghosts-counted_piece
ghosts-counted_piece a = record { name = a.blank.name; parts = a.blank.parts }
