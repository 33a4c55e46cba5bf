use Rattle.dsp_c.proofs.exports.tozbirem_finish.Given as goal

abbrev pub ghosts-counted_tail : goal.ghosts-counted_tail
ghosts-counted_tail a = record { name = a.blank.name; parts = a.blank.parts }
