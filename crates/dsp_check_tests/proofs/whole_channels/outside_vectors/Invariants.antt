use Rattle.dsp_check_tests.proofs.whole_channels.outside_vectors.Given as goal

abbrev pub ghosts-counted : goal.ghosts-counted
ghosts-counted g a = record { name = a.blank.name; parts = a.blank.parts }
