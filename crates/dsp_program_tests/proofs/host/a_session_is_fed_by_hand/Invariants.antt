use Rattle.dsp_program_tests.proofs.host.a_session_is_fed_by_hand.Given as goal

abbrev pub ghosts-three_samples_and_a_tail : goal.ghosts-three_samples_and_a_tail
ghosts-three_samples_and_a_tail g a = record { name = a.blank.name; parts = a.blank.parts }
