use Rattle.dsp_program_tests.proofs.resume.states_of_all_kinds_go_on.Given as goal

abbrev pub ghosts-play_states : goal.ghosts-play_states
ghosts-play_states g a = record { name = a.blank.name; parts = a.blank.parts }
