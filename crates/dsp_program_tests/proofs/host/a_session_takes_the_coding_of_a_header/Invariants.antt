use Rattle.dsp_program_tests.proofs.host.a_session_takes_the_coding_of_a_header.Given as goal

abbrev pub ghosts-samples_of_24_bits : goal.ghosts-samples_of_24_bits
ghosts-samples_of_24_bits g a = record { name = a.blank.name; parts = a.blank.parts }
