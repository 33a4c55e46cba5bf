use Rattle.dsp_check_tests.proofs.files.a_file_is_compared_with_an_output.Given as goal

abbrev pub ghosts-checked : goal.ghosts-checked
ghosts-checked g a = record { name = a.blank.name; parts = a.blank.parts }
