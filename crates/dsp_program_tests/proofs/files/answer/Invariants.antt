use Rattle.dsp_program_tests.proofs.files.answer.Given as goal

abbrev pub ghosts-run_files : goal.ghosts-run_files
ghosts-run_files g a = record { name = a.blank.name; parts = a.blank.parts }
