use Rattle.dsp_program_tests.proofs.runs.runs_to_its_end.Given as goal

abbrev pub ghosts-counted : goal.ghosts-counted
ghosts-counted g a = record { name = a.blank.name; parts = a.blank.parts }
