use Rattle.dsp_check_tests.proofs.signals.scripts_are_worked_out.Given as goal

abbrev pub ghosts-rows : goal.ghosts-rows
ghosts-rows g a = record { name = a.blank.name; parts = a.blank.parts }
