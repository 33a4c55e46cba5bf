use Rattle.dsp_library_tests.proofs.tests.counted_calls.Given as goal

abbrev pub ghosts-counted : goal.ghosts-counted
ghosts-counted g a = record { name = a.blank.name; parts = a.blank.parts }
