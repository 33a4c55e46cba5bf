use Rattle.dsp_program_tests.proofs.session.each_stream_answers_and_writes.Given as goal

abbrev pub ghosts-streamed : goal.ghosts-streamed
ghosts-streamed g a = record { name = a.blank.name; parts = a.blank.parts }
