use Rattle.dsp_program_tests.proofs.chain.no_blocks_pass_frames_on.Given as goal

abbrev pub ghosts-gives : goal.ghosts-gives
ghosts-gives g a = record { name = a.blank.name; parts = a.blank.parts }
