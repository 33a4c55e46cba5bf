use Rattle.dsp_program_tests.proofs.chain.a_new_chain_goes_on.Given as goal

abbrev pub ghosts-resumes : goal.ghosts-resumes
ghosts-resumes g a = record { name = a.blank.name; parts = a.blank.parts }
