use Rattle.dsp_program_tests.proofs.chain.two_filters_in_any_blocks.Given as goal

abbrev pub ghosts-gives : goal.ghosts-gives
ghosts-gives g a = record { name = a.blank.name; parts = a.blank.parts }

abbrev pub invariant-loop-block : goal.invariant-loop-block
invariant-loop-block g l = Unit {0}
