use Rattle.dsp_example.proofs.main.Given as goal

-- the ledger that the call is given is the blank's
abbrev pub ghosts-filtered : goal.ghosts-filtered
ghosts-filtered a = record { name = a.blank.name; parts = a.blank.parts }
