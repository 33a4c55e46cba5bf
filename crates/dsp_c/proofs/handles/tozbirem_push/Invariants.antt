use Rattle.dsp_c.proofs.handles.tozbirem_push.Given as goal

abbrev pub ghosts-counted_push : goal.ghosts-counted_push
ghosts-counted_push a = record { name = a.blank.name; parts = a.blank.parts }
