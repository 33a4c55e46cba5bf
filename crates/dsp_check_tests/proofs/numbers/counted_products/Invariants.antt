use Rattle.dsp_check_tests.proofs.numbers.counted_products.Given as goal

abbrev pub ghosts-products : goal.ghosts-products
ghosts-products g a = record { name = a.blank.name; parts = a.blank.parts }
