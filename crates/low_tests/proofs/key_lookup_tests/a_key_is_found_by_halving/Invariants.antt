use Rattle.low_tests.proofs.key_lookup_tests.a_key_is_found_by_halving.Given as goal

abbrev pub ghosts-answers : goal.ghosts-answers
ghosts-answers g a = record { name = a.blank.name; parts = a.blank.parts }
