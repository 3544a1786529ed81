use Rattle.low_tests.proofs.key_lookup_tests.keys_gaps_and_ends.Given as goal

abbrev pub ghosts-answers : goal.ghosts-answers
ghosts-answers g a = record { name = a.blank.name; parts = a.blank.parts }
