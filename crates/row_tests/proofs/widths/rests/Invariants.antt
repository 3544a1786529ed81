use Rattle.row_tests.proofs.widths.rests.Given as goal

abbrev pub ghosts-rests_alone : goal.ghosts-rests_alone
ghosts-rests_alone a = record { name = a.blank.name; parts = a.blank.parts }
