use Rattle.row_tests.proofs.passes.range_passes.Given as goal

abbrev pub ghosts-ranges_alone : goal.ghosts-ranges_alone
ghosts-ranges_alone a = record { name = a.blank.name; parts = a.blank.parts }
