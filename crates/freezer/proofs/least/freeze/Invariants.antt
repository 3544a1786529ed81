use Rattle.freezer.proofs.least.freeze.Given as goal

abbrev pub ghosts-measure_alone : goal.ghosts-measure_alone
ghosts-measure_alone a = record { name = a.blank.name; parts = a.blank.parts }
