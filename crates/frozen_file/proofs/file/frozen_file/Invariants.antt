use Rattle.frozen_file.proofs.file.frozen_file.Given as goal

abbrev pub ghosts-measure_alone : goal.ghosts-measure_alone
ghosts-measure_alone a = record { name = a.blank.name; parts = a.blank.parts }
