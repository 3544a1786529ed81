use Rattle.frozen_file.proofs.file.refrozen_file.Given as goal

abbrev pub ghosts-measure_again : goal.ghosts-measure_again
ghosts-measure_again a = record { name = a.blank.name; parts = a.blank.parts }
