use Rattle.frozen_cli.proofs.stages.part.Given as goal

abbrev pub ghosts-lookup_alone : goal.ghosts-lookup_alone
ghosts-lookup_alone a = record { name = a.blank.name; parts = a.blank.parts }
