use Rattle.lookup_bench.proofs.lookups.lookups.Given as goal

abbrev pub ghosts-found_alone : goal.ghosts-found_alone
ghosts-found_alone a = record { name = a.blank.name; parts = a.blank.parts }
