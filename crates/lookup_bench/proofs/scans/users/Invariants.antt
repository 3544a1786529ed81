use Rattle.lookup_bench.proofs.scans.users.Given as goal

abbrev pub ghosts-part : goal.ghosts-part
ghosts-part a = record { name = a.blank.name; parts = a.blank.parts }
