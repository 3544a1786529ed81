use Rattle.low_tests.proofs.fz_base_tests.ticks_are_counted.Given as goal

abbrev pub ghosts-counted_from : goal.ghosts-counted_from
ghosts-counted_from g a = record { name = a.blank.name; parts = a.blank.parts }
