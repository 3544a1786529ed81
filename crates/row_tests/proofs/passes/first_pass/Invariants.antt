use Rattle.row_tests.proofs.passes.first_pass.Given as goal

abbrev pub ghosts-pass_alone : goal.ghosts-pass_alone
ghosts-pass_alone a = record { name = a.blank.name; parts = a.blank.parts }
