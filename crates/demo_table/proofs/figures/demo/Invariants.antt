use Rattle.demo_table.proofs.figures.demo.Given as goal

abbrev pub ghosts-look_all_up : goal.ghosts-look_all_up
ghosts-look_all_up a = record { name = a.blank.name; parts = a.blank.parts }
