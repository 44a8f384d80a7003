use Rattle.session_tests.proofs.kept.dropped_in_use.Given as goal

abbrev pub ghosts-two_cells : goal.ghosts-two_cells
ghosts-two_cells a = record { name = a.blank.name; parts = a.blank.parts }
