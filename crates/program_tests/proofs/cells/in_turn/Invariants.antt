use Rattle.program_tests.proofs.cells.in_turn.Given as goal

abbrev pub ghosts-whole : goal.ghosts-whole
ghosts-whole a = record { name = a.blank.name; parts = a.blank.parts }
