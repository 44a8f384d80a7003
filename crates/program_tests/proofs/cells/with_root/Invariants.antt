use Rattle.program_tests.proofs.cells.with_root.Given as goal

abbrev pub ghosts-whole : goal.ghosts-whole
ghosts-whole g a = record { name = a.blank.name; parts = a.blank.parts }
