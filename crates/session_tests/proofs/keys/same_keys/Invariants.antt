use Rattle.session_tests.proofs.keys.same_keys.Given as goal

abbrev pub ghosts-steps : goal.ghosts-steps
ghosts-steps a = record { name = a.blank.name; parts = a.blank.parts }
