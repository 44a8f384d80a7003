use Rattle.session_tests.proofs.kept.kept.Given as goal

abbrev pub ghosts-told_thrice : goal.ghosts-told_thrice
ghosts-told_thrice a = record { name = a.blank.name; parts = a.blank.parts }
