use Rattle.session_tests.proofs.kept.back_again_kept.Given as goal

abbrev pub ghosts-back_again : goal.ghosts-back_again
ghosts-back_again a = record { name = a.blank.name; parts = a.blank.parts }
