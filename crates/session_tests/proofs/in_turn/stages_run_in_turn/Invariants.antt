use Rattle.session_tests.proofs.in_turn.stages_run_in_turn.Given as goal

abbrev pub ghosts-in_turn : goal.ghosts-in_turn
ghosts-in_turn g a = record { name = a.blank.name; parts = a.blank.parts }
