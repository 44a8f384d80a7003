use Rattle.stage_tests.proofs.trial.parts.Given as goal

abbrev pub ghosts-develop : goal.ghosts-develop
ghosts-develop g a = record { name = a.blank.name; parts = a.blank.parts }
