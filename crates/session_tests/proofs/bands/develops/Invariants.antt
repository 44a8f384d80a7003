use Rattle.session_tests.proofs.bands.develops.Given as goal

abbrev pub ghosts-make_all : goal.ghosts-make_all
ghosts-make_all a = record { name = a.blank.name; parts = a.blank.parts }
