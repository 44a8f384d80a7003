use Rattle.frame_tests.proofs.fetching.read_back.Given as goal

abbrev pub ghosts-fetched : goal.ghosts-fetched
ghosts-fetched a = record { name = a.blank.name; parts = a.blank.parts }
