use Rattle.sframe_tests.proofs.find.functions_are_found.Given as goal

abbrev pub ghosts-find : goal.ghosts-find
ghosts-find g a = record { name = a.blank.name; parts = a.blank.parts }
