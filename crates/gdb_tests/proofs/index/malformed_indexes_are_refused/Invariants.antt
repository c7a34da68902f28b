use Rattle.gdb_tests.proofs.index.malformed_indexes_are_refused.Given as goal

abbrev pub ghosts-find : goal.ghosts-find
ghosts-find g a = record { name = a.blank.name; parts = a.blank.parts }
