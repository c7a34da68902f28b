use Rattle.gdb_tests.proofs.tables.indexes_are_written.Given as goal

abbrev pub ghosts-find : goal.ghosts-find
ghosts-find g a = record { name = a.blank.name; parts = a.blank.parts }
