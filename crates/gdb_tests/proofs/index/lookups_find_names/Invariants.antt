use Rattle.gdb_tests.proofs.index.lookups_find_names.Given as goal

abbrev pub ghosts-find : goal.ghosts-find
ghosts-find g a = record { name = a.blank.name; parts = a.blank.parts }
