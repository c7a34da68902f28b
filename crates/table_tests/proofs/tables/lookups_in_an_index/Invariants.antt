use Rattle.table_tests.proofs.tables.lookups_in_an_index.Given as goal

abbrev pub ghosts-find : goal.ghosts-find
ghosts-find g a = record { name = a.blank.name; parts = a.blank.parts }
