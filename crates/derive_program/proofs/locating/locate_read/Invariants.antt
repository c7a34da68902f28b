use Rattle.derive_program.proofs.locating.locate_read.Given as goal

abbrev pub ghosts-locate : goal.ghosts-locate
ghosts-locate g a = record { name = a.blank.name; parts = a.blank.parts }
