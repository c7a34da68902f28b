use Rattle.elf_view.proofs.ClassNames.{class_is_named}
use Rattle.elf_view.proofs.file.File.well_formed.Goals as goal

pub returns-clause-class : goal.returns-clause-class
returns-clause-class g c = rw (← c.self.view_is) (class_is_named g.C.ElfClass.class c.self.inside.is_dynamic c.self.inside.bytes.now c.self.invariant.well_formed)
