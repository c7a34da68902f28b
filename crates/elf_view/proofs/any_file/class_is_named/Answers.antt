use Rattle.elf_view.proofs.ClassNames.{class_is_named}
use Rattle.elf_view.proofs.any_file.class_is_named.Goals as goal

pub returns : goal.returns
returns c = class_is_named
