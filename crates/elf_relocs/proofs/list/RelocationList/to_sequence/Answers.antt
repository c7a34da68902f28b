use Rattle.std.proofs.Common.{List, Ok, ap, sym, ◌∙◌}
use Rattle.elf_format.specs.declared.crel.Crel.{Crel}
use Rattle.elf_relocs.proofs.Items.{all_given}
use Rattle.elf_relocs.proofs.list.RelocationList.to_sequence.Goals as goal

pub returns-in-Rela-clause-relocations : goal.returns-in-Rela-clause-relocations
returns-in-Rela-clause-relocations g c = rw c.in-Rela.is (all_given c.in-Rela.view ∙ ap (λ (r : List Crel). Ok r) (sym c.into_sequence.ensures))
