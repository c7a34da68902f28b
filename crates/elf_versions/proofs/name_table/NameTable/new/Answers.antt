use Rattle.elf_versions.proofs.NameLemmas.{none_are_shown}
use Rattle.elf_versions.proofs.name_table.NameTable.new.Goals as goal

pub returns : goal.returns
returns c = rw c.in_ok-names.ensures (none_are_shown (λ b. b.now) c.args.count)
