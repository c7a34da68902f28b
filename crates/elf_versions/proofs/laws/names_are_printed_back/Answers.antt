use Rattle.elf_versions.proofs.LawLemmas.{printed_back}
use Rattle.elf_versions.proofs.laws.names_are_printed_back.Goals as goal

pub returns : goal.returns
returns c = printed_back
