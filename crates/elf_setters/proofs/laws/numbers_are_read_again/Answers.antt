use Rattle.elf_setters.proofs.PutLemmas.{get_it_with_field}
use Rattle.elf_setters.proofs.laws.numbers_are_read_again.Goals as goal

pub returns : goal.returns
returns c = λ field value bytes room fits. get_it_with_field field value bytes room fits
