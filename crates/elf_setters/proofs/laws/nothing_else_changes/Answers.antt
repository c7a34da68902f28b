use Rattle.elf_setters.proofs.PutLemmas.{length_with_field, byte_outside, get_other_with_field}
use Rattle.elf_setters.proofs.laws.nothing_else_changes.Goals as goal

pub returns-clause-size : goal.returns-clause-size
returns-clause-size c = λ field value bytes room. length_with_field field value bytes room

pub returns-clause-bytes : goal.returns-clause-bytes
returns-clause-bytes c = λ field value bytes at room apart. byte_outside field value bytes at room apart

pub returns-clause-fields : goal.returns-clause-fields
returns-clause-fields c = λ field other value bytes room apart. get_other_with_field field other value bytes room apart
