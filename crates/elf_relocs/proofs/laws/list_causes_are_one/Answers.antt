use Rattle.elf_relocs.proofs.CauseLemmas.{one_list_cause, no_list_cause}
use Rattle.elf_relocs.proofs.laws.list_causes_are_one.Goals as goal

pub returns-clause-one : goal.returns-clause-one
returns-clause-one c = one_list_cause

pub returns-clause-none : goal.returns-clause-none
returns-clause-none c = no_list_cause
