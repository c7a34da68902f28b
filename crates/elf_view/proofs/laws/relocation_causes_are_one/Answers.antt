use Rattle.elf_view.proofs.CauseLemmas.{one_relocation_cause, no_relocation_cause}
use Rattle.elf_view.proofs.laws.relocation_causes_are_one.Goals as goal

pub returns-clause-one : goal.returns-clause-one
returns-clause-one c = one_relocation_cause

pub returns-clause-none : goal.returns-clause-none
returns-clause-none c = no_relocation_cause
