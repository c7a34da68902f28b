use Rattle.elf_view.proofs.CauseLemmas.{one_group_cause, no_group_cause}
use Rattle.elf_view.proofs.laws.group_causes_are_one.Goals as goal

pub returns-clause-one : goal.returns-clause-one
returns-clause-one c = one_group_cause

pub returns-clause-none : goal.returns-clause-none
returns-clause-none c = no_group_cause
