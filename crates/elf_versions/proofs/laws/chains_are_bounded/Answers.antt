use Rattle.elf_versions.proofs.LawLemmas.{records_bounded, heads_bounded, record_error_last, head_error_last}
use Rattle.elf_versions.proofs.laws.chains_are_bounded.Goals as goal

pub returns-clause-count : goal.returns-clause-count
returns-clause-count c = records_bounded

pub returns-clause-head_count : goal.returns-clause-head_count
returns-clause-head_count c = heads_bounded

pub returns-clause-last : goal.returns-clause-last
returns-clause-last c = record_error_last

pub returns-clause-head_last : goal.returns-clause-head_last
returns-clause-head_last c = head_error_last
