use Rattle.gdb_index.proofs.LawLemmas.{hash_ignores_case_lem}
use Rattle.gdb_index.proofs.laws.hash_ignores_case.Goals as goal

pub returns : goal.returns
returns c = hash_ignores_case_lem
