use Rattle.gdb_index.proofs.LawLemmas.{slots_exceed_names_lem}
use Rattle.gdb_index.proofs.laws.slots_exceed_names.Goals as goal

pub returns : goal.returns
returns c = slots_exceed_names_lem
