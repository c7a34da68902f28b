use Rattle.gdb_index_format.proofs.Probing.{each_slot_once_lem}
use Rattle.gdb_index_format.proofs.laws.each_slot_once.Goals as goal

pub returns : goal.returns
returns c = each_slot_once_lem
