use Rattle.gdb_index_format.proofs.UnitLists.{one_list, no_list, one_place, one_cause}
use Rattle.gdb_index_format.proofs.laws.units_are_one.Goals as goal

pub returns : goal.returns
returns c = record { one_list = one_list; no_list = no_list; one_offset = one_place; one_cause = one_cause }
