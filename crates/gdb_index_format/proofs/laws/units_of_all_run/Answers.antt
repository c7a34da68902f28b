use Rattle.gdb_index_format.proofs.UnitPlaces.{units_of_all_run_lem}
use Rattle.gdb_index_format.proofs.laws.units_of_all_run.Goals as goal

pub returns : goal.returns
returns c = units_of_all_run_lem
