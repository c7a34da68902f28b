use Rattle.gdb_tables.proofs.OneScans.{one_scan_each}
use Rattle.gdb_tables.proofs.laws.object_scans_are_one.Goals as goal

pub returns : goal.returns
returns c = one_scan_each
