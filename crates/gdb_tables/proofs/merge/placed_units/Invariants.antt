use Rattle.std.proofs.Common.{◌≡◌, ◌*◌, ◌≤◌, ◌++◌, drop, ◌^◌}
use Rattle.gdb_index_format.specs.Published.{end_to_end}
use Rattle.gdb_tables.specs.Scans.{units_in_scans}
use Rattle.gdb_tables.proofs.merge.placed_units.Given as goal

abbrev pub invariant-loop-scan : goal.invariant-loop-scan
invariant-loop-scan l = record {
  left : l.units.items ++ end_to_end l.end (units_in_scans (drop l.scan-index l.scans)) ≡ end_to_end 0 (units_in_scans l.scans);
  small : l.end ≤ l.scan-index * 2 ^ 39;
}
