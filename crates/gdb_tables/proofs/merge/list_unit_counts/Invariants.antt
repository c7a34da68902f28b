use Rattle.std.proofs.Common.{◌≡◌, ◌++◌, drop}
use Rattle.gdb_tables.specs.Scans.{unit_counts}
use Rattle.gdb_tables.proofs.merge.list_unit_counts.Given as goal

abbrev pub invariant-loop-scan : goal.invariant-loop-scan
invariant-loop-scan l = record {
  left : l.counts.items ++ unit_counts (drop l.scan-index l.scans) ≡ unit_counts l.scans;
}
