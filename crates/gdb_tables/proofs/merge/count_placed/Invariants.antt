use Rattle.std.proofs.Common.{◌≡◌, ◌+◌, ◌*◌, ◌≤◌, drop, ◌^◌}
use Rattle.gdb_tables.specs.Scans.{placed_total}
use Rattle.gdb_tables.proofs.merge.count_placed.Given as goal

abbrev pub invariant-loop-scan : goal.invariant-loop-scan
invariant-loop-scan l = record {
  left : l.count + placed_total (drop l.scan-index l.scans) ≡ placed_total l.scans;
  small : l.count ≤ l.scan-index * 2 ^ 39;
}
