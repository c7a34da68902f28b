use Rattle.std.proofs.Common.{◌≡◌, ◌+◌, ◌*◌, ◌≤◌, take, drop, ◌^◌}
use Rattle.std.specs.List.{AllByRecursion}
use Rattle.gdb_scan.specs.Scan.{HasSoundNames}
use Rattle.gdb_tables.specs.Scans.{unit_total}
use Rattle.gdb_tables.proofs.merge.count_units.Given as goal

abbrev pub invariant-loop-scan : goal.invariant-loop-scan
invariant-loop-scan l = record {
  left : l.count + unit_total (drop l.scan-index l.scans) ≡ unit_total l.scans;
  small : l.count ≤ l.scan-index * 2 ^ 37;
  sound : AllByRecursion HasSoundNames (take l.scan-index l.scans);
}
