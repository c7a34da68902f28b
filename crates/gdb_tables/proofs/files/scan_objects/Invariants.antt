use Rattle.std.proofs.Common.{take}
use Rattle.gdb_tables.specs.Files.{all_parsed, file_bytes}
use Rattle.gdb_tables.proofs.Scanning.{Scanned}
use Rattle.gdb_tables.proofs.files.scan_objects.Given as goal

abbrev pub invariant-loop-object : goal.invariant-loop-object
invariant-loop-object l = record {
  done : Scanned (take l.object (file_bytes (all_parsed l.files))) l.placements l.scans.items;
}
