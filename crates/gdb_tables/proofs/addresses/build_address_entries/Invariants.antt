use Rattle.std.proofs.Common.{List}
use Rattle.gdb_index_format.specs.declared.unit.CuBoundary.{CuBoundary}
use Rattle.gdb_index_format.specs.Objects.{AreUnitsOf}
use Rattle.gdb_tables.specs.Files.{all_parsed, file_bytes}
use Rattle.gdb_tables.proofs.Addressing.{Added}
use Rattle.gdb_tables.proofs.addresses.build_address_entries.Given as goal

abbrev pub invariant-loop-object : goal.invariant-loop-object
invariant-loop-object l = record {
  added : (uss : List (List CuBoundary)) → AreUnitsOf (file_bytes (all_parsed l.files)) uss → Added (all_parsed l.files) uss l.placements l.object l.first l.entries.items;
}
