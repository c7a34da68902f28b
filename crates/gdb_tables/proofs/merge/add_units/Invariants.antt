use Rattle.std.proofs.Common.{◌≡◌, ◌+◌, ◌++◌, drop}
use Rattle.gdb_index_format.specs.Published.{end_to_end}
use Rattle.gdb_index_format.specs.Units.{total_length}
use Rattle.gdb_tables.proofs.merge.add_units.Given as goal

abbrev pub invariant-loop-unit : goal.invariant-loop-unit
invariant-loop-unit l = record {
  left : l.units.items ++ end_to_end l.end (drop l.unit-index l.list) ≡ l.initial.units.items ++ end_to_end l.at l.list;
  count : l.end + total_length (drop l.unit-index l.list) ≡ l.at + total_length l.list;
}
