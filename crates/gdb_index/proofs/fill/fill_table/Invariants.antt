use Rattle.std.proofs.Common.{◌≡◌}
use Rattle.gdb_index_format.specs.Named.{all_named}
use Rattle.gdb_index.specs.steps.Passed.{ArePassed}
use Rattle.gdb_index.specs.Pool.{vector_offset, name_offset}
use Rattle.gdb_index.proofs.Filling.{FillsTo}
use Rattle.gdb_index.proofs.fill.fill_table.Given as goal

abbrev pub invariant-loop-index : goal.invariant-loop-index
invariant-loop-index l = record {
  fills : FillsTo l.table l.slots (all_named l.names) l.index;
  vector_is : l.vector ≡ vector_offset (all_named l.names) l.index;
  name_is : l.name ≡ name_offset (all_named l.names) l.index;
  passed : ArePassed l.table l.passed l.slots;
}
