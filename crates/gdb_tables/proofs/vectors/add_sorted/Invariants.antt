use Rattle.std.proofs.Common.{◌≡◌, ◌++◌}
use Rattle.std.specs.Vec.Iter.{into_iter_items}
use Rattle.gdb_index_format.specs.Named.{all_named}
use Rattle.gdb_tables.specs.steps.Vectors.{as_groups, AddsSorted}
use Rattle.gdb_tables.proofs.vectors.add_sorted.Given as goal

abbrev pub invariant-loop-named : goal.invariant-loop-named
invariant-loop-named l = record {
  taken : l.fn.names.items ≡ l.yielded ++ into_iter_items l.named-iterator;
  added : AddsSorted (as_groups (all_named l.yielded)) (all_named l.initial.list.items) (all_named l.list.items);
}
