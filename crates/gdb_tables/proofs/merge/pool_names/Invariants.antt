use Rattle.std.proofs.Common.{◌≡◌, ◌++◌}
use Rattle.std.specs.List.{flat_map}
use Rattle.std.specs.Vec.Iter.{into_iter_items}
use Rattle.gdb_index_format.specs.Named.{all_named}
use Rattle.gdb_scan.specs.Groups.{groups}
use Rattle.gdb_index.specs.Hashed.{hashes_of}
use Rattle.gdb_index.specs.Scan.{HaveSmallWords}
use Rattle.gdb_tables.specs.Merged.{AreSorted}
use Rattle.gdb_tables.specs.steps.Distributed.{lists_shown}
use Rattle.gdb_tables.proofs.merge.pool_names.Given as goal

abbrev pub invariant-loop-elements : goal.invariant-loop-elements
invariant-loop-elements l = record {
  taken : into_iter_items l.initial.elements-iterator ≡ l.yielded ++ into_iter_items l.elements-iterator;
  sorted : AreSorted (flat_map (λ ps. groups ps) (lists_shown l.yielded)) (all_named l.list.items);
  fit : HaveSmallWords (all_named l.list.items);
  hashed : l.hashes.items ≡ hashes_of (all_named l.list.items);
}
