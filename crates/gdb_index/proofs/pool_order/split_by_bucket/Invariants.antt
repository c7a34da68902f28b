use Rattle.std.proofs.Common.{◌≡◌, ◌++◌}
use Rattle.std.specs.Vec.Iter.{into_iter_items}
use Rattle.gdb_index_format.specs.Named.{all_named}
use Rattle.gdb_index.specs.steps.Split.{lists_named, split_by_bucket as split_of}
use Rattle.gdb_index.proofs.pool_order.split_by_bucket.Given as goal

abbrev pub invariant-loop-named : goal.invariant-loop-named
invariant-loop-named l =
    (l.fn.names.items ≡ l.yielded ++ into_iter_items l.named-iterator) × (lists_named l.lists.items ≡ split_of (all_named l.yielded))
