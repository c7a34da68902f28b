use Rattle.std.proofs.Common.{◌≡◌, ◌++◌}
use Rattle.std.specs.List.{flat_map}
use Rattle.std.specs.Vec.Iter.{into_iter_items}
use Rattle.gdb_index_format.specs.Named.{all_named}
use Rattle.gdb_index.specs.steps.Split.{lists_named}
use Rattle.gdb_index.proofs.pool_order.in_pool_order.Given as goal

abbrev pub invariant-loop-bucket : goal.invariant-loop-bucket
invariant-loop-bucket l =
    (into_iter_items l.initial.bucket-iterator ≡ l.yielded ++ into_iter_items l.bucket-iterator) × (all_named l.list.items ≡ flat_map (λ ns. ns) (lists_named l.yielded))
