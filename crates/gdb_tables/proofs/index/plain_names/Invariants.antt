use Rattle.std.proofs.Common.{◌≡◌, ◌++◌}
use Rattle.std.specs.Vec.Iter.{into_iter_items}
use Rattle.gdb_index_format.specs.Named.{all_named}
use Rattle.gdb_tables.specs.steps.Keyed.{all_keyed}
use Rattle.gdb_tables.proofs.index.plain_names.Given as goal

abbrev pub invariant-loop-named : goal.invariant-loop-named
invariant-loop-named l =
    (l.fn.keyed.items ≡ l.yielded ++ into_iter_items l.named-iterator) × (all_named l.names.items ≡ all_keyed l.yielded)
