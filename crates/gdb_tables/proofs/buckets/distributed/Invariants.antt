use Rattle.std.specs.Vec.Iter.{into_iter_items}
use Rattle.gdb_tables.specs.steps.Distributed.{lists_shown}
use Rattle.gdb_tables.proofs.Distributing.{Distributing}
use Rattle.gdb_tables.proofs.buckets.distributed.Given as goal

abbrev pub invariant-loop-scan : goal.invariant-loop-scan
invariant-loop-scan l = Distributing (lists_shown l.lists.items) l.first (into_iter_items l.scan-iterator) l.fn.scans.items
