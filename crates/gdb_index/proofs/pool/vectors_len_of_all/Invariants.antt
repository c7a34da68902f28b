use Rattle.std.proofs.Common.{◌≡◌, take}
use Rattle.gdb_index_format.specs.Named.{all_named}
use Rattle.gdb_index.specs.Pool.{vectors_len}
use Rattle.gdb_index.proofs.pool.vectors_len_of_all.Given as goal

abbrev pub invariant-loop-named : goal.invariant-loop-named
invariant-loop-named l = l.total ≡ vectors_len (take l.named-index (all_named l.names))
