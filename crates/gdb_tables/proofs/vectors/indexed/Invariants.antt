use Rattle.std.proofs.Common.{take}
use Rattle.gdb_tables.proofs.Vectoring.{Indexing}
use Rattle.gdb_tables.proofs.vectors.indexed.Given as goal

abbrev pub invariant-loop-named : goal.invariant-loop-named
invariant-loop-named l = Indexing (take l.named-index l.elements) l.names.keys l.indexes.items
