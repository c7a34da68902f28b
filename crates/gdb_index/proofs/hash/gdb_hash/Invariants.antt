use Rattle.std.proofs.Common.{◌≡◌, take}
use Rattle.gdb_index_format.specs.Hash.{name_hash}
use Rattle.gdb_index.proofs.hash.gdb_hash.Given as goal

abbrev pub invariant-loop-byte : goal.invariant-loop-byte
invariant-loop-byte l = l.hash ≡ name_hash (take l.byte-index l.name)
