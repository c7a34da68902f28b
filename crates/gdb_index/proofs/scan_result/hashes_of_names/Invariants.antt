use Rattle.std.proofs.Common.{◌≡◌, take}
use Rattle.gdb_index_format.specs.Named.{all_named}
use Rattle.gdb_index.specs.Hashed.{hashes_of}
use Rattle.gdb_index.proofs.scan_result.hashes_of_names.Given as goal

abbrev pub invariant-loop-named : goal.invariant-loop-named
invariant-loop-named l = record {
  hashed : l.hashes.items ≡ hashes_of (all_named (take l.named-index l.names));
}
