use Rattle.std.proofs.Common.{◌≡◌, ◌++◌}
use Rattle.gdb_index.specs.Hashed.{hashes_of}
use Rattle.gdb_index_format.specs.Named.{all_named}
use Rattle.gdb_tables.specs.steps.Vectors.{without_elements}
use Rattle.gdb_tables.proofs.vectors.empty_vectors.Given as goal

abbrev pub invariant-loop-key : goal.invariant-loop-key
invariant-loop-key l = record {
  hashed : l.hashes.items ++ hashes_of (without_elements l.key-iterator) ≡ l.initial.hashes.items ++ hashes_of (without_elements l.fn.names.keys);
  left : all_named l.list.items ++ without_elements l.key-iterator ≡ without_elements l.fn.names.keys;
}
