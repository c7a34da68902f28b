use Rattle.std.proofs.Common.{◌≡◌, ◌+◌, take, length}
use Rattle.std.specs.List.{flat_map}
use Rattle.gdb_index_format.specs.Named.{all_named}
use Rattle.gdb_index.specs.Pool.{names_len}
use Rattle.gdb_index.specs.Layout.{name_bytes}
use Rattle.gdb_index.specs.steps.Writes.{Extends}
use Rattle.gdb_index.proofs.writing.append_names.Given as goal

abbrev pub invariant-loop-named : goal.invariant-loop-named
invariant-loop-named l = record {
  extends : Extends l.initial.buf l.buf l.at (flat_map name_bytes (take l.named-index (all_named l.names)));
  end : l.offset ≡ l.at + length (flat_map name_bytes (take l.named-index (all_named l.names)));
  offset_is : l.offset ≡ l.at + names_len (take l.named-index (all_named l.names));
}
