use Rattle.std.proofs.Common.{◌≡◌, ◌+◌, ◌*◌, take, length}
use Rattle.std.specs.List.{flat_map}
use Rattle.gdb_index.specs.Layout.{address_bytes}
use Rattle.gdb_index.specs.steps.Writes.{Extends}
use Rattle.gdb_index.proofs.writing.append_addresses.Given as goal

abbrev pub invariant-loop-entry : goal.invariant-loop-entry
invariant-loop-entry l = record {
  extends : Extends l.initial.buf l.buf l.at (flat_map address_bytes (take l.entry-index l.addresses));
  end : l.offset ≡ l.at + length (flat_map address_bytes (take l.entry-index l.addresses));
  offset_is : l.offset ≡ l.at + 20 * l.entry-index;
}
