use Rattle.std.proofs.Common.{◌≡◌, ◌+◌, ◌*◌, take, length}
use Rattle.gdb_index.specs.Layout.{u32s_bytes}
use Rattle.gdb_index.specs.steps.Writes.{Extends}
use Rattle.gdb_index.proofs.writing.append_u32s.Given as goal

abbrev pub invariant-loop-number : goal.invariant-loop-number
invariant-loop-number l = record {
  extends : Extends l.initial.buf l.buf l.at (u32s_bytes (take l.number-index l.numbers));
  end : l.offset ≡ l.at + length (u32s_bytes (take l.number-index l.numbers));
  offset_is : l.offset ≡ l.at + 4 * l.number-index;
}
