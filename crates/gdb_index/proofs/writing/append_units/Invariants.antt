use Rattle.std.proofs.Common.{◌≡◌, ◌+◌, ◌*◌, take, length}
use Rattle.std.specs.List.{flat_map}
use Rattle.gdb_index.specs.Layout.{unit_bytes, AreUnits}
use Rattle.gdb_index.specs.steps.Writes.{Extends}
use Rattle.gdb_index.proofs.writing.append_units.Given as goal

abbrev pub invariant-loop-unit : goal.invariant-loop-unit
invariant-loop-unit l = record {
  extends : Extends l.initial.buf l.buf l.at (flat_map unit_bytes (take l.unit-index l.units));
  end : l.offset ≡ l.at + length (flat_map unit_bytes (take l.unit-index l.units));
  fit : AreUnits (take l.unit-index l.units);
  offset_is : l.offset ≡ l.at + 16 * l.unit-index;
}
