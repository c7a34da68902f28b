use Rattle.std.proofs.Common.{◌≡◌, ◌-◌, ◌≤◌, length}
use Rattle.gdb_index_format.specs.Units.{IsUnitFront, total_length}
use Rattle.dwarf_sections.proofs.units.parse_cu_boundaries.Given as goal

abbrev pub invariant-loop-at : goal.invariant-loop-at
invariant-loop-at l = record {
  front : IsUnitFront l.bytes l.units.items;
  reached : total_length l.units.items ≡ l.at;
  within : l.at ≤ length l.bytes;
}

abbrev pub decreases-loop-at : goal.decreases-loop-at
decreases-loop-at l = length l.bytes - l.at
